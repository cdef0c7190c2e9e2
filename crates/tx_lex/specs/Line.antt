-- The line that TeX sees (The TeXbook, chapter 8; TeX: The Program, sections 31 and 362).
use Rattle.std.specs.Prelude.{ℕ, Option, List, [], ◌∷◌, ◌++◌, ◌==◌, ◌-◌, length, take, nat_eq, if◌then◌else◌}
use Rattle.std.specs.List.{ends_with, list_all}
use Rattle.std.specs.Option.{option_to_list}

-- a line of a file without the line feed (10) that ends it, and without one carriage return (13) just before that
abbrev pub without_line_end : List ℕ → List ℕ
without_line_end raw =
    if ends_with nat_eq raw (13 ∷ 10 ∷ []) then take (length raw - 2) raw
    else if ends_with nat_eq raw (10 ∷ []) then take (length raw - 1) raw
    else raw

-- a text without the blanks (code 32) at its end
abbrev pub without_trailing_blanks : List ℕ → List ℕ
without_trailing_blanks [] = []
without_trailing_blanks (c ∷ rest) =
    if list_all (λ d. d == 32) (c ∷ rest) then [] else c ∷ without_trailing_blanks rest

-- the line that TeX sees: then comes the end-of-line character, if there is one
abbrev pub seen_line : List ℕ → Option ℕ → List ℕ
seen_line raw end_of_line = without_trailing_blanks (without_line_end raw) ++ option_to_list end_of_line
