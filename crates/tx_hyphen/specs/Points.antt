-- The places at which a word may be divided.
use Rattle.std.specs.Prelude.{ℕ, ℤ, pos, negsuc, ◌+◌, ◌-◌, ◌%◌, ◌==◌, max, min, List, [], ◌∷◌, ◌++◌, length, take, filter, slice_index, Option, None, Some}
use Rattle.std.specs.List.{range_with_len}
use Rattle.tx_hyphen.specs.declared.spelling.Spelling.{Spelling}
use Rattle.tx_hyphen.specs.Levels.{level_in}
use Rattle.tx_hyphen.specs.Lexicon.{with_letters}
use Rattle.tx_hyphen.specs.Rules.{Rules}

-- a word between its edges, as the patterns see it: .word.
abbrev pub edged : List ℕ → List ℕ
edged word = 0 ∷ word ++ 0 ∷ []

-- the level of a place: an exception's, if the word has one, else the greatest of the patterns
abbrev pub level_by : List Spelling → List ℕ → Option Spelling → ℕ → ℕ
level_by patterns word None place = level_in patterns (edged word) (place + 1)
level_by patterns word (Some exception) place = slice_index exception.levels place

abbrev pub level : Rules → List ℕ → ℕ → ℕ
level rules word place = level_by rules.patterns word (with_letters rules.exceptions word) place

-- \lefthyphenmin and \righthyphenmin count as at least 1 and at most 63
abbrev pub held : ℤ → ℕ
held (pos n) = max 1 (min n 63)
held (negsuc n) = 1

-- the places with an odd level that have enough letters before and after them, in a word or, if it is longer, its first
-- 63 letters (TeX: The Program, 891 to 932); a place is counted by the letters before it
abbrev pub points : Rules → List ℕ → ℤ → ℤ → List ℕ
points rules word left right =
    let letters = take 63 word in
    filter (λ place. level rules letters place % 2 == 1)
    (range_with_len (held left) (length letters + 1 - held right - held left))
