-- Composing characters by ligature commands (TeX: The Program, section 545): the list of what stands from the cursor on,
-- characters by their codes and None for a boundary, is rewritten until nothing follows the cursor.
use Rattle.std.specs.Prelude.{ℕ, zero, suc, ◌/◌, ◌%◌, ◌==◌, Bool, true, false, ◌&&◌, ◌||◌, nat_lt, if◌then◌else◌, Option, Some, None, List, [], ◌∷◌, ◌++◌, drop, option_and_then}
use Rattle.tx_tfm.specs.declared.file.Tfm.{Tfm}
use Rattle.tx_tfm.specs.declared.file.Word.{Word}
use Rattle.tx_tfm.specs.LigKern.{command_of}

-- the ligature command that a pair meets, if it meets one and not a kern
unfoldable pub ligature_of : Tfm → Option ℕ → Option ℕ → Option Word
ligature_of t left right = option_and_then (λ w. if nat_lt w.c 128 then Some w else None) (command_of t left right)

-- the kind of a ligature command, 4a+2b+c: b keeps the current character, c the next one, a says how many to pass over;
-- an unknown kind acts as 0
abbrev pub kind_of : Word → ℕ
kind_of w = if nat_lt w.c 4 || (nat_lt 4 w.c && nat_lt w.c 8) || w.c == 11 then w.c else 0

-- what stands in place of a pair and what follows it: the current character if it is kept, the ligature, the next
-- character if it is kept
abbrev pub pieces_of : ℕ → ℕ → Option ℕ → Option ℕ → List (Option ℕ) → List (Option ℕ)
pieces_of kind ligature current next rest =
    (if kind / 2 % 2 == 1 then current ∷ [] else [])
    ++ Some ligature ∷ ((if kind % 2 == 1 then next ∷ [] else []) ++ rest)

-- what stands from the cursor on after a ligature command, which passes over some of these
abbrev pub rewritten : Word → Option ℕ → Option ℕ → List (Option ℕ) → List (Option ℕ)
rewritten w current next rest = drop (kind_of w / 4) (pieces_of (kind_of w) w.d current next rest)

abbrev pub stay_or_pass : Option Word → List (Option ℕ) → List (Option ℕ) → List (Option ℕ)
stay_or_pass (Some _) here further = here
stay_or_pass None here further = further

abbrev pub by_command : Option Word → Option ℕ → Option ℕ → List (Option ℕ) → List (Option ℕ)
by_command (Some w) current next rest = rewritten w current next rest
by_command None current next rest = []

abbrev pub is_empty : List (Option ℕ) → Bool
is_empty [] = true
is_empty (_ ∷ _) = false

-- the list from the first pair on that meets a ligature command, or nothing where none does
unfoldable pub first_pair : Tfm → List (Option ℕ) → List (Option ℕ)
first_pair t [] = []
first_pair t (current ∷ []) = []
first_pair t (current ∷ next ∷ rest) = stay_or_pass (ligature_of t current next) (current ∷ next ∷ rest) (first_pair t (next ∷ rest))

-- the list after the ligature command of its first two
unfoldable pub after_command : Tfm → List (Option ℕ) → List (Option ℕ)
after_command t [] = []
after_command t (current ∷ []) = []
after_command t (current ∷ next ∷ rest) = by_command (ligature_of t current next) current next rest

-- whether at most n ligature commands come from here on
unfoldable pub ends_within : Tfm → ℕ → List (Option ℕ) → Bool
ends_within t zero list = is_empty (first_pair t list)
ends_within t (suc n) list = ends_within t n (after_command t (first_pair t list))
