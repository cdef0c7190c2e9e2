-- Liang's method: the levels that patterns give to the places of a text (The TeXbook, appendix H). A place is counted by
-- the characters before it.
use Rattle.std.specs.Prelude.{◌≡◌, ℕ, zero, suc, ◌-◌, ◌<◌, max, if◌then◌else◌, List, [], ◌∷◌, length, drop, slice_index, nat_eq, nat_le}
use Rattle.std.specs.List.{starts_with}
use Rattle.tx_hyphen.specs.declared.spelling.Spelling.{Spelling}

-- the greatest value of f on a list; 0 on the empty list
abbrev pub greatest_on : {A : Type 0} → List A → (A → ℕ) → ℕ
greatest_on [] f = 0
greatest_on (x ∷ xs) f = max (f x) (greatest_on xs f)

-- the greatest of f 0, .., f (n - 1); 0 where n is 0
abbrev pub greatest_below : ℕ → (ℕ → ℕ) → ℕ
greatest_below zero f = 0
greatest_below (suc n) f = max (greatest_below n f) (f n)

-- the level that a pattern gives to a place of the text at whose beginning it is sought; 0 where it doesn't stand there
abbrev pub level_of : List ℕ → ℕ → Spelling → ℕ
level_of text place pattern =
    if starts_with nat_eq text pattern.letters then slice_index pattern.levels place else 0

-- the greatest level over all patterns that stand at the beginning of a text
abbrev pub level_here : List Spelling → List ℕ → ℕ → ℕ
level_here patterns text place = greatest_on patterns (level_of text place)

-- the same for the patterns that stand at an offset of the text, to a place counted from the text's beginning
abbrev pub level_at : List Spelling → List ℕ → ℕ → ℕ → ℕ
level_at patterns text place offset =
    if nat_le offset place then level_here patterns (drop offset text) (place - offset) else 0

-- the greatest level over all pairs of a pattern and an offset at which it stands in the text
abbrev pub level_in : List Spelling → List ℕ → ℕ → ℕ
level_in patterns text place = greatest_below (length text) (level_at patterns text place)

-- a list whose every element has become the greater of itself and the value of f at its index
abbrev pub IsRaised : List ℕ → List ℕ → (ℕ → ℕ) → Type 0
IsRaised old new f = (k : ℕ) → k < length old → slice_index new k ≡ max (slice_index old k) (f k)
