-- Spellings, no two of which have the same letters.
use Rattle.std.specs.Prelude.{ℕ, suc, if◌then◌else◌, List, [], ◌∷◌, ◌++◌, Option, None, Some, option_map, option_and_then, slice_get, slice_set, nat_eq}
use Rattle.std.specs.Cmp.Lexicographic.{pointwise}
use Rattle.tx_hyphen.specs.declared.spelling.Spelling.{Spelling}

-- which of the spellings has these letters
abbrev pub place_of : List Spelling → List ℕ → Option ℕ
place_of [] letters = None
place_of (s ∷ spellings) letters =
    if pointwise nat_eq s.letters letters then Some 0 else option_map suc (place_of spellings letters)

-- the spelling with these letters
abbrev pub with_letters : List Spelling → List ℕ → Option Spelling
with_letters spellings letters = option_and_then (slice_get spellings) (place_of spellings letters)

-- a spelling put at a place, or behind all others
abbrev pub put_at : List Spelling → Spelling → Option ℕ → List Spelling
put_at spellings spelling None = spellings ++ spelling ∷ []
put_at spellings spelling (Some place) = slice_set spellings place spelling

-- a spelling put in the place of the one with its letters, or behind all others
abbrev pub put : List Spelling → Spelling → List Spelling
put spellings spelling = put_at spellings spelling (place_of spellings spelling.letters)
