-- How a tree of letters keeps spellings, and what is met on a walk in it: for the look-up alone, no public clause says it.
use Rattle.std.specs.Prelude.{◌≡◌, ℕ, max, List, [], ◌∷◌, Option, None, Some, slice_get, slice_index}
use Rattle.std.specs.Option.{option_map_or}
use Rattle.tx_hyphen.specs.declared.spelling.Spelling.{Spelling}
use Rattle.tx_hyphen.specs.declared.trie.Node.{Node}
use Rattle.tx_hyphen.specs.Lexicon.{place_of}
use Rattle.tx_hyphen.specs.Trie.{child_of, kept, node}

-- no two spellings have the same letters
abbrev pub IsDistinct : List Spelling → Type 0
IsDistinct [] = Unit {0}
IsDistinct (s ∷ spellings) = (place_of spellings s.letters ≡ None) × IsDistinct spellings

-- a tree keeps each spelling's place where its letters lead, and no other place
pub record IsIndexed (nodes : List Node) (spellings : List Spelling) : Type 0 where
  pub places : (letters : List ℕ) → kept nodes letters ≡ place_of spellings letters
  pub distinct : IsDistinct spellings

-- the level that the spelling at a place gives to a place of the text
abbrev pub level_kept : List Spelling → Option ℕ → ℕ → ℕ
level_kept spellings None place = 0
level_kept spellings (Some at) place = option_map_or (λ s. slice_index s.levels place) (slice_get spellings at) 0

-- the greatest level that the spellings at the nodes to which a text leads from a node give to a place of it
abbrev pub level_along : List Node → List Spelling → ℕ → List ℕ → ℕ → ℕ
level_along nodes spellings at [] place = level_kept spellings (node nodes at).place place
level_along nodes spellings at (letter ∷ text) place =
    max (level_kept spellings (node nodes at).place place)
    (elim (child_of nodes at letter) [ None ↦ 0 | Some next ↦ level_along nodes spellings next text place ])
