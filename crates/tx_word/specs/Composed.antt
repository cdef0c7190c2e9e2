-- What a word is in a list, as a function (TeX: The Program, sections 1034 to 1040). Words.antt says the same by rules.
use Rattle.std.specs.Prelude.{◌≡◌, ℕ, Bool, true, false, List, [], ◌∷◌, ◌++◌, Option, Some, None}
use Rattle.std.specs.List.{flat_map}
use Rattle.tx_ligkern.specs.declared.item.LigItem.{LigItem}
use Rattle.tx_ligkern.specs.declared.item.LigItem.TheVariants as lig
use Rattle.tx_ligkern.specs.Composed.{composed}
use Rattle.tx_ligkern.specs.Pairs.{is_ligature, kern_in, met_of}
use Rattle.tx_node.specs.Items.{Item}
use Rattle.tx_tfm.specs.declared.metrics.Metrics.{Metrics}
use Rattle.tx_tfm.specs.declared.named.NamedFont.{NamedFont}
use Rattle.tx_tfm.specs.declared.state.FontState.{FontState}
use Rattle.tx_tfm.specs.Fonts.{font_at}
use Rattle.tx_word.specs.Words.{word_items}

-- what characters become in a font, where those of their boundaries count that are told; \nullfont has no characters
abbrev pub composed_in : Option NamedFont → List ℕ → Bool → Bool → List LigItem
composed_in None chars left right = []
composed_in (Some f) chars left right = composed f.font chars left right

-- what a word is in the font of a number, where it allows breaks behind the hyphen character, if one is told
abbrev pub word_list : List FontState → ℕ → List ℕ → Bool → Bool → Option ℕ → List Item
word_list fonts font chars left right hyphen = flat_map (word_items fonts font hyphen) (composed_in (font_at fonts font) chars left right)

-- what stands at the left of a pair: a character, or the boundary, which is nothing
abbrev pub left_items : Option ℕ → List LigItem
left_items None = []
left_items (Some code) = lig.Char code ∷ []

-- what stands at the left of a pair that meets no ligature command was put at the end of a list, with the kern that it meets; or
-- the list is as it was
abbrev pub IsPaired : List FontState → ℕ → Option ℕ → Metrics → Option ℕ → Option ℕ → Bool → List Item → List Item → Type 0
IsPaired fonts font hyphen m left right true before after =
    (is_ligature (met_of m left right) ≡ false) × (after ≡ before ++ flat_map (word_items fonts font hyphen) (left_items left ++ kern_in (met_of m left right)))
IsPaired fonts font hyphen m left right false before after = after ≡ before
