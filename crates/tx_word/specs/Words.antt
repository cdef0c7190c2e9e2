-- What a word becomes in a list: its characters, ligatures and kerns, as its font composes them (TeX: The Program, sections 1034 to
-- 1040), with places for breaks behind its hyphens (section 1035).
use Rattle.std.specs.Prelude.{◌≡◌, ℕ, ◌-◌, Bool, false, ◌==◌, if◌then◌else◌, List, [], ◌∷◌, ◌++◌, length, slice_get, Option, Some, None}
use Rattle.std.specs.List.{flat_map}
use Rattle.std.specs.Option.{option_map_or}
use Rattle.tx_ligkern.specs.declared.item.LigItem.{LigItem}
use Rattle.tx_ligkern.specs.declared.item.LigItem.TheVariants as lig
use Rattle.tx_ligkern.specs.Composing.{Becomes}
use Rattle.tx_ligkern.specs.Pieces.{word_of}
use Rattle.tx_node.specs.declared.character.Character.{Character as CharacterItem}
use Rattle.tx_node.specs.declared.plain.KernKind.TheVariants.{Implicit}
use Rattle.tx_node.specs.declared.plain.Plain.TheVariants.{Character, Kern}
use Rattle.tx_node.specs.declared.plain.Shared.TheVariants.{Ligature}
use Rattle.tx_node.specs.Items.{Item, plain, shared, discretionary, none}
use Rattle.tx_tfm.specs.declared.named.NamedFont.{NamedFont}
use Rattle.tx_tfm.specs.declared.state.FontState.{FontState}
use Rattle.tx_tfm.specs.Fonts.{character_depth, character_height, character_width, font_at}

-- a character of the font of a number, with the sizes that the font gives it
abbrev pub character_of : List FontState → ℕ → ℕ → CharacterItem
character_of fonts font code = record {
  font = font;
  code = code;
  width = character_width fonts font code;
  height = character_height fonts font code;
  depth = character_depth fonts font code;
}

-- what a part of a composed word is in a list; a font's kerns aren't \kern's, so they are implicit
abbrev pub word_item : List FontState → ℕ → LigItem → Item
word_item fonts font (lig.Char code) = plain (Character (character_of fonts font code))
word_item fonts font (lig.Lig code from) = shared (Ligature (record { character = character_of fonts font code; from = from }))
word_item fonts font (lig.Kern size) = plain (Kern Implicit size)

-- the last of the characters in whose stead a part of a composed word stands
abbrev pub last_original : LigItem → Option ℕ
last_original (lig.Char code) = Some code
last_original (lig.Lig code from) = slice_get from (length from - 1)
last_original (lig.Kern size) = None

-- whether that is the hyphen character, if there is one
abbrev pub allows_break : Option ℕ → LigItem → Bool
allows_break None item = false
allows_break (Some hyphen) item = option_map_or (λ (code : ℕ). code == hyphen) (last_original item) false

-- what \discretionary{}{}{} gives: a break there needs no hyphen more
abbrev pub empty_discretionary : Item
empty_discretionary = discretionary (record { replaced = 0; hyphenated = false }) none none

-- a part of a composed word, and the place for a break behind it
abbrev pub word_items : List FontState → ℕ → Option ℕ → LigItem → List Item
word_items fonts font hyphen item = word_item fonts font item ∷ (if allows_break hyphen item then empty_discretionary ∷ [] else [])

-- what characters become in a font, where those of their boundaries count that are told; \nullfont has no characters, so what
-- stands in it is empty
abbrev pub Composed : Option NamedFont → List ℕ → Bool → Bool → List LigItem → Type 0
Composed None chars left right items = items ≡ []
Composed (Some f) chars left right items = Becomes f.font (word_of chars left right) items

-- a list is what a word becomes in the font of a number, where it allows breaks behind the hyphen character, if one is told
pub record IsWord (fonts : List FontState) (font : ℕ) (chars : List ℕ) (left right : Bool) (hyphen : Option ℕ) (list : List Item) : Type 0 where
  pub items : List LigItem
  pub composed : Composed (font_at fonts font) chars left right items
  pub list_is : list ≡ flat_map (word_items fonts font hyphen) items

-- a list with a word at its end
pub record WithWord (fonts : List FontState) (font : ℕ) (chars : List ℕ) (left right : Bool) (hyphen : Option ℕ) (before after : List Item) : Type 0 where
  pub word : List Item
  pub is_word : IsWord fonts font chars left right hyphen word
  pub after_is : after ≡ before ++ word
