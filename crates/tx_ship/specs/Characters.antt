-- Characters on a page, and the fonts that they need (TeX: The Program, sections 602, 620 and 621; the DVI standard).
use Rattle.std.specs.Prelude.{◌≡◌, ℕ, zero, suc, ◌+◌, Bool, true, false, ◌==◌, nat_lt, List, [], ◌∷◌, ◌++◌, Option, Some, None, if◌then◌else◌}
use Rattle.tx_dvi.specs.declared.font.FontDefinition.{FontDefinition}
use Rattle.tx_dvi.specs.Dvi.{definition_bytes}
use Rattle.tx_dvi.specs.Meaning.{Widths, ReaderFonts, is_known, choosing, defining}
use Rattle.tx_node.specs.declared.character.Character.{Character as CharacterItem}
use Rattle.tx_node.specs.declared.plain.Plain.{Plain}
use Rattle.tx_node.specs.declared.plain.Plain.TheVariants.{Kern, Glue, Penalty, Character}
use Rattle.tx_node.specs.declared.plain.Shared.{Shared}
use Rattle.tx_node.specs.declared.plain.Shared.TheVariants.{Rule, Leaders, Special, Ligature, Mark}
use Rattle.tx_node.specs.Items.{Item, plain, shared, boxed, discretionary, adjustment, insertion, box_leaders, Items, none, more}
use Rattle.tx_tfm.specs.declared.named.NamedFont.{NamedFont}
use Rattle.tx_tfm.specs.declared.state.FontState.{FontState}
use Rattle.tx_tfm.specs.Format.{checksum_of, design_size_of}
use Rattle.tx_tfm.specs.Fonts.{has_character, character_width, character_height, character_depth}

-- the number that a DVI file gives a font: 0 to the one that was loaded first; \nullfont, which has no characters, needs none
abbrev pub dvi_number : ℕ → ℕ
dvi_number zero = 0
dvi_number (suc n) = n

-- the widths of the characters by these numbers
abbrev pub widths_of : List FontState → Widths
widths_of fonts number code = character_width fonts (suc number) code

-- how a DVI file defines the font of a number
abbrev pub definition_for : ℕ → NamedFont → FontDefinition
definition_for number f = record {
  number = dvi_number number;
  checksum = checksum_of f.font.file;
  size = f.font.size;
  design_size = design_size_of f.font.file;
  name = f.name;
}

-- a character is in its font, and has the sizes that this gives it
pub record IsOfFont (fonts : List FontState) (c : CharacterItem) : Type 0 where
  pub there : has_character fonts c.font c.code ≡ true
  pub width_is : c.width ≡ character_width fonts c.font c.code
  pub height_is : c.height ≡ character_height fonts c.font c.code
  pub depth_is : c.depth ≡ character_depth fonts c.font c.code

abbrev pub IsPlainOfFonts : List FontState → Plain → Type 0
IsPlainOfFonts fonts (Kern kind size) = Unit {0}
IsPlainOfFonts fonts (Glue g) = Unit {0}
IsPlainOfFonts fonts (Penalty n) = Unit {0}
IsPlainOfFonts fonts (Character c) = IsOfFont fonts c

abbrev pub IsSharedOfFonts : List FontState → Shared → Type 0
IsSharedOfFonts fonts (Rule r) = Unit {0}
IsSharedOfFonts fonts (Leaders l) = Unit {0}
IsSharedOfFonts fonts (Special text) = Unit {0}
IsSharedOfFonts fonts (Ligature l) = IsOfFont fonts l.character
IsSharedOfFonts fonts (Mark text) = Unit {0}

-- so for all characters of a list, and of the boxes in it, those of leaders too; other lists in it are not shipped
abbrev mutual
  pub AreOfFonts : List FontState → Items → Type 0
  AreOfFonts fonts none = Unit {0}
  AreOfFonts fonts (more item rest) = IsItemOfFonts fonts item × AreOfFonts fonts rest

  pub IsItemOfFonts : List FontState → Item → Type 0
  IsItemOfFonts fonts (plain p) = IsPlainOfFonts fonts p
  IsItemOfFonts fonts (shared s) = IsSharedOfFonts fonts s
  IsItemOfFonts fonts (boxed shift head inner) = AreOfFonts fonts inner
  IsItemOfFonts fonts (discretionary replaced pre post) = Unit {0}
  IsItemOfFonts fonts (adjustment inner) = Unit {0}
  IsItemOfFonts fonts (insertion inserted inner) = Unit {0}
  IsItemOfFonts fonts (box_leaders head repeated inner) = AreOfFonts fonts inner

-- a font is defined at its first use
unfoldable pub definition_commands : FontDefinition → ReaderFonts → List ℕ × ReaderFonts
definition_commands font fonts = if is_known font.number fonts.known then ([], fonts) else (definition_bytes font, defining font fonts)

-- a font is chosen by its number: fnt_num_0 to fnt_num_63 are 171 to 234, fnt1 is 235
unfoldable pub choice : ℕ → List ℕ
choice number = if nat_lt number 64 then (171 + number) ∷ [] else 235 ∷ number ∷ []

-- where another font is chosen than the character's, or none, this is
abbrev pub is_chosen : ℕ → Option ℕ → Bool
is_chosen number None = false
is_chosen number (Some chosen) = chosen == number

unfoldable pub font_commands : FontDefinition → ReaderFonts → List ℕ × ReaderFonts
font_commands font fonts =
    if is_chosen font.number fonts.chosen then ([], fonts)
    else ((definition_commands font fonts).0 ++ choice font.number, choosing font.number (definition_commands font fonts).1)

-- a character by its code: set_char_0 to set_char_127 are 0 to 127, set1 is 128
unfoldable pub set_code : ℕ → List ℕ
set_code code = if nat_lt code 128 then code ∷ [] else 128 ∷ code ∷ []
