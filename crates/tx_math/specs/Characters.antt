-- Characters of formulas (TeX: The Program, sections 722 and 755).
use Rattle.std.specs.Prelude.{ℕ, ◌==◌, Bool, ◌&&◌, not, ℤ, pos, List, [], ◌∷◌, ◌++◌, Option, Some, None, Result, Ok, Err, if◌then◌else◌}
use Rattle.tx_hyphenate.specs.Lacking.{lacking_report}
use Rattle.tx_node.specs.declared.character.Character.{Character as CharacterItem}
use Rattle.tx_node.specs.declared.plain.Plain.TheVariants.{Character}
use Rattle.tx_node.specs.Items.{Item, plain}
use Rattle.tx_pack.specs.Stretching.{is_nothing}
use Rattle.tx_tfm.specs.Fonts.{character_italic, font_parameter, has_character}
use Rattle.tx_word.specs.Words.{character_of}
use Rattle.tx_mlist.specs.declared.kinds.MathCharacter.{MathCharacter}
use Rattle.tx_math.specs.declared.error.MathError.{MathError}
use Rattle.tx_math.specs.declared.nucleus.Nucleus.{Nucleus}
use Rattle.tx_math.specs.declared.error.MathError.TheVariants.{NoFont}
use Rattle.tx_math.specs.Boxes.{kern}
use Rattle.tx_math.specs.Outcomes.{Telling}
use Rattle.tx_math.specs.Parameters.{Math, family_font}
use Rattle.tx_math.specs.Styles.{size_of}

-- a character of the font of a number; None where the font lacks it, which is reported. \nullfont is no font of a family (section 722)
unfoldable pub fetched_from : Math → ℕ → ℕ → List ℕ → Result (Option CharacterItem × List ℕ) MathError
fetched_from m font code told =
    if font == 0 then Err NoFont
    else if has_character m.fonts font code then Ok (Some (character_of m.fonts font code), told)
    else Ok (None, told ++ lacking_report m.fonts font (Some code))

-- a character of a family, in a style
abbrev pub fetched : Math → ℕ → MathCharacter → Telling (Option CharacterItem)
fetched m style c = fetched_from m (family_font m (size_of style) c.family) c.code

-- a nucleus is what stands in a list for it; how high and deep it is, where it is no character; and how much further to the right
-- than its subscript its superscript stands. Nothing at all
abbrev pub no_nucleus : Nucleus
no_nucleus = record { nodes = []; edges = Some (pos 0, pos 0); offset = pos 0 }

-- the italic correction of a character, which has none where a character of its family follows it, in a font whose words have spaces
-- between them
abbrev pub correction : Math → Bool → CharacterItem → ℤ
correction m joined c =
    if joined && not (is_nothing (font_parameter m.fonts c.font 2)) then pos 0 else character_italic m.fonts c.font c.code

abbrev pub kern_unless_nothing : ℤ → List Item
kern_unless_nothing size = if is_nothing size then [] else kern size ∷ []

-- a character: its italic correction stands behind it, unless there is a subscript, which then stands to the left of the superscript
-- by so much (section 755)
abbrev pub corrected : Bool → CharacterItem → ℤ → Nucleus
corrected subscripted c size =
    if subscripted then record { nodes = plain (Character c) ∷ []; edges = None; offset = size }
    else record { nodes = plain (Character c) ∷ kern_unless_nothing size; edges = None; offset = pos 0 }

abbrev pub letter_nucleus : Math → Bool → Bool → Option CharacterItem → Nucleus
letter_nucleus m joined subscripted None = no_nucleus
letter_nucleus m joined subscripted (Some c) = corrected subscripted c (correction m joined c)
