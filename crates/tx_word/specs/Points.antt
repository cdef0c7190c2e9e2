-- The hyphen character of a font, and the discretionary of \- that is made of it (TeX: The Program, section 1117).
use Rattle.std.specs.Prelude.{ℕ, false, if◌then◌else◌, List, [], map, Option, Some, None, option_and_then}
use Rattle.tx_node.specs.Items.{Item, discretionary, items_of, none}
use Rattle.tx_prim.specs.declared.family.FontNumber.TheVariants.{Hyphen}
use Rattle.tx_tfm.specs.declared.state.FontState.{FontState}
use Rattle.tx_tfm.specs.Fonts.{font_integer, has_character}
use Rattle.tx_word.specs.Divisions.{before_break, hyphen_code}
use Rattle.tx_word.specs.Words.{word_item}

-- the hyphen character of the font of a number: its \hyphenchar, where that is a code of 0 to 255
abbrev pub hyphen_of : List FontState → ℕ → Option ℕ
hyphen_of fonts font = hyphen_code (font_integer Hyphen fonts font)

-- the text before a break at \-: the hyphen character, nothing where there is none or the font lacks it
abbrev pub hyphen_text : List FontState → ℕ → Option ℕ → List Item
hyphen_text fonts font None = []
hyphen_text fonts font (Some hyphen) = map (word_item fonts font) (before_break fonts font hyphen)

-- what \- puts into a list
abbrev pub hyphen_item : List FontState → ℕ → Item
hyphen_item fonts font = discretionary (record { replaced = 0; hyphenated = false }) (items_of (hyphen_text fonts font (hyphen_of fonts font))) none

-- the hyphen character where the font lacks it, which is told of
abbrev pub hyphen_lacking : List FontState → ℕ → Option ℕ
hyphen_lacking fonts font = option_and_then (λ (hyphen : ℕ). if has_character fonts font hyphen then None else Some hyphen) (hyphen_of fonts font)
