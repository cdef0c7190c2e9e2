-- Texts as tokens, and the texts of names and single tokens (The TeXbook, chapter 20; TeX: The Program, sections 63, 263, 464
-- and 472).
use Rattle.std.specs.Prelude.{ℕ, List, [], ◌∷◌, ◌++◌, ◌==◌, map, codes, Option, option_to_list, if◌then◌else◌}
use Rattle.tx_char.specs.Character.{character}
use Rattle.tx_char.specs.declared.category.Cat.TheVariants.{Space, Other}
use Rattle.tx_char.specs.declared.tokens.Token.{Token}
use Rattle.tx_char.specs.declared.tokens.Token.TheVariants.{Character, Name, FrozenRelax, FontIdentifier}
use Rattle.tx_tfm.specs.declared.state.FontState.{FontState}
use Rattle.tx_tfm.specs.Fonts.{font_identifier}

-- a blank is a space, of category 10, and every other character has category 12
abbrev pub as_token : ℕ → Token
as_token code = Character code (if code == character " " then Space else Other)

abbrev pub as_tokens : List ℕ → List Token
as_tokens text = map as_token text

-- a word with the escape character before it, if there is one
abbrev pub escaped : Option ℕ → List ℕ → List ℕ
escaped escape word = option_to_list escape ++ word

-- a name as \string prints it; the empty one prints as what makes it
abbrev pub name_text : Option ℕ → List ℕ → List ℕ
name_text escape [] = escaped escape (codes "csname") ++ escaped escape (codes "endcsname")
name_text escape (code ∷ name) = escaped escape (code ∷ name)

-- what \string prints of a token: a character of any category, also an active one, is itself, and a font's identifier as \font
-- named the font last
abbrev pub string_text : Option ℕ → List FontState → Token → List ℕ
string_text escape fonts (Character code category) = code ∷ []
string_text escape fonts (Name name) = name_text escape name
string_text escape fonts FrozenRelax = escaped escape (codes "relax")
string_text escape fonts (FontIdentifier font) = escaped escape (font_identifier fonts font)
