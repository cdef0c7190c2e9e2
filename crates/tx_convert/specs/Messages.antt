-- Tokens as messages print them (The TeXbook, chapter 20; TeX: The Program, sections 262 and 292).
use Rattle.std.specs.Prelude.{flat_map, ℕ, Bool, true, false, Option, List, [], ◌∷◌, ◌++◌, ◌&&◌, ◌==◌, not, codes, length, if◌then◌else◌}
use Rattle.std.specs.List.{list_all}
use Rattle.std.specs.Option.{option_to_list}
use Rattle.tx_char.specs.declared.category.Cat.{Cat}
use Rattle.tx_char.specs.declared.category.Cat.TheVariants.{Letter}
use Rattle.tx_char.specs.declared.tokens.Token.{Token}
use Rattle.tx_char.specs.declared.tokens.Token.TheVariants.{Character, Name, FrozenRelax, FontIdentifier}
use Rattle.tx_char.specs.Category.{category}
use Rattle.tx_char.specs.Character.{character}
use Rattle.tx_tfm.specs.declared.state.FontState.{FontState}
use Rattle.tx_tfm.specs.Fonts.{font_identifier}

-- whether a category is Letter, 11
abbrev pub is_letter : Cat → Bool
is_letter Letter = true
is_letter _ = false

-- whether a character is a letter by this table of categories
abbrev pub is_letter_code : List Cat → ℕ → Bool
is_letter_code categories code = is_letter (category categories code)

-- a name is a word if it has characters and all are letters
abbrev pub is_word : List Cat → List ℕ → Bool
is_word categories name = not (length name == 0) && list_all (is_letter_code categories) name

-- a name is printed with the escape character before it, if there is one, and a blank behind it, if it is a word
abbrev pub name_text : Option ℕ → List Cat → List ℕ → List ℕ
name_text escape categories name =
    option_to_list escape ++ name ++ (if is_word categories name then character " " ∷ [] else [])

-- the identifier of a font always has a blank behind it
abbrev pub identifier_text : Option ℕ → List ℕ → List ℕ
identifier_text escape identifier = option_to_list escape ++ identifier ++ character " " ∷ []

-- a character is printed as its byte, whatever its category, the frozen \relax as the name is, and a font as \font named it last
abbrev pub token_text : Option ℕ → List Cat → List FontState → Token → List ℕ
token_text escape categories fonts (Character code kind) = code ∷ []
token_text escape categories fonts (Name name) = name_text escape categories name
token_text escape categories fonts FrozenRelax = name_text escape categories (codes "relax")
token_text escape categories fonts (FontIdentifier font) = identifier_text escape (font_identifier fonts font)

-- the text of tokens is that of each in order
abbrev pub printed : Option ℕ → List Cat → List FontState → List Token → List ℕ
printed escape categories fonts tokens = flat_map (token_text escape categories fonts) tokens
