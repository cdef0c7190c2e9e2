-- Tokens in the arguments of macros (TeX: The Program, sections 289, 333 and 392).
use Rattle.std.specs.Prelude.{ℕ, Bool, true, false, List, [], ◌∷◌, ◌&&◌, ◌==◌, codes}
use Rattle.tx_char.specs.declared.category.Cat.{Cat}
use Rattle.tx_char.specs.declared.category.Cat.TheVariants.{Space}
use Rattle.tx_char.specs.declared.tokens.Token.{Token}
use Rattle.tx_char.specs.declared.tokens.Token.TheVariants.{Character, Name, FrozenRelax, FontIdentifier}
use Rattle.tx_char.specs.Category.{number_of}

-- whether two lists of bytes are the same
abbrev pub same_bytes : List ℕ → List ℕ → Bool
same_bytes [] [] = true
same_bytes (a ∷ xs) (b ∷ ys) = (a == b) && same_bytes xs ys
same_bytes _ _ = false

-- tokens are the same if their codes and categories are, or their names, or the fonts of which they are the identifiers
abbrev pub same_token : Token → Token → Bool
same_token (Character code kind) (Character other other_kind) = (code == other) && (number_of kind == number_of other_kind)
same_token (Name name) (Name other) = same_bytes name other
same_token FrozenRelax FrozenRelax = true
same_token (FontIdentifier font) (FontIdentifier other) = font == other
same_token _ _ = false

abbrev pub is_space_category : Cat → Bool
is_space_category Space = true
is_space_category _ = false

-- a space token is a character of category 10
abbrev pub is_space : Token → Bool
is_space (Character code kind) = is_space_category kind
is_space _ = false

-- the token \par, whatever it means
abbrev pub is_par : Token → Bool
is_par (Name name) = same_bytes name (codes "par")
is_par _ = false
