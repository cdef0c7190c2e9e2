-- Characters that are tokens as they stand in a line: letters and others, and spaces within the line (TeX: The Program, sections
-- 343 to 345).
use Rattle.std.specs.Prelude.{◌≡◌, ℕ, Bool, true, false, List, drop}
use Rattle.tx_char.specs.declared.category.Cat.{Cat}
use Rattle.tx_char.specs.declared.category.Cat.TheVariants.{Letter, Other, Space}
use Rattle.tx_char.specs.declared.tokens.Token.{Token}
use Rattle.tx_char.specs.declared.tokens.Token.TheVariants.{Character}
use Rattle.tx_char.specs.Category.{category}
use Rattle.tx_lex.specs.declared.types.PlainToken.{PlainToken}
use Rattle.tx_lex.specs.declared.types.PlainToken.TheVariants.{Set, Blank}
use Rattle.tx_lex.specs.declared.types.ReadState.{ReadState}
use Rattle.tx_lex.specs.declared.types.ReadState.TheVariants.{M, S}
use Rattle.tx_lex.specs.Reading.{Read, reading, space}

-- whether characters of a category are set
abbrev pub is_set : Cat → Bool
is_set Letter = true
is_set Other = true
is_set kind = false

-- its character code and category; the token, and the state in which what is behind it is read
abbrev pub code_of : PlainToken → ℕ
code_of (Set code) = code
code_of Blank = 32

abbrev pub category_of : List Cat → PlainToken → Cat
category_of codes (Set code) = category codes code
category_of codes Blank = Space

abbrev pub plain_token : List Cat → PlainToken → Token
plain_token codes (Set code) = Character code (category codes code)
plain_token codes Blank = space

abbrev pub state_behind : PlainToken → ReadState
state_behind (Set code) = M
state_behind Blank = S

-- what a character is as it stands, by its category and the state in which it is read
abbrev pub IsPlain : ℕ → Cat → ReadState → PlainToken → Type 0
IsPlain code kind state (Set found) = (found ≡ code) × (is_set kind ≡ true)
IsPlain code kind state Blank = (kind ≡ Space) × (state ≡ M)

-- a character that is set has a category of such
abbrev pub IsSet : List Cat → PlainToken → Type 0
IsSet codes (Set code) = is_set (category codes code) ≡ true
IsSet codes Blank = Unit {0}

-- a line, read in this state, begins with it
pub record Begins (codes : List Cat) (state : ReadState) (line : List ℕ) (plain : PlainToken) : Type 0 where
  pub set : IsSet codes plain
  pub reads : reading codes state line ≡ Read (plain_token codes plain) (drop 1 line) (state_behind plain)
