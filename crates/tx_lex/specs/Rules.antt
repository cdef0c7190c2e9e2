-- The rules of reading, each by itself (TeX: The Program, sections 343 to 356; The TeXbook, chapters 7 and 8): which
-- token stands at the front of a line, what is unread behind it, and in which state reading goes on.
use Rattle.std.specs.Prelude.{◌≡◌, ◌≢◌, ℕ, Some, None, List, [], ◌∷◌}
use Rattle.tx_char.specs.declared.category.Cat.{Cat}
use Rattle.tx_char.specs.declared.category.Cat.TheVariants.{Escape, EndOfLine, Ignored, Space, Letter, Comment, Invalid}
use Rattle.tx_char.specs.declared.tokens.Token.TheVariants.{Character, Name}
use Rattle.tx_char.specs.Category.{category}
use Rattle.tx_lex.specs.declared.types.ReadState.{ReadState}
use Rattle.tx_lex.specs.declared.types.ReadState.TheVariants.{N, M, S}
use Rattle.tx_lex.specs.Notation.{Seen, reduction}
use Rattle.tx_lex.specs.Reading.{Reading, Read, Nothing, Refused, par, space}

-- a character is a token itself in all categories but 0, 5, 9, 10, 14 and 15
abbrev pub IsPlain : Cat → Type 0
IsPlain Escape = ⊥
IsPlain EndOfLine = ⊥
IsPlain Ignored = ⊥
IsPlain Space = ⊥
IsPlain Comment = ⊥
IsPlain Invalid = ⊥
IsPlain _ = Unit {0}

-- the letters at the front of a line, as many as there are, and the line behind them
pub data AreLetters (codes : List Cat) : List ℕ → List ℕ → List ℕ → Type 0 where
  -- `^^` is replaced by the character for which it stands, and this is read again
  NotationAmong : {c : ℕ} {rest letters behind : List ℕ} {seen : Seen} → reduction codes c rest ≡ Some seen → AreLetters codes (seen.code ∷ seen.rest) letters behind → AreLetters codes (c ∷ rest) letters behind
  OneMore : {c : ℕ} {rest letters behind : List ℕ} → category codes c ≡ Letter → AreLetters codes rest letters behind → AreLetters codes (c ∷ rest) (c ∷ letters) behind
  NoMore : {c : ℕ} {rest : List ℕ} → reduction codes c rest ≡ None → category codes c ≢ Letter → AreLetters codes (c ∷ rest) [] (c ∷ rest)
  NoneLeft : AreLetters codes [] [] []

-- the name that an escape character begins before this rest of a line
pub data IsName (codes : List Cat) (state : ReadState) : List ℕ → Reading → Type 0 where
  -- at the end of the line it is empty
  Empty : IsName codes state [] (Read (Name []) [] state)
  -- letters make one name, and blanks are skipped behind it
  Word : {c : ℕ} {line letters behind : List ℕ} → AreLetters codes line (c ∷ letters) behind → IsName codes state line (Read (Name (c ∷ letters)) behind S)
  -- any other character is a name alone: blanks are skipped behind that of a space, and count behind others
  OneBlank : {c : ℕ} {line rest : List ℕ} → AreLetters codes line [] (c ∷ rest) → category codes c ≡ Space → IsName codes state line (Read (Name (c ∷ [])) rest S)
  OneOther : {c : ℕ} {line rest : List ℕ} → AreLetters codes line [] (c ∷ rest) → category codes c ≢ Space → IsName codes state line (Read (Name (c ∷ [])) rest M)

-- what is read in a state at the front of a line
pub data IsReading (codes : List Cat) : ReadState → List ℕ → Reading → Type 0 where
  -- `^^` is replaced by the character for which it stands, and this is read again
  Notation : {state : ReadState} {c : ℕ} {rest : List ℕ} {reading : Reading} {seen : Seen} → reduction codes c rest ≡ Some seen → IsReading codes state (seen.code ∷ seen.rest) reading → IsReading codes state (c ∷ rest) reading
  NothingLeft : {state : ReadState} → IsReading codes state [] Nothing
  IgnoredDrops : {state : ReadState} {c : ℕ} {rest : List ℕ} {reading : Reading} → category codes c ≡ Ignored → IsReading codes state rest reading → IsReading codes state (c ∷ rest) reading
  -- a space is dropped at the line's start and behind another, and is a blank within the line, whatever its code
  StartDrops : {c : ℕ} {rest : List ℕ} {reading : Reading} → category codes c ≡ Space → IsReading codes N rest reading → IsReading codes N (c ∷ rest) reading
  BlankDrops : {c : ℕ} {rest : List ℕ} {reading : Reading} → category codes c ≡ Space → IsReading codes S rest reading → IsReading codes S (c ∷ rest) reading
  Blank : {c : ℕ} {rest : List ℕ} → category codes c ≡ Space → IsReading codes M (c ∷ rest) (Read space rest S)
  -- an end of line is \par at the line's start, a blank within the line, and nothing behind a blank; the rest is dropped
  Paragraph : {c : ℕ} {rest : List ℕ} → category codes c ≡ EndOfLine → IsReading codes N (c ∷ rest) (Read par [] N)
  EndBlank : {c : ℕ} {rest : List ℕ} → category codes c ≡ EndOfLine → IsReading codes M (c ∷ rest) (Read space [] M)
  EndDrops : {c : ℕ} {rest : List ℕ} → category codes c ≡ EndOfLine → IsReading codes S (c ∷ rest) Nothing
  -- a comment drops the rest
  CommentDrops : {state : ReadState} {c : ℕ} {rest : List ℕ} → category codes c ≡ Comment → IsReading codes state (c ∷ rest) Nothing
  InvalidStops : {state : ReadState} {c : ℕ} {rest : List ℕ} → category codes c ≡ Invalid → IsReading codes state (c ∷ rest) Refused
  EscapeNames : {state : ReadState} {c : ℕ} {rest : List ℕ} {reading : Reading} → category codes c ≡ Escape → IsName codes state rest reading → IsReading codes state (c ∷ rest) reading
  -- any other character, where it begins no `^^`, is a token with its category
  Plain : {state : ReadState} {c : ℕ} {rest : List ℕ} → reduction codes c rest ≡ None → IsPlain (category codes c) → IsReading codes state (c ∷ rest) (Read (Character c (category codes c)) rest M)
