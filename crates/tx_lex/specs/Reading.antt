-- What TeX reads at the front of a line (TeX: The Program, sections 343 to 356; The TeXbook, chapters 7 and 8).
use Rattle.std.specs.Prelude.{ℕ, ◌≤◌, Bool, true, false, List, [], ◌∷◌, ◌++◌, drop, length, map, take_while, if◌then◌else◌}
use Rattle.std.specs.Option.{option_to_list}
use Rattle.tx_char.specs.declared.category.Cat.{Cat}
use Rattle.tx_char.specs.declared.category.Cat.TheVariants.{Escape, EndOfLine, Ignored, Space, Letter, Comment, Invalid}
use Rattle.tx_char.specs.declared.tokens.Token.{Token}
use Rattle.tx_char.specs.declared.tokens.Token.TheVariants.{Character, Name}
use Rattle.tx_char.specs.Category.{category}
use Rattle.tx_lex.specs.declared.types.ReadState.{ReadState}
use Rattle.tx_lex.specs.declared.types.ReadState.TheVariants.{N, M, S}
use Rattle.tx_lex.specs.declared.types.Lexed.{Lexed}
use Rattle.tx_lex.specs.declared.types.Lexed.TheVariants.{Token as Lexed_token, LineDone, E1}
use Rattle.tx_lex.specs.Notation.{Seen}
use Rattle.tx_lex.specs.Characters.{characters}

-- a token with the unread rest of the line and the state behind it; or nothing; or an invalid character
pub data Reading : Type 0 where
  Read : Token → List ℕ → ReadState → Reading
  Nothing : Reading
  Refused : Reading

-- an ignored character is dropped, and so is a space at the line's start and while skipping blanks
abbrev pub is_dropped : ReadState → Cat → Bool
is_dropped state Ignored = true
is_dropped M Space = false
is_dropped state Space = true
is_dropped state _ = false

-- whether a category is Letter, 11
abbrev pub is_letter : Cat → Bool
is_letter Letter = true
is_letter _ = false

-- a space token, whatever the code of the character that gave it
abbrev pub space : Token
space = Character 32 Space

-- the name \par
abbrev pub par : Token
par = Name (112 ∷ 97 ∷ 114 ∷ [])

-- a list without the elements at its front that pass
abbrev pub skip_while : {X : Type 0} → (X → Bool) → List X → List X
skip_while p [] = []
skip_while p (x ∷ xs) = if p x then skip_while p xs else x ∷ xs

-- the characters of a line from the first on that is not dropped
abbrev pub kept : List Cat → ReadState → List ℕ → List Seen
kept codes state line = skip_while (λ seen. is_dropped state (category codes seen.code)) (characters codes line)

-- a line with these characters, of which none is read yet
abbrev pub unread : List Seen → List ℕ
unread [] = []
unread (seen ∷ more) = seen.code ∷ seen.rest

-- the letters at the front, as many as there are
abbrev pub letters : List Cat → List Seen → List ℕ
letters codes seen = map (λ s. s.code) (take_while (λ s. is_letter (category codes s.code)) seen)

-- the line behind them
abbrev pub behind_letters : List Cat → List Seen → List ℕ
behind_letters codes seen = unread (skip_while (λ s. is_letter (category codes s.code)) seen)

-- a name of letters, which is as long as it can be; blanks are skipped after it
abbrev pub word_reading : List Cat → List Seen → Reading
word_reading codes seen = Read (Name (letters codes seen)) (behind_letters codes seen) S

-- blanks are skipped after the name of a space, and count after that of another single character
abbrev pub state_after : Cat → ReadState
state_after Space = S
state_after _ = M

-- what an escape character begins: the empty name at the line's end, a name of letters, or that of one character
abbrev pub name_reading : List Cat → ReadState → List Seen → Reading
name_reading codes state [] = Read (Name []) [] state
name_reading codes state (seen ∷ more) =
    if is_letter (category codes seen.code)
    then word_reading codes (seen ∷ more)
    else Read (Name (seen.code ∷ [])) seen.rest (state_after (category codes seen.code))

-- an end of line drops the rest of the line; it is \par at the line's start, and else a space where a space counts
abbrev pub end_reading : ReadState → Reading
end_reading N = Read par [] N
end_reading M = Read space [] M
end_reading S = Nothing

-- what a character gives by its category, where it is not dropped; the last case is for all categories not named before
abbrev pub category_reading : List Cat → ReadState → Seen → List Seen → Cat → Reading
category_reading codes state seen more Escape = name_reading codes state more
category_reading codes state seen more EndOfLine = end_reading state
category_reading codes state seen more Space = Read space seen.rest S
category_reading codes state seen more Comment = Nothing
category_reading codes state seen more Invalid = Refused
category_reading codes state seen more kind = Read (Character seen.code kind) seen.rest M

-- what these characters give, of which the first is not dropped
abbrev pub first_reading : List Cat → ReadState → List Seen → Reading
first_reading codes state [] = Nothing
first_reading codes state (seen ∷ more) = category_reading codes state seen more (category codes seen.code)

-- what TeX reads in this state at the front of a line
unfoldable pub reading : List Cat → ReadState → List ℕ → Reading
reading codes state line = first_reading codes state (kept codes state line)

-- what an answer says of the bytes that it was given
abbrev pub meant : List ℕ → Lexed → Reading
meant bytes (Lexed_token token used front state) = Read token (option_to_list front ++ drop used bytes) state
meant bytes LineDone = Nothing
meant bytes E1 = Refused

-- a token's answer leaves a place of the bytes that it was given
abbrev pub IsWithin : List ℕ → Lexed → Type 0
IsWithin bytes (Lexed_token token used front state) = used ≤ length bytes
IsWithin bytes LineDone = Unit {0}
IsWithin bytes E1 = Unit {0}
