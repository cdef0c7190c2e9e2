-- Tokens with what they mean, and what they are to the commands that read them.
use Rattle.std.specs.Prelude.{ℕ, ◌+◌, ◌-◌, ◌==◌, ◌&&◌, ◌||◌, Bool, true, false, nat_le, Option, Some, None, if◌then◌else◌}
use Rattle.tx_char.specs.Character.{character}
use Rattle.tx_char.specs.declared.category.Cat.TheVariants.{BeginGroup, Space, Letter, Other, Active}
use Rattle.tx_char.specs.declared.tokens.Token.{Token}
use Rattle.tx_char.specs.declared.tokens.Token.TheVariants as token
use Rattle.tx_prim.specs.declared.primitive.Primitive.TheVariants.{Relax, Char, LoadFont, NullFont}
use Rattle.tx_seen.specs.declared.meaning.Meaning.{Meaning}
use Rattle.tx_seen.specs.declared.meaning.Meaning.TheVariants.{Undefined, Command, Character, CharacterNumber, Font, Expandable, Macro, Held}
use Rattle.tx_seen.specs.declared.place.FontName.{FontName}
use Rattle.tx_seen.specs.declared.place.FontName.TheVariants.{Current, Number}
use Rattle.tx_seen.specs.declared.seen.Seen.{Seen}

-- a name without a meaning, or an active character without one
abbrev pub is_undefined : Seen → Bool
is_undefined t = is_nothing t.meaning
  where
    is_nothing : Meaning → Bool
    is_nothing Undefined = true
    is_nothing _ = false

-- what is expanded: a name without a meaning is too, which is an error (TeX: The Program, section 366)
abbrev pub is_expanded : Meaning → Bool
is_expanded Undefined = true
is_expanded (Expandable e) = true
is_expanded (Macro m) = true
is_expanded _ = false

-- a token that \noexpand holds: what would be expanded means nothing but that, all else what it means (section 358)
abbrev pub held : Seen → Seen
held t = if is_expanded t.meaning then record { token = t.token; meaning = Held } else t

-- a space, or a name that means one
abbrev pub is_space : Seen → Bool
is_space t = is_blank t.meaning
  where
    is_blank : Meaning → Bool
    is_blank (Character code Space) = true
    is_blank _ = false

-- what goes on with a word of a horizontal list: a letter, another character, a name that stands for a character to be set, or
-- \char (TeX: The Program, section 1038)
abbrev pub continues_word : Seen → Bool
continues_word t = continues t.meaning
  where
    continues : Meaning → Bool
    continues (Character code Letter) = true
    continues (Character code Other) = true
    continues (CharacterNumber code) = true
    continues (Command Char) = true
    continues _ = false

-- the font that a token tells where a font is needed (section 577)
abbrev pub font_name : Seen → Option FontName
font_name t = name_of t.meaning
  where
    name_of : Meaning → Option FontName
    name_of (Command LoadFont) = Some Current
    name_of (Command NullFont) = Some (Number 0)
    name_of (Font number) = Some (Number number)
    name_of _ = None

-- a begin-group token, or a name that means one
abbrev pub is_begin_group : Seen → Bool
is_begin_group t = is_begin t.meaning
  where
    is_begin : Meaning → Bool
    is_begin (Character code BeginGroup) = true
    is_begin _ = false

-- what means \relax, and what \noexpand made mean as little (TeX: The Program, sections 358 and 404)
abbrev pub is_relax : Seen → Bool
is_relax t = is_nothing_done t.meaning
  where
    is_nothing_done : Meaning → Bool
    is_nothing_done (Command Relax) = true
    is_nothing_done Held = true
    is_nothing_done _ = false

-- a character of category 12 with this code
abbrev pub is_other : ℕ → Seen → Bool
is_other c t = is_that t.token
  where
    is_that : Token → Bool
    is_that (token.Character code Other) = code == c
    is_that _ = false

-- a digit, and its value
abbrev pub digit_value : Seen → Option ℕ
digit_value t = value t.token
  where
    value : Token → Option ℕ
    value (token.Character code Other) =
        if nat_le (character "0") code && nat_le code (character "9") then Some (code - character "0") else None
    value _ = None

-- the point of a decimal fraction, `.` or `,`
abbrev pub is_point : Seen → Bool
is_point t = is_other (character ".") t || is_other (character ",") t

-- a character, of any category but active, that is this small letter or its capital: so keywords are told
abbrev pub is_key : ℕ → Seen → Bool
is_key c t = is_letter t.token
  where
    is_letter : Token → Bool
    is_letter (token.Character code Active) = false
    is_letter (token.Character code _) = (code == c) || (code + (character "a" - character "A") == c)
    is_letter (token.Name name) = false
    is_letter token.FrozenRelax = false
    is_letter (token.FontIdentifier font) = false
