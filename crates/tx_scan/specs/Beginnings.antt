-- What a token begins where a number is needed (The TeXbook, chapter 24; TeX: The Program, sections 413 and 440 to 445).
use Rattle.std.specs.Prelude.{ℕ, ◌+◌, ◌-◌, ◌==◌, ◌&&◌, nat_le, nat_lt, Option, Some, None, if◌then◌else◌}
use Rattle.tx_char.specs.Character.{character}
use Rattle.tx_char.specs.declared.category.Cat.TheVariants.{Space, Letter, Other}
use Rattle.tx_char.specs.declared.tokens.Token.{Token}
use Rattle.tx_char.specs.declared.tokens.Token.TheVariants as token
use Rattle.tx_prim.specs.declared.family.Numbered.{Numbered}
use Rattle.tx_prim.specs.declared.family.Numbered.TheVariants.{Count, Dimen, Skip, Muskip, Toks, Category, Code, Size}
use Rattle.tx_prim.specs.declared.primitive.Primitive.{Primitive}
use Rattle.tx_prim.specs.declared.primitive.Primitive.TheVariants as primitive
use Rattle.tx_seen.specs.declared.error.TexError.TheVariants.{MissingNumber, Undefined}
use Rattle.tx_seen.specs.declared.meaning.Meaning.{Meaning}
use Rattle.tx_seen.specs.declared.meaning.Meaning.TheVariants as meaning
use Rattle.tx_seen.specs.declared.place.Place.TheVariants as place
use Rattle.tx_seen.specs.declared.seen.Seen.{Seen}
use Rattle.tx_scan.specs.declared.scans.Radix.{Radix}
use Rattle.tx_scan.specs.declared.scans.Radix.TheVariants.{Octal, Decimal, Hexadecimal}
use Rattle.tx_scan.specs.declared.scans.Beginning.{Beginning}
use Rattle.tx_scan.specs.declared.scans.Beginning.TheVariants as begin

-- how many digits there are
abbrev pub base : Radix → ℕ
base Octal = 8
base Decimal = 10
base Hexadecimal = 16

-- 0 to 9 of category 12, and A to F of category 11 or 12, with their values
abbrev pub figure : Token → Option ℕ
figure (token.Character code Other) = if nat_le (character "0") code && nat_le code (character "9") then Some (code - character "0") else if nat_le (character "A") code && nat_le code (character "F") then Some (code - character "A" + 10) else None
figure (token.Character code Letter) = if nat_le (character "A") code && nat_le code (character "F") then Some (code - character "A" + 10) else None
figure _ = None

-- the value of a token as a digit
abbrev pub digit : Radix → Seen → Option ℕ
digit radix t = below (base radix) (figure t.token)
  where
    below : ℕ → Option ℕ → Option ℕ
    below n None = None
    below n (Some d) = if nat_lt d n then Some d else None

-- no number begins
abbrev pub no_number : Beginning
no_number = begin.Nothing MissingNumber

-- a number stands for what stands there, unless that is a list of tokens
abbrev pub begun_by_number : Numbered → Beginning
begun_by_number Count = begin.Numbered Count
begun_by_number Dimen = begin.Numbered Dimen
begun_by_number Skip = begin.Numbered Skip
begun_by_number Muskip = begin.Numbered Muskip
begun_by_number Toks = no_number
begun_by_number Category = begin.Numbered Category
begun_by_number (Code code) = begin.Numbered (Code code)
begun_by_number (Size side) = begin.Numbered (Size side)

-- a primitive stands for a parameter's value, or for what stands at the number behind it
abbrev pub begun_by_command : Primitive → Beginning
begun_by_command (primitive.Integer parameter) = begin.At (place.Integer parameter)
begun_by_command (primitive.Dimension parameter) = begin.At (place.Dimension parameter)
begun_by_command (primitive.Glue parameter) = begin.At (place.Glue parameter)
begun_by_command (primitive.Numbered kind) = begun_by_number kind
begun_by_command (primitive.Last kind) = begin.At (place.Last kind)
begun_by_command primitive.Badness = begin.At place.Badness
begun_by_command primitive.PrevDepth = begin.At place.PrevDepth
begun_by_command (primitive.Tokens parameter) = no_number
begun_by_command primitive.Relax = no_number
begun_by_command primitive.EndCsName = no_number
begun_by_command primitive.Par = no_number
begun_by_command primitive.IgnoreSpaces = no_number
begun_by_command (primitive.Interaction kind) = no_number
begun_by_command (primitive.Definition kind) = no_number
begun_by_command (primitive.Text purpose) = no_number
begun_by_command (primitive.After kind) = no_number
begun_by_command primitive.FutureLet = no_number
begun_by_command primitive.End = no_number
begun_by_command primitive.BeginGroup = no_number
begun_by_command primitive.EndGroup = no_number
begun_by_command (primitive.Prefix prefix) = no_number
begun_by_command primitive.Let = no_number
begun_by_command (primitive.Shorthand kind) = no_number
begun_by_command (primitive.Arithmetic operation) = no_number
begun_by_command (primitive.Sized kind) = no_number
begun_by_command (primitive.Rule kind) = no_number
begun_by_command (primitive.Box kind) = no_number
begun_by_command primitive.Shipout = no_number
begun_by_command (primitive.BoxFrom source) = no_number
begun_by_command primitive.SetBox = no_number
begun_by_command (primitive.Shift kind) = no_number
begun_by_command (primitive.Unbox kind) = no_number
begun_by_command (primitive.HorizontalGlue form) = no_number
begun_by_command (primitive.VerticalGlue form) = no_number
begun_by_command primitive.Penalty = no_number
begun_by_command (primitive.Remove kind) = no_number
begun_by_command (primitive.Leaders kind) = no_number
begun_by_command primitive.SpaceFactor = begin.At place.SpaceFactor
begun_by_command primitive.PrevGraf = begin.At place.PrevGraf
begun_by_command primitive.ParShape = begin.At place.ParShape
begun_by_command primitive.FontDimen = begin.FontDimen
begun_by_command (primitive.FontInteger kind) = begin.FontInteger kind
begun_by_command primitive.NullFont = no_number
begun_by_command primitive.LoadFont = no_number
begun_by_command primitive.Char = no_number
begun_by_command primitive.ItalicCorrection = no_number
begun_by_command primitive.ControlSpace = no_number
begun_by_command (primitive.Indent how) = no_number
begun_by_command primitive.DiscretionaryHyphen = no_number
begun_by_command primitive.Adjust = no_number
begun_by_command primitive.Discretionary = no_number
begun_by_command (primitive.FamilyFont size) = no_number
begun_by_command primitive.MathChar = no_number
begun_by_command (primitive.Atom class) = no_number
begun_by_command primitive.Center = no_number
begun_by_command (primitive.Limits kind) = no_number
begun_by_command (primitive.Style style) = no_number
begun_by_command primitive.Choice = no_number
begun_by_command (primitive.Fraction kind) = no_number
begun_by_command (primitive.Delimited what) = no_number
begun_by_command (primitive.Coded kind) = no_number
begun_by_command primitive.Accent = no_number
begun_by_command primitive.MathGlue = no_number
begun_by_command primitive.Nonscript = no_number
begun_by_command primitive.Insert = no_number
begun_by_command primitive.Align = no_number
begun_by_command (primitive.AlignWord word) = no_number
begun_by_command (primitive.EquationNumber side) = no_number
begun_by_command primitive.DeadCycles = begin.At place.DeadCycles
begun_by_command (primitive.Page quantity) = begin.At (place.Page quantity)

-- a name that \chardef or \mathchardef defined is its number, and that of a register stands for its value; what means a
-- space is one
abbrev pub begun_by_meaning : Meaning → Beginning
begun_by_meaning meaning.Undefined = begin.Nothing Undefined
begun_by_meaning (meaning.Command command) = begun_by_command command
begun_by_meaning (meaning.Character code Space) = begin.Plus
begun_by_meaning (meaning.Character code _) = begin.Nothing MissingNumber
begun_by_meaning (meaning.CharacterNumber n) = begin.Number n
begun_by_meaning (meaning.MathNumber n) = begin.Number n
begun_by_meaning (meaning.CountRegister n) = begin.At (place.Count n)
begun_by_meaning (meaning.DimenRegister n) = begin.At (place.Dimen n)
begun_by_meaning (meaning.SkipRegister n) = begin.At (place.Skip n)
begun_by_meaning (meaning.MuskipRegister n) = begin.At (place.Muskip n)
begun_by_meaning (meaning.ToksRegister n) = no_number
begun_by_meaning (meaning.Font n) = no_number
begun_by_meaning (meaning.Expandable e) = no_number
begun_by_meaning (meaning.Macro m) = no_number
begun_by_meaning meaning.Held = no_number

-- a character of category 12 that is no digit: + - ' " ` begin something by themselves, and a point does a size's fraction
abbrev pub begun_by_sign : ℕ → Meaning → Beginning
begun_by_sign code m =
    if code == character "+" then begin.Plus
    else if code == character "-" then begin.Minus
    else if code == character "'" then begin.Digits Octal
    else if code == character "\"" then begin.Digits Hexadecimal
    else if code == character "`" then begin.Character
    else if code == character "." then begin.Point
    else if code == character "," then begin.Point
    else begun_by_meaning m

abbrev pub begun_by : Option ℕ → Token → Meaning → Beginning
begun_by (Some d) t m = begin.Digit d
begun_by None (token.Character code Other) m = begun_by_sign code m
begun_by None t m = begun_by_meaning m

-- what a token begins
abbrev pub beginning : Seen → Beginning
beginning t = begun_by (digit Decimal t) t.token t.meaning
