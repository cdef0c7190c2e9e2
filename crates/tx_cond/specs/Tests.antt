-- The tests of conditionals (The TeXbook, chapter 20; TeX: The Program, sections 501 to 509). The value of a test is 1 where it
-- is true and 0 where it is false, and that of \ifcase the number of a branch.
use Rattle.std.specs.Prelude.{ℕ, ◌%◌, ◌==◌, ◌&&◌, ◌∷◌, [], Bool, true, false, ℤ, pos, int_lt, int_le, unsigned_abs, List, Option, Some, None, Result, Ok, Err, if◌then◌else◌}
use Rattle.tx_char.specs.Character.{character}
use Rattle.tx_char.specs.Category.{number_of}
use Rattle.tx_char.specs.declared.category.Cat.TheVariants.{Other, Active}
use Rattle.tx_char.specs.declared.tokens.Token.{Token}
use Rattle.tx_char.specs.declared.tokens.Token.TheVariants as token
use Rattle.tx_prim.specs.declared.modes.Mode.{Mode}
use Rattle.tx_prim.specs.declared.expandable.Test.{Test}
use Rattle.tx_prim.specs.declared.expandable.Test.TheVariants as kind
use Rattle.tx_prim.specs.Modes.{holds}
use Rattle.tx_seen.specs.declared.error.TexError.{TexError}
use Rattle.tx_seen.specs.declared.error.TexError.TheVariants.{MissingNumber, MissingUnit}
use Rattle.tx_seen.specs.declared.fed.Want.{Want}
use Rattle.tx_seen.specs.declared.fed.Want.TheVariants.{Raw, Expanded}
use Rattle.tx_seen.specs.declared.item.Item.{Item}
use Rattle.tx_seen.specs.declared.item.Item.TheVariants.{Took, Gave}
use Rattle.tx_seen.specs.declared.meaning.Meaning.{Meaning}
use Rattle.tx_seen.specs.declared.meaning.Meaning.TheVariants.{Character, Held}
use Rattle.tx_seen.specs.declared.seen.Seen.{Seen}
use Rattle.tx_seen.specs.Seen.{is_space}
use Rattle.tx_seen.specs.Readings.{Reading, More, Done, Wrong, next}
use Rattle.tx_scan.specs.declared.scans.Measure.{Measure}
use Rattle.tx_scan.specs.Dimensions.{dimension, lengths}
use Rattle.tx_seen.specs.declared.fed.Value.{Value}
use Rattle.tx_seen.specs.declared.fed.Value.TheVariants.{Flag}
use Rattle.tx_scan.specs.Integers.{integer, expanded}
use Rattle.tx_scan.specs.Mapped.{done_if}
use Rattle.tx_scan.specs.Quantities.{numbered_value}
use Rattle.tx_scan.specs.declared.scans.Sought.TheVariants as sought
use Rattle.tx_cond.specs.Alike.{same_meaning}
use Rattle.tx_cond.specs.declared.test.Comparand.{Comparand}
use Rattle.tx_cond.specs.declared.test.Comparand.TheVariants.{Number, Size}
use Rattle.tx_cond.specs.declared.test.Relation.{Relation}
use Rattle.tx_cond.specs.declared.test.Relation.TheVariants.{Less, Equal, Greater}
use Rattle.tx_cond.specs.declared.test.Compared.{Compared}
use Rattle.tx_cond.specs.declared.test.Compared.TheVariants as compared
use Rattle.tx_cond.specs.declared.test.Judged.{Judged}
use Rattle.tx_cond.specs.declared.test.Judged.TheVariants.{Case, Odd, Against}

abbrev pub truth : Bool → ℤ
truth true = pos 1
truth false = pos 0

-- whether two numbers stand in a relation
abbrev pub stands : Relation → ℤ → ℤ → Bool
stands Less m n = int_lt m n
stands Equal m n = int_le m n && int_le n m
stands Greater m n = int_lt n m

-- what the last number of a test makes of it
abbrev pub judgement : Judged → ℤ → ℤ
judgement Case n = n
judgement Odd n = truth (unsigned_abs n % 2 == 1)
judgement (Against m relation) n = truth (stands relation m n)

abbrev pub judged : Judged → ℤ → List Item → Reading ℤ
judged j n rest = Done (judgement j n) rest

-- a dimension, by its sp
abbrev pub in_points : Measure → List Item → Reading ℤ
in_points measure rest = Done measure.size rest

-- what a relation stands between
abbrev pub comparand : Comparand → List Item → Reading ℤ
comparand Number items = integer items
comparand Size items = next (dimension lengths items) in_points

-- the last number or size of a test
abbrev pub last_one : Comparand → Judged → List Item → Reading ℤ
last_one c j items = next (comparand c items) (judged j)

-- `<`, `=` or `>` of category 12
abbrev pub relation_of : Token → Option Relation
relation_of (token.Character code Other) =
    if code == character "<" then Some Less
    else if code == character "=" then Some Equal
    else if code == character ">" then Some Greater
    else None
relation_of _ = None

-- a relation must be there
abbrev pub related : Option Relation → List Item → Reading Relation
related None rest = Wrong MissingUnit
related (Some relation) rest = Done relation rest

-- a relation, with spaces before it
abbrev pub relation : List Item → Reading Relation
relation [] = More Expanded
relation (Gave v ∷ rest) = Wrong MissingUnit
relation (Took t ∷ rest) = expanded t (if is_space t then relation rest else related (relation_of t.token) rest)

-- what stands behind the first of two numbers or sizes
abbrev pub against : Comparand → ℤ → Relation → List Item → Reading ℤ
against c m r rest = last_one c (Against m r) rest

abbrev pub behind_left : Comparand → ℤ → List Item → Reading ℤ
behind_left c m rest = next (relation rest) (against c m)

-- the character that a token means, and its category, by their numbers; an active character that isn't expanded stands for
-- itself; what means no character has neither
abbrev pub code_of : Seen → Option ℕ
code_of t = code_by t.meaning t.token
  where
    code_by : Meaning → Token → Option ℕ
    code_by (Character code category) token = Some code
    code_by Held (token.Character code Active) = Some code
    code_by meaning token = None

abbrev pub category_of : Seen → Option ℕ
category_of t = category_by t.meaning t.token
  where
    category_by : Meaning → Token → Option ℕ
    category_by (Character code category) token = Some (number_of category)
    category_by Held (token.Character code Active) = Some (number_of Active)
    category_by meaning token = None

-- the same number, or none either time
abbrev pub same_number : Option ℕ → Option ℕ → Bool
same_number None None = true
same_number (Some m) (Some n) = m == n
same_number _ _ = false

-- whether two tokens are alike in what is compared
abbrev pub alike : Compared → Seen → Seen → Bool
alike compared.Code t u = same_number (code_of t) (code_of u)
alike compared.Category t u = same_number (category_of t) (category_of u)
alike compared.Meaning t u = same_meaning t.meaning u.meaning

-- meanings are compared of tokens as they stand
abbrev pub want : Compared → Want
want compared.Code = Expanded
want compared.Category = Expanded
want compared.Meaning = Raw

abbrev pub wanted : {A : Type 0} → Compared → Seen → Reading A → Reading A
wanted compared.Code t reading = expanded t reading
wanted compared.Category t reading = expanded t reading
wanted compared.Meaning t reading = reading

-- the second of two tokens
abbrev pub second : Compared → Seen → List Item → Reading ℤ
second c t [] = More (want c)
second c t (Gave v ∷ rest) = Wrong MissingNumber
second c t (Took u ∷ rest) = wanted c u (Done (truth (alike c t u)) rest)

-- two tokens
abbrev pub two_tokens : Compared → List Item → Reading ℤ
two_tokens c [] = More (want c)
two_tokens c (Gave v ∷ rest) = Wrong MissingNumber
two_tokens c (Took t ∷ rest) = wanted c t (second c t rest)

-- whether the box of a register is as it is tested (section 505)
abbrev pub answer_of : Value → Result ℤ TexError
answer_of (Flag holds) = Ok (truth holds)
answer_of other = Err MissingNumber

abbrev pub answered : Value → List Item → Reading ℤ
answered value rest = done_if (answer_of value) rest

-- what the relation of a test stands between, where it has one
abbrev pub compared_by : Test → Comparand
compared_by kind.Character = Number
compared_by kind.Category = Number
compared_by kind.Same = Number
compared_by kind.Number = Number
compared_by kind.Dimension = Size
compared_by (kind.Box t) = Number
compared_by kind.Odd = Number
compared_by kind.Case = Number
compared_by (kind.Mode which) = Number
compared_by kind.True = Number
compared_by kind.False = Number

-- a test, in this mode
abbrev pub test : Test → Mode → List Item → Reading ℤ
test kind.Character mode items = two_tokens compared.Code items
test kind.Category mode items = two_tokens compared.Category items
test kind.Same mode items = two_tokens compared.Meaning items
test kind.Number mode items = next (comparand Number items) (behind_left Number)
test kind.Dimension mode items = next (comparand Size items) (behind_left Size)
test (kind.Box t) mode items = next (numbered_value (sought.Box t) items) answered
test kind.Odd mode items = last_one Number Odd items
test kind.Case mode items = last_one Number Case items
test (kind.Mode which) mode items = Done (truth (holds which mode)) items
test kind.True mode items = Done (pos 1) items
test kind.False mode items = Done (pos 0) items
