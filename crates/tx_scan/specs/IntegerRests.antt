-- The scan of an integer means the rest of the integer.
use Rattle.std.specs.Prelude.{◌≡◌, ◌≤◌, ℕ, zero, suc, ◌∷◌, [], Bool, true, false, ℤ, List, length, Option, None, Result, Ok, Err}
use Rattle.tx_seen.specs.declared.seen.Seen.{Seen}
use Rattle.tx_seen.specs.declared.fed.Value.{Value}
use Rattle.tx_seen.specs.declared.fed.Fed.{Fed}
use Rattle.tx_seen.specs.declared.fed.Fed.TheVariants as fed
use Rattle.tx_seen.specs.declared.item.Item.{Item}
use Rattle.tx_seen.specs.declared.item.Item.TheVariants.{Took}
use Rattle.tx_seen.specs.declared.error.TexError.{TexError}
use Rattle.tx_seen.specs.Readings.{Reading, Done, Wrong, next}
use Rattle.tx_seen.specs.Seen.{font_name, is_space, is_undefined}
use Rattle.tx_seen.specs.declared.fed.Want.TheVariants.{Expanded}
use Rattle.tx_seen.specs.declared.place.FontName.{FontName}
use Rattle.tx_scan.specs.declared.scans.Counted.{Counted}
use Rattle.tx_scan.specs.declared.scans.Counted.TheVariants as counts
use Rattle.tx_scan.specs.declared.scans.FontSought.{FontSought}
use Rattle.tx_scan.specs.declared.scans.Outer.{Outer}
use Rattle.tx_scan.specs.declared.scans.IntScan.{IntScan}
use Rattle.tx_scan.specs.declared.scans.IntStage.{IntStage}
use Rattle.tx_scan.specs.declared.scans.IntStage.TheVariants.{Signs, FirstDigit, Digits, Character, AfterCharacter, Font, Given}
use Rattle.tx_scan.specs.FontNames.{font_held, told_items}
use Rattle.tx_scan.specs.Integers.{signs, first_digit, digits, character_code, space_after, given, ended_by, font_number, whole_by, with_sign, signed_constant, integer, IsInRange}
use Rattle.tx_scan.specs.Rests.{HasTakenBy, IsAnswer, IsGivenBy, IsPassed}

-- whether a font is needed behind a number, for what waits for it
abbrev pub awaits_kind : Counted → Bool → Bool
awaits_kind (counts.Numbered kind) later = later
awaits_kind counts.FontDimen later = true

abbrev pub awaits_font : List Outer → Bool
awaits_font [] = false
awaits_font (outer ∷ outers) = awaits_kind outer.kind (awaits_font outers)

-- how many tokens are held that ended a number, where so many did: the one that a font is needed of is taken, and all that is kept of
-- it is which font it tells
abbrev pub held_of : ℕ → Bool → ℕ
held_of zero awaits = 0
held_of (suc n) true = 0
held_of (suc n) false = suc n

abbrev pub behind_of : Bool → ℕ → Option FontName → List Item → List Item
behind_of true count tells behind = told_items count tells
behind_of false count tells behind = behind

-- the rest of an integer by the numbers that wait, the sign, the font that a token behind a number tells, and the stage; these tokens
-- are held
abbrev pub stage_rest : List Outer → Bool → Option FontName → IntStage → List Item → Item → List Item → Reading ℤ
stage_rest outers negative tells Signs behind item more = signs outers negative (item ∷ more)
stage_rest outers negative tells (FirstDigit radix) behind item more = next (first_digit radix (item ∷ more)) (signed_constant outers negative)
stage_rest outers negative tells (Digits constant) behind item more = next (digits constant.radix constant.number (item ∷ more)) (signed_constant outers negative)
stage_rest outers negative tells Character behind item more = next (character_code (item ∷ more)) (signed_constant outers negative)
stage_rest outers negative tells (AfterCharacter code) behind item more = next (space_after code (item ∷ more)) (signed_constant outers negative)
stage_rest outers negative tells (Font sought) behind item more = font_number outers negative sought None [] (item ∷ more)
stage_rest outers negative tells (Given held) behind item more = next (given item more) (λ n rest. whole_by (font_held tells) outers (with_sign negative n) (behind_of (awaits_font outers) held tells behind) rest)

abbrev pub rest : IntScan → List Item → Item → List Item → Reading ℤ
rest scan behind item more = stage_rest scan.outers scan.negative scan.behind scan.stage behind item more

-- how many tokens ended a number that stands before a value, and how many are held
abbrev pub stage_held : IntStage → ℕ
stage_held (Given held) = held
stage_held _ = 0

abbrev pub held : IntScan → ℕ
held scan = held_of (stage_held scan.stage) (awaits_font scan.outers)

-- the scan of which nothing is read
abbrev pub begun_integer : IntScan
begun_integer = record { outers = []; negative = false; stage = Signs; behind = None }

-- the scan that has taken these items reads on as the integer that begins with them
abbrev pub HasTaken : IntScan → List Item → Type 0
HasTaken scan taken = HasTakenBy rest held integer scan taken

-- how many tokens at most are held, or given back, behind one more: none where the number hasn't begun
abbrev pub stage_most : IntStage → ℕ
stage_most Signs = 0
stage_most _ = 1

abbrev pub most : IntScan → ℕ
most scan = stage_most scan.stage

-- an answer to one more token says what reading on gives
abbrev pub IsFed : IntScan → Seen → IntScan → Fed ℤ → Type 0
IsFed old t new answer = (behind : List Item) → IsAnswer rest held (most old) (λ more. rest old behind (Took t) more) t new answer

-- an answer to a value says what reading on gives
abbrev pub IsGiven : IntScan → Value → IntScan → Fed ℤ → Type 0
IsGiven old v new answer = IsGivenBy rest held old v new answer

-- an answer says what becomes of a whole number that so many tokens ended; the last one tells this font
abbrev pub IsWhole : List Outer → Option FontName → ℤ → ℕ → IntScan → Fed ℤ → Type 0
IsWhole outers tells n count new answer = (behind : List Item) → length behind ≤ held_of count (awaits_font outers) → IsPassed rest held (λ more. whole_by (font_held tells) outers n (behind_of (awaits_font outers) count tells behind) more) behind (held_of count (awaits_font outers)) new answer

-- a number is what reading gives, whatever is behind it, and in the range of integers; or the error that comes
abbrev pub IsNumberRead : (List Item → Reading ℤ) → Result ℤ TexError → Type 0
IsNumberRead reading (Ok n) = ((rest : List Item) → reading rest ≡ Done n rest) × IsInRange n
IsNumberRead reading (Err error) = (rest : List Item) → reading rest ≡ Wrong error

-- an answer to a token that ends a constant
abbrev pub IsEnded : List Outer → Bool → ℕ → Seen → IntScan → Fed ℤ → Type 0
IsEnded outers negative n t new answer = IsAnswer rest held 1 (λ more. next (ended_by n t more) (signed_constant outers negative)) t new answer

-- an answer says what becomes of what is needed of a font, where so many tokens ended the number before it, and are taken
abbrev pub IsFontNeeded : List Outer → Bool → FontSought → Option FontName → ℕ → IntScan → Fed ℤ → Type 0
IsFontNeeded outers negative sought tells count new answer = IsPassed rest held (λ more. font_number outers negative sought tells (told_items count tells) more) [] 0 new answer

-- an answer where the number of what is numbered comes next
abbrev pub IsWaiting : IntScan → Counted → IntScan → Fed ℤ → Type 0
IsWaiting old kind new answer = (new ≡ record { outers = record { negative = old.negative; kind = kind } ∷ old.outers; negative = false; stage = Signs; behind = old.behind }) × (answer ≡ fed.More Expanded)

-- an integer that is done is in the range of integers
abbrev pub IsInteger : Fed ℤ → Type 0
IsInteger (fed.More want) = Unit {0}
IsInteger (fed.Need kind) = Unit {0}
IsInteger (fed.Done value back) = IsInRange value
IsInteger (fed.Wrong error) = Unit {0}

-- what this token tells which ended a number: this font, or none; it is no space, and it means something
abbrev pub Tells : Seen → Option FontName → Type 0
Tells t tells = (is_undefined t ≡ false) × ((is_space t ≡ false) × (tells ≡ font_name t))

-- where a token ended a number before an answer, it is this one, and which font it tells is known
abbrev pub IsTold : Seen → IntScan → Fed ℤ → Type 0
IsTold t new (fed.More want) = Unit {0}
IsTold t new (fed.Need kind) = 1 ≤ stage_held new.stage → Tells t new.behind
IsTold t new (fed.Done value back) = 1 ≤ back → Tells t new.behind
IsTold t new (fed.Wrong error) = Unit {0}

-- so many tokens at most ended the number before an answer
abbrev pub EndedBy : ℕ → IntScan → Fed ℤ → Type 0
EndedBy count new (fed.More want) = Unit {0}
EndedBy count new (fed.Need kind) = stage_held new.stage ≤ count
EndedBy count new (fed.Done value back) = back ≤ count
EndedBy count new (fed.Wrong error) = Unit {0}

-- how many numbers wait for this one: so many values more are needed at most
abbrev pub waiting : IntScan → ℕ
waiting scan = length scan.outers
