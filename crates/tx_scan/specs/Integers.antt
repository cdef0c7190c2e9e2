-- Integers (The TeXbook, chapter 24; TeX: The Program, sections 413 and 440 to 445).
use Rattle.std.specs.Prelude.{ℕ, ◌+◌, ◌*◌, ◌∷◌, [], ◌++◌, Bool, false, not, nat_le, ℤ, pos, negsuc, neg_ℤ, ◌≤ℤ◌, int_le, ◌&&◌, List, Option, Some, None, if◌then◌else◌}
use Rattle.tx_char.specs.declared.tokens.Token.{Token}
use Rattle.tx_char.specs.declared.tokens.Token.TheVariants as token
use Rattle.tx_seen.specs.declared.error.TexError.TheVariants.{Undefined, MissingNumber, MissingUnit, NotAllowed, NumberOutOfRange, IntegerTooLarge}
use Rattle.tx_seen.specs.declared.fed.Want.TheVariants.{Raw, Expanded}
use Rattle.tx_seen.specs.declared.fed.Kind.TheVariants.{Quantity}
use Rattle.tx_seen.specs.declared.fed.Value.TheVariants.{Int, Dimen, Glue, Muglue, Magnification, Flag, Absent, OutOfRange}
use Rattle.tx_seen.specs.declared.place.FontName.{FontName}
use Rattle.tx_seen.specs.declared.place.Place.{Place}
use Rattle.tx_seen.specs.declared.seen.Seen.{Seen}
use Rattle.tx_seen.specs.Seen.{is_space, is_undefined}
use Rattle.tx_seen.specs.declared.item.Item.{Item}
use Rattle.tx_seen.specs.declared.item.Item.TheVariants.{Took, Gave}
use Rattle.tx_seen.specs.Readings.{Reading, More, Need, Done, Wrong, next}
use Rattle.tx_scan.specs.declared.scans.Radix.{Radix}
use Rattle.tx_scan.specs.declared.scans.Radix.TheVariants.{Decimal}
use Rattle.tx_prim.specs.declared.family.Numbered.{Numbered}
use Rattle.tx_scan.specs.declared.scans.Counted.{Counted}
use Rattle.tx_scan.specs.declared.scans.Counted.TheVariants as counts
use Rattle.tx_scan.specs.declared.scans.FontSought.{FontSought}
use Rattle.tx_scan.specs.declared.scans.FontSought.TheVariants as sought
use Rattle.tx_scan.specs.declared.scans.Outer.{Outer}
use Rattle.tx_scan.specs.declared.scans.Beginning.{Beginning}
use Rattle.tx_scan.specs.declared.scans.Beginning.TheVariants as begin
use Rattle.tx_seen.specs.Places.{place_of}
use Rattle.tx_scan.specs.Beginnings.{base, digit, beginning}
use Rattle.tx_scan.specs.FontNames.{font_behind, font_held, parameter_number, place_of_font}

-- a constant, and the token behind it that is read and isn't part of it, if there is one
pub record Ended : Type 0 where
  pub number : ℕ
  pub behind : List Item

-- a token behind a thing belongs to it if it means a space
abbrev pub unless_space : Seen → List Item
unless_space t = if is_space t then [] else Took t ∷ []

-- a token that was to be expanded, and has no meaning, is an error
abbrev pub expanded : {A : Type 0} → Seen → Reading A → Reading A
expanded t reading = if is_undefined t then Wrong Undefined else reading

-- a constant that this token ends
abbrev pub ended_by : ℕ → Seen → List Item → Reading Ended
ended_by n t rest = expanded t (Done (record { number = n; behind = unless_space t }) rest)

-- one optional space behind a character's code
abbrev pub space_after : ℕ → List Item → Reading Ended
space_after n [] = More Expanded
space_after n (Gave v ∷ rest) = Wrong MissingNumber
space_after n (Took t ∷ rest) = ended_by n t rest

-- the code that stands behind a backquote: a character's, of any category, or that of a name of one character
abbrev pub code_named : Token → Option ℕ
code_named (token.Character code category) = Some code
code_named (token.Name (code ∷ [])) = Some code
code_named (token.Name _) = None
code_named token.FrozenRelax = None
code_named (token.FontIdentifier font) = None

-- a code, if there is one, and an optional space
abbrev pub coded : Option ℕ → List Item → Reading Ended
coded None rest = Wrong MissingNumber
coded (Some code) rest = space_after code rest

-- behind a backquote; the token there isn't expanded
abbrev pub character_code : List Item → Reading Ended
character_code [] = More Raw
character_code (Gave v ∷ rest) = Wrong MissingNumber
character_code (Took t ∷ rest) = coded (code_named t.token) rest

-- one more digit, if the number isn't too large
abbrev pub with_digit : {A : Type 0} → ℕ → ℕ → (ℕ → Reading A) → Reading A
with_digit n d on = if nat_le (n + d) 2147483647 then on (n + d) else Wrong IntegerTooLarge

-- the digits behind those that stand for n, and an optional space
abbrev pub digits : Radix → ℕ → List Item → Reading Ended
digits radix n [] = More Expanded
digits radix n (Gave v ∷ rest) = Wrong MissingNumber
digits radix n (Took t ∷ rest) = digit_or_end (digit radix t) (base radix * n) (λ m. digits radix m rest) (ended_by n t rest)
  where
    digit_or_end : Option ℕ → ℕ → (ℕ → Reading Ended) → Reading Ended → Reading Ended
    digit_or_end None n on end = end
    digit_or_end (Some d) n on end = with_digit n d on

-- the first digit of an octal or hexadecimal constant must be there
abbrev pub first_digit : Radix → List Item → Reading Ended
first_digit radix [] = More Expanded
first_digit radix (Gave v ∷ rest) = Wrong MissingNumber
first_digit radix (Took t ∷ rest) = digits_from (digit radix t) t rest
  where
    digits_from : Option ℕ → Seen → List Item → Reading Ended
    digits_from None t rest = expanded t (Wrong MissingNumber)
    digits_from (Some d) t rest = digits radix d rest

-- whether a number is in the range of integers
abbrev pub is_in_range : ℤ → Bool
is_in_range n = int_le (neg_ℤ (pos 2147483647)) n && int_le n (pos 2147483647)

-- it is
abbrev pub IsInRange : ℤ → Type 0
IsInRange n = (neg_ℤ (pos 2147483647) ≤ℤ n) × (n ≤ℤ pos 2147483647)

-- a number in that range
abbrev pub in_range : ℤ → List Item → Reading ℤ
in_range n rest = if is_in_range n then Done n rest else Wrong IntegerTooLarge

-- a value that was asked for; a size counts in scaled points, of glue the width, which may not be told in mu; a quantity that the
-- mode lacks is an error (TeX: The Program, sections 418 and 429)
abbrev pub given : Item → List Item → Reading ℤ
given (Gave (Int n)) rest = in_range n rest
given (Gave (Dimen n)) rest = in_range n rest
given (Gave (Glue g)) rest = in_range g.width rest
given (Gave (Muglue g)) rest = Wrong MissingUnit
given (Gave (Magnification n)) rest = Wrong MissingNumber
given (Gave (Flag _)) rest = Wrong MissingNumber
given (Gave Absent) rest = Wrong NotAllowed
given (Gave OutOfRange) rest = Wrong NumberOutOfRange
given (Took t) rest = Wrong MissingNumber

-- the number that stands at a place
abbrev pub quantity : Place → List Item → Reading ℤ
quantity place [] = Need (Quantity place)
quantity place (item ∷ rest) = given item rest

-- the number of a register or a character
abbrev pub byte_of : ℤ → Option ℕ
byte_of (pos n) = if nat_le n 255 then Some n else None
byte_of (negsuc n) = None

-- what stands at a number
abbrev pub numbered : Numbered → Option ℕ → List Item → Reading ℤ
numbered kind None rest = Wrong NumberOutOfRange
numbered kind (Some n) rest = quantity (place_of kind n) rest

abbrev pub with_sign : Bool → ℤ → ℤ
with_sign negative n = if negative then neg_ℤ n else n

-- what is needed of a font that follows
abbrev pub of_font : FontSought → Reading FontName → Reading ℤ
of_font sought font = next font (λ f rest. quantity (place_of_font sought f) rest)

-- what stands at a number that waits for its number, behind which this is: a font is read from there, and all else stays behind
abbrev pub counted : (List Item → List Item → Reading FontName) → Counted → ℤ → List Item → List Item → (ℤ → List Item → List Item → Reading ℤ) → Reading ℤ
counted font (counts.Numbered kind) n behind rest on = next (numbered kind (byte_of n) rest) (λ value rest. on value behind rest)
counted font counts.FontDimen n behind rest on = next (of_font (sought.Dimen (parameter_number n)) (font behind rest)) (λ value rest. on value [] rest)

-- a number is whole, and so is the integer unless another number waits for this one, which is then what stands there; the
-- token behind it stays behind
abbrev pub whole_by : (List Item → List Item → Reading FontName) → List Outer → ℤ → List Item → List Item → Reading ℤ
whole_by font [] n behind rest = Done n (behind ++ rest)
whole_by font (outer ∷ outers) n behind rest = counted font outer.kind n behind rest (λ value behind rest. whole_by font outers (with_sign outer.negative value) behind rest)

abbrev pub whole : List Outer → ℤ → List Item → List Item → Reading ℤ
whole outers n behind rest = whole_by font_behind outers n behind rest

-- what is needed of a font is a whole number, with this sign; the font stands behind a number, or by itself
abbrev pub font_number : List Outer → Bool → FontSought → Option FontName → List Item → List Item → Reading ℤ
font_number outers negative sought tells behind rest = next (of_font sought (font_held tells behind rest)) (λ n rest. whole outers (with_sign negative n) [] rest)

-- a constant with its sign is a whole number
abbrev pub signed_constant : List Outer → Bool → Ended → List Item → Reading ℤ
signed_constant outers negative c rest = whole outers (with_sign negative (pos c.number)) c.behind rest

-- what a token begins, with its sign, where these numbers wait for it, or how reading goes on
abbrev pub begun : List Outer → Bool → (List Outer → Bool → Reading ℤ) → List Item → Beginning → Reading ℤ
begun outers negative on rest begin.Plus = on outers negative
begun outers negative on rest begin.Minus = on outers (not negative)
begun outers negative on rest (begin.Digit d) = next (digits Decimal d rest) (signed_constant outers negative)
begun outers negative on rest (begin.Digits radix) = next (first_digit radix rest) (signed_constant outers negative)
begun outers negative on rest begin.Character = next (character_code rest) (signed_constant outers negative)
begun outers negative on rest begin.Point = Wrong MissingNumber
begun outers negative on rest (begin.Number n) = whole outers (with_sign negative (pos n)) [] rest
begun outers negative on rest (begin.At place) = next (quantity place rest) (λ n rest. whole outers (with_sign negative n) [] rest)
begun outers negative on rest (begin.Numbered kind) = on (record { negative = negative; kind = counts.Numbered kind } ∷ outers) false
begun outers negative on rest begin.FontDimen = on (record { negative = negative; kind = counts.FontDimen } ∷ outers) false
begun outers negative on rest (begin.FontInteger kind) = font_number outers negative (sought.Integer kind) None [] rest
begun outers negative on rest (begin.Nothing error) = Wrong error

-- a number with its signs, whose sign so far is this, where these numbers wait for it, the innermost first
abbrev pub signs : List Outer → Bool → List Item → Reading ℤ
signs outers negative [] = More Expanded
signs outers negative (Gave v ∷ rest) = Wrong MissingNumber
signs outers negative (Took t ∷ rest) = begun outers negative (λ outers negative. signs outers negative rest) rest (beginning t)

-- an integer
abbrev pub integer : List Item → Reading ℤ
integer items = signs [] false items
