-- Dimensions (The TeXbook, chapters 10 and 24; TeX: The Program, sections 448 to 458).
use Rattle.std.specs.Prelude.{ℕ, zero, suc, ◌+◌, ◌*◌, ◌/◌, ◌%◌, ◌==◌, ◌∷◌, [], ◌++◌, ◌&&◌, Bool, true, false, not, nat_le, ℤ, pos, negsuc, unsigned_abs, List, Option, Some, None, Result, Ok, Err, if◌then◌else◌}
use Rattle.tx_num.specs.Fractions.{signed}
use Rattle.tx_num.specs.Decimals.{fraction_of}
use Rattle.tx_num.specs.Units.{size_of}
use Rattle.tx_num.specs.declared.units.PhysicalUnit.TheVariants.{Point, Pica, Inch, BigPoint, Centimetre, Millimetre, DidotPoint, Cicero, ScaledPoint}
use Rattle.tx_char.specs.Character.{character}
use Rattle.tx_prim.specs.declared.family.Numbered.{Numbered}
use Rattle.tx_seen.specs.Places.{has_size, place_of}
use Rattle.tx_seen.specs.declared.error.TexError.{TexError}
use Rattle.tx_seen.specs.declared.fed.Kind.TheVariants.{Quantity}
use Rattle.tx_seen.specs.declared.fed.Value.{Value}
use Rattle.tx_seen.specs.declared.fed.Value.TheVariants.{Muglue, Magnification, Absent}
use Rattle.tx_seen.specs.declared.place.FontSize.TheVariants.{Quad, XHeight}
use Rattle.tx_seen.specs.declared.place.Place.TheVariants.{Magnification as Magnifying, FontSize as Font_size}
use Rattle.tx_seen.specs.declared.error.TexError.TheVariants.{BadMagnification, MissingNumber, MissingUnit, DimensionTooLarge}
use Rattle.tx_seen.specs.declared.fed.Want.TheVariants.{Expanded}
use Rattle.tx_seen.specs.declared.seen.Seen.{Seen}
use Rattle.tx_seen.specs.Seen.{is_space, is_key, is_point}
use Rattle.tx_seen.specs.declared.item.Item.{Item}
use Rattle.tx_seen.specs.declared.item.Item.TheVariants.{Took, Gave}
use Rattle.tx_seen.specs.Readings.{Reading, More, Need, Done, Wrong, next}
use Rattle.tx_scan.specs.declared.scans.Radix.{Radix}
use Rattle.tx_scan.specs.declared.scans.Radix.TheVariants.{Octal, Decimal, Hexadecimal}
use Rattle.tx_scan.specs.declared.scans.Units.{Units}
use Rattle.tx_scan.specs.declared.scans.Order.{Order}
use Rattle.tx_scan.specs.declared.scans.Order.TheVariants.{Normal, Fil, Fill, Filll}
use Rattle.tx_scan.specs.declared.scans.Measure.{Measure}
use Rattle.tx_scan.specs.declared.scans.UnitName.{UnitName}
use Rattle.tx_scan.specs.declared.scans.UnitName.TheVariants.{Physical, Mathematical, Font}
use Rattle.tx_scan.specs.declared.scans.Amount.{Amount}
use Rattle.tx_scan.specs.declared.scans.Amount.TheVariants.{Whole as The_size, Times}
use Rattle.tx_scan.specs.declared.scans.Letters.{Letters}
use Rattle.tx_scan.specs.declared.scans.Letters.TheVariants.{P, I, B, C, M, D, S, E, F, Fi, T, Tr, Tru}
use Rattle.tx_scan.specs.declared.scans.Spelled.{Spelled}
use Rattle.tx_scan.specs.declared.scans.Spelled.TheVariants.{On, Whole, Infinite, True, No}
use Rattle.tx_scan.specs.declared.scans.Beginning.{Beginning}
use Rattle.tx_scan.specs.declared.scans.Beginning.TheVariants as begin
use Rattle.tx_scan.specs.Beginnings.{base, digit, beginning}
use Rattle.tx_scan.specs.Mapped.{done_if}
use Rattle.tx_scan.specs.Quantities.{quantity_begun}
use Rattle.tx_scan.specs.Integers.{Ended, expanded, given, unless_space, with_digit, character_code, integer}

-- what stands before a unit: whole units, the digits (as text) behind the point, and the token behind them that is read
-- and isn't part of them, if there is one
pub record Factor : Type 0 where
  pub whole : ℕ
  pub digits : List ℕ
  pub behind : List Item

-- a factor that this token ends
abbrev pub factor_ended : ℕ → List ℕ → Seen → List Item → Reading Factor
factor_ended whole digits t rest = expanded t (Done (record { whole = whole; digits = digits; behind = unless_space t }) rest)

-- the digits of a fraction behind these, and an optional space
abbrev pub fraction : ℕ → List ℕ → List Item → Reading Factor
fraction whole digits [] = More Expanded
fraction whole digits (Gave v ∷ rest) = Wrong MissingNumber
fraction whole digits (Took t ∷ rest) = digit_or_end (digit Decimal t) (λ d. fraction whole (digits ++ (character "0" + d) ∷ []) rest) (factor_ended whole digits t rest)
  where
    digit_or_end : Option ℕ → (ℕ → Reading Factor) → Reading Factor → Reading Factor
    digit_or_end None on end = end
    digit_or_end (Some d) on end = on d

-- only a decimal factor has a fraction
abbrev pub is_decimal : Radix → Bool
is_decimal Octal = false
is_decimal Decimal = true
is_decimal Hexadecimal = false

-- the digits of whole units behind those that stand for n, then perhaps a fraction, and an optional space
abbrev pub whole_units : Radix → ℕ → List Item → Reading Factor
whole_units radix n [] = More Expanded
whole_units radix n (Gave v ∷ rest) = Wrong MissingNumber
whole_units radix n (Took t ∷ rest) =
    digit_or_end (digit radix t) (base radix * n) (λ m. whole_units radix m rest) (if is_decimal radix && is_point t then fraction n [] rest else factor_ended n [] t rest)
  where
    digit_or_end : Option ℕ → ℕ → (ℕ → Reading Factor) → Reading Factor → Reading Factor
    digit_or_end None n on end = end
    digit_or_end (Some d) n on end = with_digit n d on

-- the first digit of an octal or hexadecimal factor must be there
abbrev pub first_unit : Radix → List Item → Reading Factor
first_unit radix [] = More Expanded
first_unit radix (Gave v ∷ rest) = Wrong MissingNumber
first_unit radix (Took t ∷ rest) = units_from (digit radix t) t rest
  where
    units_from : Option ℕ → Seen → List Item → Reading Factor
    units_from None t rest = expanded t (Wrong MissingNumber)
    units_from (Some d) t rest = whole_units radix d rest

-- what the first letter makes of a name: p begins pt and pc, i in, b bp, c cm and cc, d dd, s sp, e em and ex, f fil, t true, and m
-- is for mm, or for mu where that alone may stand
abbrev pub first_letter : Units → Seen → Spelled
first_letter units t =
    if units.infinite && is_key (character "f") t then On F
    else if is_key (character "m") t then On M
    else if units.mu then No
    else if is_key (character "p") t then On P
    else if is_key (character "i") t then On I
    else if is_key (character "b") t then On B
    else if is_key (character "c") t then On C
    else if is_key (character "d") t then On D
    else if is_key (character "s") t then On S
    else if is_key (character "e") t then On E
    else if is_key (character "t") t then On T
    else No

-- behind `true` a unit stands that is of the same size everywhere (section 458)
abbrev pub first_letter_behind_true : Seen → Spelled
first_letter_behind_true t =
    if is_key (character "m") t then On M
    else if is_key (character "p") t then On P
    else if is_key (character "i") t then On I
    else if is_key (character "b") t then On B
    else if is_key (character "c") t then On C
    else if is_key (character "d") t then On D
    else if is_key (character "s") t then On S
    else No

-- and then the letter behind these
abbrev pub letter_on : Units → Letters → Seen → Spelled
letter_on units P t =
    if is_key (character "t") t then Whole (Physical Point)
    else if is_key (character "c") t then Whole (Physical Pica)
    else No
letter_on units I t = if is_key (character "n") t then Whole (Physical Inch) else No
letter_on units B t = if is_key (character "p") t then Whole (Physical BigPoint) else No
letter_on units C t =
    if is_key (character "m") t then Whole (Physical Centimetre)
    else if is_key (character "c") t then Whole (Physical Cicero)
    else No
letter_on units M t =
    if units.mu then (if is_key (character "u") t then Whole Mathematical else No)
    else if is_key (character "m") t then Whole (Physical Millimetre)
    else No
letter_on units D t = if is_key (character "d") t then Whole (Physical DidotPoint) else No
letter_on units S t = if is_key (character "p") t then Whole (Physical ScaledPoint) else No
letter_on units E t =
    if is_key (character "m") t then Whole (Font Quad)
    else if is_key (character "x") t then Whole (Font XHeight)
    else No
letter_on units F t = if is_key (character "i") t then On Fi else No
letter_on units Fi t = if is_key (character "l") t then Infinite else No
letter_on units T t = if is_key (character "r") t then On Tr else No
letter_on units Tr t = if is_key (character "u") t then On Tru else No
letter_on units Tru t = if is_key (character "e") t then True else No

-- a unit by its name, or what stands in its place
pub data Named : Type 0 where
  A_unit : UnitName → Named
  Fil_unit : Named
  True_unit : Named

abbrev pub spelled : (Letters → Reading Named) → Spelled → List Item → Reading Named
spelled on (On letters) rest = on letters
spelled on (Whole unit) rest = Done (A_unit unit) rest
spelled on Infinite rest = Done Fil_unit rest
spelled on True rest = Done True_unit rest
spelled on No rest = Wrong MissingUnit

-- the name of a unit behind these letters of it, small or capital
abbrev pub unit_name : Units → Letters → List Item → Reading Named
unit_name units letters [] = More Expanded
unit_name units letters (Gave v ∷ rest) = Wrong MissingNumber
unit_name units letters (Took t ∷ rest) = expanded t (spelled (λ more. unit_name units more rest) (letter_on units letters t) rest)

-- a size in sp, if it isn't too large
abbrev pub sized : Bool → ℕ → Order → List Item → Reading Measure
sized negative size order behind =
    if nat_le size 1073741823 then Done (record { size = signed negative size; order = order }) behind else Wrong DimensionTooLarge

-- whether the signs and a number make it negative
abbrev pub turned : Bool → ℤ → Bool
turned negative (pos n) = negative
turned negative (negsuc n) = not negative

-- so much of an internal quantity: itself, or so many and so many 65536ths of it, rounded down
abbrev pub amount : ℕ → Amount → ℕ → ℕ
amount part The_size size = size
amount part (Times whole) size = size * whole + size * part / 65536

-- an internal quantity that ends the dimension, in sp
abbrev pub ended_with : Bool → ℕ → Amount → ℤ → List Item → Reading Measure
ended_with negative part a n rest = sized (turned negative n) (amount part a (unsigned_abs n)) Normal rest

-- so many of a size that the current font has
abbrev pub font_unit : Bool → ℕ → ℕ → Item → List Item → List Item → Reading Measure
font_unit negative whole part item behind rest = next (given item rest) (λ n rest. ended_with negative part (Times whole) n (behind ++ rest))

-- so many whole units and 65536ths of one, behind whose name this stands; `em` and `ex` are the current font's, and the value is
-- asked for behind that
abbrev pub in_unit : Bool → ℕ → ℕ → UnitName → List Item → List Item → Reading Measure
in_unit negative whole part (Physical unit) behind rest = sized negative (size_of unit whole part) Normal (behind ++ rest)
in_unit negative whole part Mathematical behind rest = sized negative (size_of Point whole part) Normal (behind ++ rest)
in_unit negative whole part (Font size) behind [] = Need (Quantity (Font_size size))
in_unit negative whole part (Font size) behind (item ∷ rest) = font_unit negative whole part item behind rest

-- an optional space behind the unit ends the dimension of so many whole units and 65536ths of one
abbrev pub unit_rest : Bool → ℕ → ℕ → UnitName → List Item → Reading Measure
unit_rest negative whole part unit [] = More Expanded
unit_rest negative whole part unit (Gave v ∷ rest) = Wrong MissingNumber
unit_rest negative whole part unit (Took t ∷ rest) = expanded t (in_unit negative whole part unit (unless_space t) rest)

-- one more l makes a size more infinite; there is nothing behind filll
abbrev pub raised : Order → Option Order
raised Normal = Some Fil
raised Fil = Some Fill
raised Fill = Some Filll
raised Filll = None

abbrev pub more_infinite : Option Order → (Order → Reading Measure) → Reading Measure
more_infinite None on = Wrong MissingUnit
more_infinite (Some order) on = on order

-- spaces and l's behind fil are a part of it
abbrev pub fil_rest : Bool → ℕ → ℕ → Order → List Item → Reading Measure
fil_rest negative whole part order [] = More Expanded
fil_rest negative whole part order (Gave v ∷ rest) = Wrong MissingNumber
fil_rest negative whole part order (Took t ∷ rest) = expanded t (
    if is_space t then fil_rest negative whole part order rest
    else if is_key (character "l") t then more_infinite (raised order) (λ more. fil_rest negative whole part more rest)
    else sized negative (size_of Point whole part) order (Took t ∷ rest))

-- so many whole units and 65536ths of one, where `true` stands before the unit: they are divided by the magnification over 1000, so
-- that they come out as long as they are told (section 457)
abbrev pub magnified_part : ℕ → ℕ → ℕ → ℕ
magnified_part whole part mag = (part * 1000 + 65536 * (whole * 1000 % mag)) / mag

abbrev pub magnified : ℕ → ℕ → ℕ → ℕ × ℕ
magnified whole part mag =
    if mag == 1000 then (whole, part)
    else (whole * 1000 / mag + magnified_part whole part mag / 65536, magnified_part whole part mag % 65536)

-- the unit behind `true`, with spaces before it; no f begins one there, nor does a t
abbrev pub true_ended : Bool → ℕ × ℕ → Named → List Item → Reading Measure
true_ended negative told (A_unit unit) rest = unit_rest negative told.0 told.1 unit rest
true_ended negative told Fil_unit rest = fil_rest negative told.0 told.1 Fil rest
true_ended negative told True_unit rest = Wrong MissingUnit

abbrev pub true_unit : Units → Bool → ℕ × ℕ → List Item → Reading Measure
true_unit units negative told [] = More Expanded
true_unit units negative told (Gave v ∷ rest) = Wrong MissingNumber
true_unit units negative told (Took t ∷ rest) = expanded t (
    if is_space t then true_unit units negative told rest
    else next (spelled (λ more. unit_name units more rest) (first_letter_behind_true t) rest) (true_ended negative told))

-- the magnification, if it may be used, and the unit
abbrev pub behind_true : Units → Bool → ℕ → ℕ → List Item → Reading Measure
behind_true units negative whole part [] = Need (Quantity Magnifying)
behind_true units negative whole part (Gave (Magnification zero) ∷ rest) = Wrong BadMagnification
behind_true units negative whole part (Gave (Magnification (suc mag)) ∷ rest) = true_unit units negative (magnified whole part (suc mag)) rest
behind_true units negative whole part (Gave Absent ∷ rest) = Wrong BadMagnification
behind_true units negative whole part (item ∷ rest) = Wrong MissingNumber

-- what stands behind a unit's name
abbrev pub unit_ended : Units → Bool → ℕ → ℕ → Named → List Item → Reading Measure
unit_ended units negative whole part Fil_unit rest = fil_rest negative whole part Fil rest
unit_ended units negative whole part True_unit rest = behind_true units negative whole part rest
unit_ended units negative whole part (A_unit unit) rest = unit_rest negative whole part unit rest

-- whether a size stands at each number of a kind, or what has one
abbrev pub is_size_kind : Numbered → Bool
is_size_kind kind = has_size (place_of kind 0)

-- whether a token begins an internal quantity
abbrev pub is_internal : Beginning → Bool
is_internal begin.Plus = false
is_internal begin.Minus = false
is_internal (begin.Digit d) = false
is_internal (begin.Digits radix) = false
is_internal begin.Character = false
is_internal begin.Point = false
is_internal (begin.Number n) = true
is_internal (begin.At place) = true
is_internal (begin.Numbered kind) = true
is_internal begin.FontDimen = true
is_internal (begin.FontInteger kind) = true
is_internal (begin.Nothing error) = false

-- one that has to be told in mu (sections 449, 451 and 455)
abbrev pub measured_by : Bool → ℕ → Order → Result Measure TexError
measured_by negative size order =
    if nat_le size 1073741823 then Ok (record { size = signed negative size; order = order }) else Err DimensionTooLarge

abbrev pub mathematical : Bool → ℕ → Amount → Value → Result Measure TexError
mathematical negative part a (Muglue g) = measured_by (turned negative g.width) (amount part a (unsigned_abs g.width)) Normal
mathematical negative part a other = Err MissingUnit

abbrev pub in_mu : Bool → ℕ → Amount → Beginning → List Item → Reading Measure
in_mu negative part a (begin.Number n) rest = Wrong MissingUnit
in_mu negative part a begun rest = next (quantity_begun begun rest) (λ value rest. done_if (mathematical negative part a value) rest)

-- the unit, with spaces before it, and what stands behind it
abbrev pub measured : Units → Bool → ℕ → ℕ → List Item → Reading Measure
measured units negative whole part [] = More Expanded
measured units negative whole part (Gave v ∷ rest) = Wrong MissingNumber
measured units negative whole part (Took t ∷ rest) = expanded t (
    if is_space t then measured units negative whole part rest
    else if is_internal (beginning t) then
    if units.mu then in_mu negative part (Times whole) (beginning t) rest
    else next (integer (Took t ∷ rest)) (ended_with negative part (Times whole))
    else next (spelled (λ more. unit_name units more rest) (first_letter units t) rest) (unit_ended units negative whole part))

-- the unit behind an internal number
abbrev pub numbered_unit : Units → Bool → ℤ → List Item → Reading Measure
numbered_unit units negative n rest = measured units (turned negative n) (unsigned_abs n) (fraction_of []) rest

-- an internal quantity, which is a size, or has one, or counts units
abbrev pub quantified : Units → Bool → Bool → Reading ℤ → Beginning → List Item → Reading Measure
quantified units negative true reading begun rest =
    if units.mu then in_mu negative 0 The_size begun rest else next reading (ended_with negative 0 The_size)
quantified units negative false reading begun rest = next reading (numbered_unit units negative)

-- the unit behind a factor
abbrev pub factored : Units → Bool → Factor → List Item → Reading Measure
factored units negative f rest = measured units negative f.whole (fraction_of f.digits) (f.behind ++ rest)

-- the unit behind a constant that has no fraction
abbrev pub counted : Units → Bool → Ended → List Item → Reading Measure
counted units negative c rest = factored units negative (record { whole = c.number; digits = []; behind = c.behind }) rest

-- what a token begins, with the sign, or how reading goes on; what it reads as an integer
abbrev pub size_begun : Units → Bool → (Bool → Reading Measure) → Reading ℤ → List Item → Beginning → Reading Measure
size_begun units negative on number rest begin.Plus = on negative
size_begun units negative on number rest begin.Minus = on (not negative)
size_begun units negative on number rest (begin.Digit d) = next (whole_units Decimal d rest) (factored units negative)
size_begun units negative on number rest (begin.Digits radix) = next (first_unit radix rest) (factored units negative)
size_begun units negative on number rest begin.Point = next (fraction 0 [] rest) (factored units negative)
size_begun units negative on number rest begin.Character = next (character_code rest) (counted units negative)
size_begun units negative on number rest (begin.Number n) = quantified units negative false number (begin.Number n) rest
size_begun units negative on number rest (begin.At place) = quantified units negative (has_size place) number (begin.At place) rest
size_begun units negative on number rest (begin.Numbered kind) = quantified units negative (is_size_kind kind) number (begin.Numbered kind) rest
size_begun units negative on number rest begin.FontDimen = quantified units negative true number begin.FontDimen rest
size_begun units negative on number rest (begin.FontInteger kind) = quantified units negative false number (begin.FontInteger kind) rest
size_begun units negative on number rest (begin.Nothing error) = Wrong error

-- a dimension with its signs, whose sign so far is this
abbrev pub size_signs : Units → Bool → List Item → Reading Measure
size_signs units negative [] = More Expanded
size_signs units negative (Gave v ∷ rest) = Wrong MissingNumber
size_signs units negative (Took t ∷ rest) = size_begun units negative (λ negative. size_signs units negative rest) (integer (Took t ∷ rest)) rest (beginning t)

-- a dimension in such units, and an optional space behind it
abbrev pub dimension : Units → List Item → Reading Measure
dimension units items = size_signs units false items

-- units of length alone, none of them infinite
abbrev pub lengths : Units
lengths = record { mu = false; infinite = false }
