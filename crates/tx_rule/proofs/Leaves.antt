-- What is read leaves no more items than there were.
use Rattle.std.proofs.Common.{◌≡◌, ℕ, zero, suc, ◌+◌, ◌*◌, ◌≤◌, ◌&&◌, Bool, true, false, cond, not, Option, Some, None, List, [], ◌∷◌, ◌++◌, length, pos, Result, Ok, Err, length-append, refl, arith}
use Rattle.std.specs.Prelude.{ℤ, nat_le, unsigned_abs}
use Rattle.tx_num.specs.declared.units.PhysicalUnit.TheVariants.{Point}
use Rattle.tx_num.specs.Decimals.{fraction_of}
use Rattle.tx_num.specs.Units.{size_of}
use Rattle.tx_char.specs.Character.{character}
use Rattle.tx_seen.specs.declared.item.Item.{Item}
use Rattle.tx_seen.specs.declared.item.Item.TheVariants.{Took, Gave}
use Rattle.tx_seen.specs.declared.seen.Seen.{Seen}
use Rattle.tx_seen.specs.Seen.{font_name, is_undefined, is_space, is_point, is_key}
use Rattle.tx_seen.specs.declared.error.TexError.{TexError}
use Rattle.tx_seen.specs.Readings.{Reading, More, Need, Done, Wrong, next}
use Rattle.tx_scan.specs.declared.scans.Radix.{Radix}
use Rattle.tx_scan.specs.declared.scans.Radix.TheVariants.{Decimal}
use Rattle.tx_scan.specs.declared.scans.Beginning.{Beginning}
use Rattle.tx_scan.specs.declared.scans.Beginning.TheVariants as begin
use Rattle.tx_scan.specs.Beginnings.{base, digit, beginning}
use Rattle.tx_scan.specs.Integers.{Ended, unless_space, space_after, code_named, coded, character_code, digits, first_digit, in_range, is_in_range, given, quantity, counted as counted_number, numbered, of_font, whole, with_sign, byte_of, signed_constant, begun, signs, integer}
use Rattle.tx_scan.specs.declared.scans.Units.{Units}
use Rattle.tx_scan.specs.declared.scans.Order.{Order}
use Rattle.tx_scan.specs.declared.scans.Order.TheVariants.{Normal, Fil}
use Rattle.tx_scan.specs.declared.scans.Measure.{Measure}
use Rattle.tx_scan.specs.declared.scans.UnitName.{UnitName}
use Rattle.tx_scan.specs.declared.scans.Letters.{Letters}
use Rattle.tx_scan.specs.declared.scans.Counted.{Counted}
use Rattle.tx_scan.specs.declared.scans.Counted.TheVariants as counts
use Rattle.tx_scan.specs.declared.scans.FontSought.{FontSought}
use Rattle.tx_scan.specs.declared.scans.FontSought.TheVariants as needs
use Rattle.tx_scan.specs.declared.scans.Outer.{Outer}
use Rattle.tx_scan.specs.declared.scans.UnitName.TheVariants.{Physical, Mathematical, Font}
use Rattle.tx_scan.specs.FontNames.{font, font_behind, parameter_number, place_of_font, told as told_by}
use Rattle.tx_seen.specs.declared.place.FontName.{FontName}
use Rattle.tx_scan.specs.declared.scans.Amount.{Amount}
use Rattle.tx_scan.specs.declared.scans.Amount.TheVariants.{Whole as All, Times}
use Rattle.tx_prim.specs.declared.family.Numbered.{Numbered}
use Rattle.tx_seen.specs.declared.place.Place.{Place}
use Rattle.tx_seen.specs.Places.{has_size, place_of}
use Rattle.tx_seen.specs.declared.fed.Value.{Value}
use Rattle.tx_seen.specs.declared.fed.Value.TheVariants.{Int, Dimen, Glue, Muglue, Magnification, Flag, Absent, OutOfRange}
use Rattle.tx_scan.specs.declared.scans.Spelled.{Spelled}
use Rattle.tx_scan.specs.declared.scans.Spelled.TheVariants.{On, Whole, Infinite, True, No}
use Rattle.tx_scan.specs.declared.scans.Sought.{Sought}
use Rattle.tx_scan.specs.declared.scans.Sought.TheVariants as sought
use Rattle.tx_scan.specs.Mapped.{done_if}
use Rattle.tx_scan.specs.Quantities.{found, numbered_parameter, numbered_value, parameter_value, quantity_begun, unless_whole, value_at, value_behind, value_counted, value_of_font}
use Rattle.tx_scan.specs.Dimensions.{Factor, Named, A_unit, Fil_unit, True_unit, factor_ended, fraction, is_decimal, whole_units, first_unit, is_internal, is_size_kind, turned, amount, behind_true, ended_with, in_mu, in_unit, magnified, mathematical, quantified, numbered_unit, measured, first_letter, first_letter_behind_true, letter_on, spelled, true_ended, true_unit, unit_name, sized, unit_rest, raised, more_infinite, fil_rest, unit_ended, factored, counted, size_begun, size_signs, dimension}

-- at most so many items are behind what is read, with those that it keeps itself
abbrev pub LeavesBy : {A : Type 0} → (A → List Item) → ℕ → Reading A → Type 0
LeavesBy kept n (More want) = Unit {0}
LeavesBy kept n (Need kind) = Unit {0}
LeavesBy kept n (Done a rest) = length (kept a ++ rest) ≤ n
LeavesBy kept n (Wrong error) = Unit {0}

abbrev none_kept : {A : Type 0} → A → List Item
none_kept a = []

-- at most so many items are behind what is read
abbrev pub Leaves : {A : Type 0} → ℕ → Reading A → Type 0
Leaves n reading = LeavesBy none_kept n reading

leaves-more : {A : Type 0} (kept : A → List Item) (m n : ℕ) (reading : Reading A) → m ≤ n → LeavesBy kept m reading → LeavesBy kept n reading
leaves-more kept m n (More want) h l = tt
leaves-more kept m n (Need kind) h l = tt
leaves-more kept m n (Done a rest) h l = omega arith
leaves-more kept m n (Wrong error) h l = tt

leaves-if : {A : Type 0} (kept : A → List Item) (n : ℕ) (b : Bool) (x y : Reading A) → LeavesBy kept n x → LeavesBy kept n y → LeavesBy kept n (cond b x y)
leaves-if kept n true x y p q = p
leaves-if kept n false x y p q = q

leaves-next : {A B : Type 0} (kept : A → List Item) (also : B → List Item) (m n : ℕ) (reading : Reading A) (on : A → List Item → Reading B) → LeavesBy kept m reading → ((a : A) (rest : List Item) → length (kept a ++ rest) ≤ m → LeavesBy also n (on a rest)) → LeavesBy also n (next reading on)
leaves-next kept also m n (More want) on l h = tt
leaves-next kept also m n (Need kind) on l h = tt
leaves-next kept also m n (Done a rest) on l h = h a rest l
leaves-next kept also m n (Wrong error) on l h = tt

abbrev behind_number : Ended → List Item
behind_number c = c.behind

abbrev behind_factor : Factor → List Item
behind_factor f = f.behind

length-unless-by : (b : Bool) (item : Item) (rest : List Item) → length (cond b [] (item ∷ []) ++ rest) ≤ length (item ∷ rest)
length-unless-by true item rest = omega arith
length-unless-by false item rest = omega arith

length-unless : (t : Seen) (rest : List Item) → length (unless_space t ++ rest) ≤ length (Took t ∷ rest)
length-unless t rest = length-unless-by (is_space t) (Took t) rest

leaves-space : (n : ℕ) (items : List Item) → LeavesBy behind_number (length items) (space_after n items)
leaves-space n [] = tt
leaves-space n (Gave v ∷ rest) = tt
leaves-space n (Took t ∷ rest) = leaves-if behind_number _ (is_undefined t) _ _ tt (length-unless t rest)

leaves-coded : (code : Option ℕ) (rest : List Item) → LeavesBy behind_number (length rest) (coded code rest)
leaves-coded None rest = tt
leaves-coded (Some code) rest = leaves-space code rest

leaves-code : (items : List Item) → LeavesBy behind_number (length items) (character_code items)
leaves-code [] = tt
leaves-code (Gave v ∷ rest) = tt
leaves-code (Took t ∷ rest) = leaves-more behind_number (length rest) (length (Took t ∷ rest)) (coded (code_named t.token) rest) (omega arith) (leaves-coded (code_named t.token) rest)

leaves-ended : (whole : ℕ) (digits : List ℕ) (t : Seen) (rest : List Item) → LeavesBy behind_factor (length (Took t ∷ rest)) (factor_ended whole digits t rest)
leaves-ended whole digits t rest = leaves-if behind_factor _ (is_undefined t) _ _ tt (length-unless t rest)

leaves-fraction-by : (whole : ℕ) (digits : List ℕ) (t : Seen) (rest : List Item) → ((digits : List ℕ) → LeavesBy behind_factor (length rest) (fraction whole digits rest)) → (d : Option ℕ) → digit Decimal t ≡ d → LeavesBy behind_factor (length (Took t ∷ rest)) (fraction whole digits (Took t ∷ rest))
leaves-fraction-by whole digits t rest on None is = rw is (leaves-ended whole digits t rest)
leaves-fraction-by whole digits t rest on (Some d) is =
    rw is (leaves-more behind_factor (length rest) (length (Took t ∷ rest)) (fraction whole (digits ++ (character "0" + d) ∷ []) rest) (omega arith) (on (digits ++ (character "0" + d) ∷ [])))

leaves-fraction : (whole : ℕ) (items : List Item) (digits : List ℕ) → LeavesBy behind_factor (length items) (fraction whole digits items)
leaves-fraction whole [] digits = tt
leaves-fraction whole (Gave v ∷ rest) digits = tt
leaves-fraction whole (Took t ∷ rest) digits = leaves-fraction-by whole digits t rest (leaves-fraction whole rest) (digit Decimal t) refl

leaves-whole-by : (radix : Radix) (n : ℕ) (t : Seen) (rest : List Item) → ((n : ℕ) → LeavesBy behind_factor (length rest) (whole_units radix n rest)) → (d : Option ℕ) → digit radix t ≡ d → LeavesBy behind_factor (length (Took t ∷ rest)) (whole_units radix n (Took t ∷ rest))
leaves-whole-by radix n t rest on None is =
    rw is
    (leaves-if behind_factor _ (is_decimal radix && is_point t) (fraction n [] rest) (factor_ended n [] t rest)
    (leaves-more behind_factor (length rest) (length (Took t ∷ rest)) (fraction n [] rest) (omega arith) (leaves-fraction n rest []))
    (leaves-ended n [] t rest))
leaves-whole-by radix n t rest on (Some d) is =
    rw is
    (leaves-if behind_factor _ (nat_le (base radix * n + d) 2147483647) (whole_units radix (base radix * n + d) rest) _
    (leaves-more behind_factor (length rest) (length (Took t ∷ rest)) (whole_units radix (base radix * n + d) rest) (omega arith) (on (base radix * n + d))) tt)

leaves-whole : (radix : Radix) (items : List Item) (n : ℕ) → LeavesBy behind_factor (length items) (whole_units radix n items)
leaves-whole radix [] n = tt
leaves-whole radix (Gave v ∷ rest) n = tt
leaves-whole radix (Took t ∷ rest) n = leaves-whole-by radix n t rest (leaves-whole radix rest) (digit radix t) refl

leaves-first-by : (radix : Radix) (t : Seen) (rest : List Item) (d : Option ℕ) → digit radix t ≡ d → LeavesBy behind_factor (length (Took t ∷ rest)) (first_unit radix (Took t ∷ rest))
leaves-first-by radix t rest None is = rw is (leaves-if behind_factor _ (is_undefined t) _ _ tt tt)
leaves-first-by radix t rest (Some d) is =
    rw is (leaves-more behind_factor (length rest) (length (Took t ∷ rest)) (whole_units radix d rest) (omega arith) (leaves-whole radix rest d))

leaves-first : (radix : Radix) (items : List Item) → LeavesBy behind_factor (length items) (first_unit radix items)
leaves-first radix [] = tt
leaves-first radix (Gave v ∷ rest) = tt
leaves-first radix (Took t ∷ rest) = leaves-first-by radix t rest (digit radix t) refl

leaves-digits-by : (radix : Radix) (n : ℕ) (t : Seen) (rest : List Item) → ((n : ℕ) → LeavesBy behind_number (length rest) (digits radix n rest)) → (d : Option ℕ) → digit radix t ≡ d → LeavesBy behind_number (length (Took t ∷ rest)) (digits radix n (Took t ∷ rest))
leaves-digits-by radix n t rest on None is = rw is (leaves-if behind_number _ (is_undefined t) _ _ tt (length-unless t rest))
leaves-digits-by radix n t rest on (Some d) is =
    rw is (leaves-if behind_number _ (nat_le (base radix * n + d) 2147483647) (digits radix (base radix * n + d) rest) _
    (leaves-more behind_number (length rest) (length (Took t ∷ rest)) (digits radix (base radix * n + d) rest) (omega arith) (on (base radix * n + d))) tt)

leaves-digits : (radix : Radix) (items : List Item) (n : ℕ) → LeavesBy behind_number (length items) (digits radix n items)
leaves-digits radix [] n = tt
leaves-digits radix (Gave v ∷ rest) n = tt
leaves-digits radix (Took t ∷ rest) n = leaves-digits-by radix n t rest (leaves-digits radix rest) (digit radix t) refl

leaves-first-number-by : (radix : Radix) (t : Seen) (rest : List Item) (d : Option ℕ) → digit radix t ≡ d → LeavesBy behind_number (length (Took t ∷ rest)) (first_digit radix (Took t ∷ rest))
leaves-first-number-by radix t rest None is = rw is (leaves-if behind_number _ (is_undefined t) _ _ tt tt)
leaves-first-number-by radix t rest (Some d) is =
    rw is (leaves-more behind_number (length rest) (length (Took t ∷ rest)) (digits radix d rest) (omega arith) (leaves-digits radix rest d))

leaves-first-number : (radix : Radix) (items : List Item) → LeavesBy behind_number (length items) (first_digit radix items)
leaves-first-number radix [] = tt
leaves-first-number radix (Gave v ∷ rest) = tt
leaves-first-number radix (Took t ∷ rest) = leaves-first-number-by radix t rest (digit radix t) refl

leaves-in-range : (n : ℤ) (rest : List Item) → Leaves (length rest) (in_range n rest)
leaves-in-range n rest = leaves-if none_kept _ (is_in_range n) _ _ (omega arith) tt

leaves-given : (item : Item) (rest : List Item) → Leaves (length rest) (given item rest)
leaves-given (Gave (Int n)) rest = leaves-in-range n rest
leaves-given (Gave (Dimen n)) rest = leaves-in-range n rest
leaves-given (Gave (Glue g)) rest = leaves-in-range g.width rest
leaves-given (Gave (Muglue g)) rest = tt
leaves-given (Gave (Magnification n)) rest = tt
leaves-given (Gave (Flag b)) rest = tt
leaves-given (Gave Absent) rest = tt
leaves-given (Gave OutOfRange) rest = tt
leaves-given (Took t) rest = tt

leaves-quantity : (place : Place) (items : List Item) → Leaves (length items) (quantity place items)
leaves-quantity place [] = tt
leaves-quantity place (item ∷ rest) = leaves-more none_kept (length rest) (length (item ∷ rest)) (given item rest) (omega arith) (leaves-given item rest)

leaves-numbered : (kind : Numbered) (n : Option ℕ) (items : List Item) → Leaves (length items) (numbered kind n items)
leaves-numbered kind None items = tt
leaves-numbered kind (Some n) items = leaves-quantity (place_of kind n) items

leaves-told : (told_font : Option FontName) (rest : List Item) (n : ℕ) → length rest ≤ n → Leaves n (told_by told_font rest)
leaves-told None rest n h = tt
leaves-told (Some f) rest n h = h

leaves-font : (items : List Item) → Leaves (length items) (font items)
leaves-font [] = tt
leaves-font (Gave v ∷ rest) = tt
leaves-font (Took t ∷ rest) =
    leaves-if none_kept _ (is_undefined t) _ _ tt
    (leaves-if none_kept _ (is_space t) (font rest) (told_by (font_name t) rest) (leaves-more none_kept (length rest) (length (Took t ∷ rest)) (font rest) (omega arith) (leaves-font rest))
    (leaves-told (font_name t) rest (length (Took t ∷ rest)) (omega arith)))

leaves-font-behind : (behind rest : List Item) → Leaves (length behind + length rest) (font_behind behind rest)
leaves-font-behind behind rest =
    let all : length (behind ++ rest) ≡ length behind + length rest = length-append behind rest in
    leaves-more none_kept (length (behind ++ rest)) (length behind + length rest) (font (behind ++ rest)) (omega (arith, all)) (leaves-font (behind ++ rest))

leaves-of-font : (what : FontSought) (reading : Reading FontName) (n : ℕ) → Leaves n reading → Leaves n (of_font what reading)
leaves-of-font what reading n l =
    leaves-next none_kept none_kept n n reading (λ f rest. quantity (place_of_font what f) rest) l
    (λ f rest h. leaves-more none_kept (length rest) n (quantity (place_of_font what f) rest) h (leaves-quantity (place_of_font what f) rest))

leaves-at-number : (kind : Counted) (n : ℤ) (behind rest : List Item) (on : ℤ → List Item → List Item → Reading ℤ) (m : ℕ) → length behind + length rest ≤ m → ((value : ℤ) (behind rest : List Item) → length behind + length rest ≤ m → Leaves m (on value behind rest)) → Leaves m (counted_number font_behind kind n behind rest on)
leaves-at-number (counts.Numbered kind) n behind rest on m h k =
    leaves-next none_kept none_kept (length rest) m (numbered kind (byte_of n) rest) (λ value rest. on value behind rest) (leaves-numbered kind (byte_of n) rest)
    (λ value after l. k value behind after (omega (arith, h, l)))
leaves-at-number counts.FontDimen n behind rest on m h k =
    leaves-next none_kept none_kept (length behind + length rest) m (of_font (needs.Dimen (parameter_number n)) (font_behind behind rest)) (λ value rest. on value [] rest)
    (leaves-of-font (needs.Dimen (parameter_number n)) (font_behind behind rest) (length behind + length rest) (leaves-font-behind behind rest))
    (λ value after l. k value [] after (omega (arith, h, l)))

leaves-whole-number : (outers : List Outer) (n : ℤ) (behind rest : List Item) (m : ℕ) → length behind + length rest ≤ m → Leaves m (whole outers n behind rest)
leaves-whole-number [] n behind rest m h =
    let all : length (behind ++ rest) ≡ length behind + length rest = length-append behind rest in
    omega (arith, all, h)
leaves-whole-number (outer ∷ outers) n behind rest m h =
    leaves-at-number outer.kind n behind rest (λ value behind rest. whole outers (with_sign outer.negative value) behind rest) m h
    (λ value behind after l. leaves-whole-number outers (with_sign outer.negative value) behind after m l)

leaves-constant : (outers : List Outer) (negative : Bool) (n : ℕ) (reading : Reading Ended) → LeavesBy behind_number n reading → Leaves n (next reading (signed_constant outers negative))
leaves-constant outers negative n reading l =
    leaves-next behind_number none_kept n n reading (signed_constant outers negative) l
    (λ c rest k. let all : length (c.behind ++ rest) ≡ length c.behind + length rest = length-append c.behind rest in leaves-whole-number outers (with_sign negative (pos c.number)) c.behind rest n (omega (arith, all, k)))

leaves-number-begun : (outers : List Outer) (negative : Bool) (on : List Outer → Bool → Reading ℤ) (rest : List Item) (b : Beginning) (n : ℕ) → length rest ≤ n → ((outers : List Outer) (negative : Bool) → Leaves n (on outers negative)) → Leaves n (begun outers negative on rest b)
leaves-number-begun outers negative on rest begin.Plus n h k = k outers negative
leaves-number-begun outers negative on rest begin.Minus n h k = k outers (not negative)
leaves-number-begun outers negative on rest (begin.Digit d) n h k =
    leaves-constant outers negative n (digits Decimal d rest) (leaves-more behind_number (length rest) n (digits Decimal d rest) h (leaves-digits Decimal rest d))
leaves-number-begun outers negative on rest (begin.Digits radix) n h k =
    leaves-constant outers negative n (first_digit radix rest) (leaves-more behind_number (length rest) n (first_digit radix rest) h (leaves-first-number radix rest))
leaves-number-begun outers negative on rest begin.Character n h k =
    leaves-constant outers negative n (character_code rest) (leaves-more behind_number (length rest) n (character_code rest) h (leaves-code rest))
leaves-number-begun outers negative on rest begin.Point n h k = tt
leaves-number-begun outers negative on rest (begin.Number m) n h k = leaves-whole-number outers (with_sign negative (pos m)) [] rest n (omega (arith, h))
leaves-number-begun outers negative on rest (begin.At place) n h k =
    leaves-next none_kept none_kept (length rest) n (quantity place rest) (λ n rest. whole outers (with_sign negative n) [] rest) (leaves-quantity place rest)
    (λ value after l. leaves-whole-number outers (with_sign negative value) [] after n (omega (arith, h, l)))
leaves-number-begun outers negative on rest (begin.Numbered kind) n h k = k (record { negative = negative; kind = counts.Numbered kind } ∷ outers) false
leaves-number-begun outers negative on rest begin.FontDimen n h k = k (record { negative = negative; kind = counts.FontDimen } ∷ outers) false
leaves-number-begun outers negative on rest (begin.FontInteger kind) n h k =
    leaves-next none_kept none_kept (length rest) n (of_font (needs.Integer kind) (font rest)) (λ n rest. whole outers (with_sign negative n) [] rest) (leaves-of-font (needs.Integer kind) (font rest) (length rest) (leaves-font rest))
    (λ value after l. leaves-whole-number outers (with_sign negative value) [] after n (omega (arith, h, l)))
leaves-number-begun outers negative on rest (begin.Nothing error) n h k = tt

leaves-number : (items : List Item) (outers : List Outer) (negative : Bool) → Leaves (length items) (signs outers negative items)
leaves-number [] outers negative = tt
leaves-number (Gave v ∷ rest) outers negative = tt
leaves-number (Took t ∷ rest) outers negative =
    leaves-number-begun outers negative (λ outers negative. signs outers negative rest) rest (beginning t) (length (Took t ∷ rest)) (omega arith)
    (λ outers negative. leaves-more none_kept (length rest) (length (Took t ∷ rest)) (signs outers negative rest) (omega arith) (leaves-number rest outers negative))

leaves-spelled : (n : ℕ) (on : Letters → Reading Named) (spelling : Spelled) (rest : List Item) → length rest ≤ n → ((letters : Letters) → Leaves n (on letters)) → Leaves n (spelled on spelling rest)
leaves-spelled n on (On letters) rest h k = k letters
leaves-spelled n on (Whole unit) rest h k = h
leaves-spelled n on Infinite rest h k = h
leaves-spelled n on True rest h k = h
leaves-spelled n on No rest h k = tt

leaves-name : (units : Units) (items : List Item) (letters : Letters) → Leaves (length items) (unit_name units letters items)
leaves-name units [] letters = tt
leaves-name units (Gave v ∷ rest) letters = tt
leaves-name units (Took t ∷ rest) letters =
    leaves-if none_kept _ (is_undefined t) _ _ tt
    (leaves-spelled (length (Took t ∷ rest)) (λ more. unit_name units more rest) (letter_on units letters t) rest (omega arith)
    (λ letters. leaves-more none_kept (length rest) (length (Took t ∷ rest)) (unit_name units letters rest) (omega arith) (leaves-name units rest letters)))

leaves-sized : (negative : Bool) (size : ℕ) (order : Order) (behind : List Item) (n : ℕ) → length behind ≤ n → Leaves n (sized negative size order behind)
leaves-sized negative size order behind n h = leaves-if none_kept n (nat_le size 1073741823) _ _ h tt

leaves-internal : (negative : Bool) (part : ℕ) (a : Amount) (n : ℤ) (rest : List Item) (m : ℕ) → length rest ≤ m → Leaves m (ended_with negative part a n rest)
leaves-internal negative part a n rest m h = leaves-sized (turned negative n) (amount part a (unsigned_abs n)) Normal rest m h

leaves-in-unit : (negative : Bool) (whole part : ℕ) (unit : UnitName) (behind rest : List Item) (m : ℕ) → length (behind ++ rest) ≤ m → Leaves m (in_unit negative whole part unit behind rest)
leaves-in-unit negative whole part (Physical unit) behind rest m h = leaves-sized negative (size_of unit whole part) Normal (behind ++ rest) m h
leaves-in-unit negative whole part Mathematical behind rest m h = leaves-sized negative (size_of Point whole part) Normal (behind ++ rest) m h
leaves-in-unit negative whole part (Font size) behind [] m h = tt
leaves-in-unit negative whole part (Font size) behind (item ∷ rest) m h =
    let all : length (behind ++ item ∷ rest) ≡ length behind + length (item ∷ rest) = length-append behind (item ∷ rest) in
    leaves-next none_kept none_kept (length rest) m (given item rest) (λ n rest. ended_with negative part (Times whole) n (behind ++ rest)) (leaves-given item rest)
    (λ n after l. let these : length (behind ++ after) ≡ length behind + length after = length-append behind after in leaves-internal negative part (Times whole) n (behind ++ after) m (omega (arith, all, these, h, l)))

leaves-unit-rest : (negative : Bool) (whole part : ℕ) (unit : UnitName) (items : List Item) → Leaves (length items) (unit_rest negative whole part unit items)
leaves-unit-rest negative whole part unit [] = tt
leaves-unit-rest negative whole part unit (Gave v ∷ rest) = tt
leaves-unit-rest negative whole part unit (Took t ∷ rest) =
    leaves-if none_kept _ (is_undefined t) _ _ tt (leaves-in-unit negative whole part unit (unless_space t) rest _ (length-unless t rest))

leaves-raised : (n : ℕ) (o : Option Order) (on : Order → Reading Measure) → ((order : Order) → Leaves n (on order)) → Leaves n (more_infinite o on)
leaves-raised n None on k = tt
leaves-raised n (Some order) on k = k order

leaves-fil : (negative : Bool) (whole part : ℕ) (items : List Item) (order : Order) → Leaves (length items) (fil_rest negative whole part order items)
leaves-fil negative whole part [] order = tt
leaves-fil negative whole part (Gave v ∷ rest) order = tt
leaves-fil negative whole part (Took t ∷ rest) order =
    let later : (order : Order) → Leaves (length (Took t ∷ rest)) (fil_rest negative whole part order rest) = λ order. leaves-more none_kept (length rest) (length (Took t ∷ rest)) (fil_rest negative whole part order rest) (omega arith) (leaves-fil negative whole part rest order) in
    leaves-if none_kept _ (is_undefined t) _ _ tt
    (leaves-if none_kept _ (is_space t) _ _ (later order)
    (leaves-if none_kept _ (is_key (character "l") t) _ _ (leaves-raised (length (Took t ∷ rest)) (raised order) (λ more. fil_rest negative whole part more rest) later)
    (leaves-sized negative (size_of Point whole part) order (Took t ∷ rest) (length (Took t ∷ rest)) (omega arith))))

leaves-named : (units : Units) (spelling : Spelled) (rest : List Item) → Leaves (suc (length rest)) (spelled (λ more. unit_name units more rest) spelling rest)
leaves-named units spelling rest =
    leaves-spelled (suc (length rest)) (λ more. unit_name units more rest) spelling rest (omega arith)
    (λ letters. leaves-more none_kept (length rest) (suc (length rest)) (unit_name units letters rest) (omega arith) (leaves-name units rest letters))

leaves-true-ended : (negative : Bool) (told : ℕ × ℕ) (named : Named) (items : List Item) → Leaves (length items) (true_ended negative told named items)
leaves-true-ended negative told (A_unit unit) items = leaves-unit-rest negative told.0 told.1 unit items
leaves-true-ended negative told Fil_unit items = leaves-fil negative told.0 told.1 items Fil
leaves-true-ended negative told True_unit items = tt

leaves-true-unit : (units : Units) (negative : Bool) (told : ℕ × ℕ) (items : List Item) → Leaves (length items) (true_unit units negative told items)
leaves-true-unit units negative told [] = tt
leaves-true-unit units negative told (Gave v ∷ rest) = tt
leaves-true-unit units negative told (Took t ∷ rest) =
    leaves-if none_kept _ (is_undefined t) _ _ tt
    (leaves-if none_kept _ (is_space t) _ _ (leaves-more none_kept (length rest) (length (Took t ∷ rest)) (true_unit units negative told rest) (omega arith) (leaves-true-unit units negative told rest))
    (leaves-next none_kept none_kept (length (Took t ∷ rest)) (length (Took t ∷ rest)) (spelled (λ more. unit_name units more rest) (first_letter_behind_true t) rest) (true_ended negative told)
    (leaves-named units (first_letter_behind_true t) rest)
    (λ named after l. leaves-more none_kept (length after) (length (Took t ∷ rest)) (true_ended negative told named after) l (leaves-true-ended negative told named after))))

leaves-behind-true : (units : Units) (negative : Bool) (whole part : ℕ) (items : List Item) → Leaves (length items) (behind_true units negative whole part items)
leaves-behind-true units negative whole part [] = tt
leaves-behind-true units negative whole part (Took t ∷ rest) = tt
leaves-behind-true units negative whole part (Gave (Int n) ∷ rest) = tt
leaves-behind-true units negative whole part (Gave (Dimen n) ∷ rest) = tt
leaves-behind-true units negative whole part (Gave (Glue g) ∷ rest) = tt
leaves-behind-true units negative whole part (Gave (Muglue g) ∷ rest) = tt
leaves-behind-true units negative whole part (Gave (Magnification zero) ∷ rest) = tt
leaves-behind-true units negative whole part (Gave (Magnification (suc mag)) ∷ rest) =
    leaves-more none_kept (length rest) (suc (length rest)) (true_unit units negative (magnified whole part (suc mag)) rest) (omega arith) (leaves-true-unit units negative (magnified whole part (suc mag)) rest)
leaves-behind-true units negative whole part (Gave (Flag b) ∷ rest) = tt
leaves-behind-true units negative whole part (Gave Absent ∷ rest) = tt
leaves-behind-true units negative whole part (Gave OutOfRange ∷ rest) = tt

leaves-unit-ended : (units : Units) (negative : Bool) (whole part : ℕ) (named : Named) (items : List Item) → Leaves (length items) (unit_ended units negative whole part named items)
leaves-unit-ended units negative whole part Fil_unit items = leaves-fil negative whole part items Fil
leaves-unit-ended units negative whole part True_unit items = leaves-behind-true units negative whole part items
leaves-unit-ended units negative whole part (A_unit unit) items = leaves-unit-rest negative whole part unit items

-- internal quantities
leaves-found : (item : Item) (rest : List Item) (n : ℕ) → length rest ≤ n → Leaves n (found item rest)
leaves-found (Gave (Int m)) rest n h = h
leaves-found (Gave (Dimen m)) rest n h = h
leaves-found (Gave (Glue g)) rest n h = h
leaves-found (Gave (Muglue g)) rest n h = h
leaves-found (Gave (Magnification m)) rest n h = h
leaves-found (Gave (Flag b)) rest n h = h
leaves-found (Gave Absent) rest n h = tt
leaves-found (Gave OutOfRange) rest n h = tt
leaves-found (Took t) rest n h = tt

leaves-value-at : (place : Place) (items : List Item) (n : ℕ) → length items ≤ n → Leaves n (value_at place items)
leaves-value-at place [] n h = tt
leaves-value-at place (item ∷ rest) n h = leaves-found item rest n (omega (arith, h))

leaves-counted : (what : Sought) (number : Option ℕ) (behind items : List Item) (n : ℕ) → length behind + length items ≤ n → Leaves n (value_counted what number behind items)
leaves-counted what None behind items n h = tt
leaves-counted what (Some m) behind [] n h = tt
leaves-counted what (Some m) behind (item ∷ rest) n h =
    let all : length (behind ++ rest) ≡ length behind + length rest = length-append behind rest in
    leaves-found item (behind ++ rest) n (omega (arith, all, h))

leaves-unless : (what : Sought) (reading : Reading ℤ) (items : List Item) (on : Reading Value) (m n : ℕ) → m + length items ≤ n → Leaves m reading → Leaves n on → Leaves n (unless_whole what reading items on)
leaves-unless what (More want) items on m n h l k = k
leaves-unless what (Need kind) items on m n h l k = k
leaves-unless what (Done number behind) items on m n h l k = leaves-counted what (byte_of number) behind items n (omega (arith, h, l))
leaves-unless what (Wrong error) items on m n h l k = tt

leaves-value-behind : (what : Sought) (items : List Item) (number : List Item → Reading ℤ) (m : ℕ) → ((more : List Item) → Leaves (m + length more) (number more)) → Leaves (m + length items) (value_behind what number items)
leaves-value-behind what [] number m k =
    leaves-next none_kept none_kept (m + 0) (m + 0) (number []) (λ n behind. value_counted what (byte_of n) behind []) (k []) (λ n behind l. leaves-counted what (byte_of n) behind [] (m + 0) (omega (arith, l)))
leaves-value-behind what (item ∷ rest) number m k =
    leaves-unless what (number []) (item ∷ rest) (value_behind what (λ more. number (item ∷ more)) rest) (m + 0) (m + length (item ∷ rest)) (omega arith) (k [])
    (leaves-more none_kept (suc m + length rest) (m + length (item ∷ rest)) (value_behind what (λ more. number (item ∷ more)) rest) (omega arith)
    (leaves-value-behind what rest (λ more. number (item ∷ more)) (suc m) (λ more. leaves-more none_kept (m + length (item ∷ more)) (suc m + length more) (number (item ∷ more)) (omega arith) (k (item ∷ more)))))

leaves-numbered-value : (what : Sought) (items : List Item) (n : ℕ) → length items ≤ n → Leaves n (numbered_value what items)
leaves-numbered-value what items n h =
    leaves-more none_kept (0 + length items) n (numbered_value what items) (omega (arith, h))
    (leaves-value-behind what items integer 0 (λ more. leaves-more none_kept (length more) (0 + length more) (integer more) (omega arith) (leaves-number more [] false)))

leaves-value-font : (what : FontSought) (items : List Item) (n : ℕ) → length items ≤ n → Leaves n (value_of_font what items)
leaves-value-font what items n h =
    leaves-next none_kept none_kept (length items) n (font items) (λ f rest. value_at (place_of_font what f) rest) (leaves-font items) (λ f rest l. leaves-value-at (place_of_font what f) rest n (omega (arith, h, l)))

leaves-parameter : (items : List Item) (n : ℕ) → length items ≤ n → Leaves n (numbered_parameter items)
leaves-parameter items n h =
    leaves-next none_kept none_kept (length items) n (integer items) parameter_value (leaves-number items [] false)
    (λ m after l. leaves-value-font (needs.Dimen (parameter_number m)) after n (omega (arith, h, l)))

leaves-quantity-begun : (b : Beginning) (rest : List Item) (n : ℕ) → length rest ≤ n → Leaves n (quantity_begun b rest)
leaves-quantity-begun begin.Plus rest n h = tt
leaves-quantity-begun begin.Minus rest n h = tt
leaves-quantity-begun (begin.Digit d) rest n h = tt
leaves-quantity-begun (begin.Digits radix) rest n h = tt
leaves-quantity-begun begin.Character rest n h = tt
leaves-quantity-begun begin.Point rest n h = tt
leaves-quantity-begun (begin.Number m) rest n h = tt
leaves-quantity-begun (begin.At place) rest n h = leaves-value-at place rest n h
leaves-quantity-begun (begin.Numbered kind) rest n h = leaves-numbered-value (sought.Numbered kind) rest n h
leaves-quantity-begun begin.FontDimen rest n h = leaves-parameter rest n h
leaves-quantity-begun (begin.FontInteger kind) rest n h = leaves-value-font (needs.Integer kind) rest n h
leaves-quantity-begun (begin.Nothing error) rest n h = tt

leaves-done-if : {A : Type 0} (result : Result A TexError) (rest : List Item) (n : ℕ) → length rest ≤ n → Leaves n (done_if result rest)
leaves-done-if (Ok value) rest n h = h
leaves-done-if (Err error) rest n h = tt

leaves-mathematical : (negative : Bool) (part : ℕ) (a : Amount) (b : Beginning) (rest : List Item) (n : ℕ) → length rest ≤ n → Leaves n (next (quantity_begun b rest) (λ value rest. done_if (mathematical negative part a value) rest))
leaves-mathematical negative part a b rest n h =
    leaves-next none_kept none_kept n n (quantity_begun b rest) (λ value rest. done_if (mathematical negative part a value) rest) (leaves-quantity-begun b rest n h)
    (λ value after l. leaves-done-if (mathematical negative part a value) after n l)

leaves-in-mu : (negative : Bool) (part : ℕ) (a : Amount) (b : Beginning) (rest : List Item) (n : ℕ) → length rest ≤ n → Leaves n (in_mu negative part a b rest)
leaves-in-mu negative part a begin.Plus rest n h = tt
leaves-in-mu negative part a begin.Minus rest n h = tt
leaves-in-mu negative part a (begin.Digit d) rest n h = tt
leaves-in-mu negative part a (begin.Digits radix) rest n h = tt
leaves-in-mu negative part a begin.Character rest n h = tt
leaves-in-mu negative part a begin.Point rest n h = tt
leaves-in-mu negative part a (begin.Number m) rest n h = tt
leaves-in-mu negative part a (begin.At place) rest n h = leaves-mathematical negative part a (begin.At place) rest n h
leaves-in-mu negative part a (begin.Numbered kind) rest n h = leaves-mathematical negative part a (begin.Numbered kind) rest n h
leaves-in-mu negative part a begin.FontDimen rest n h = leaves-mathematical negative part a begin.FontDimen rest n h
leaves-in-mu negative part a (begin.FontInteger kind) rest n h = leaves-mathematical negative part a (begin.FontInteger kind) rest n h
leaves-in-mu negative part a (begin.Nothing error) rest n h = tt

leaves-measured : (units : Units) (negative : Bool) (whole part : ℕ) (items : List Item) → Leaves (length items) (measured units negative whole part items)
leaves-measured units negative whole part [] = tt
leaves-measured units negative whole part (Gave v ∷ rest) = tt
leaves-measured units negative whole part (Took t ∷ rest) =
    leaves-if none_kept _ (is_undefined t) _ _ tt
    (leaves-if none_kept _ (is_space t) _ _ (leaves-more none_kept (length rest) (length (Took t ∷ rest)) (measured units negative whole part rest) (omega arith) (leaves-measured units negative whole part rest))
    (leaves-if none_kept _ (is_internal (beginning t)) _ _
    (leaves-if none_kept _ units.mu _ _ (leaves-in-mu negative part (Times whole) (beginning t) rest (length (Took t ∷ rest)) (omega arith))
    (leaves-next none_kept none_kept (length (Took t ∷ rest)) (length (Took t ∷ rest)) (integer (Took t ∷ rest)) (ended_with negative part (Times whole)) (leaves-number (Took t ∷ rest) [] false)
    (λ n after l. leaves-internal negative part (Times whole) n after (length (Took t ∷ rest)) l)))
    (leaves-next none_kept none_kept (length (Took t ∷ rest)) (length (Took t ∷ rest)) (spelled (λ more. unit_name units more rest) (first_letter units t) rest) (unit_ended units negative whole part)
    (leaves-named units (first_letter units t) rest)
    (λ named after l. leaves-more none_kept (length after) (length (Took t ∷ rest)) (unit_ended units negative whole part named after) l (leaves-unit-ended units negative whole part named after)))))

leaves-factored : (units : Units) (negative : Bool) (f : Factor) (rest : List Item) (n : ℕ) → length (f.behind ++ rest) ≤ n → Leaves n (factored units negative f rest)
leaves-factored units negative f rest n h =
    leaves-more none_kept (length (f.behind ++ rest)) n (measured units negative f.whole (fraction_of f.digits) (f.behind ++ rest)) h (leaves-measured units negative f.whole (fraction_of f.digits) (f.behind ++ rest))

leaves-quantified : (units : Units) (negative b : Bool) (reading : Reading ℤ) (begun : Beginning) (rest : List Item) (n : ℕ) → length rest ≤ n → Leaves n reading → Leaves n (quantified units negative b reading begun rest)
leaves-quantified units negative true reading begun rest n h l =
    leaves-if none_kept n units.mu _ _ (leaves-in-mu negative 0 All begun rest n h)
    (leaves-next none_kept none_kept n n reading (ended_with negative 0 All) l (λ m after k. leaves-internal negative 0 All m after n k))
leaves-quantified units negative false reading begun rest n h l =
    leaves-next none_kept none_kept n n reading (numbered_unit units negative) l
    (λ m after k. leaves-more none_kept (length after) n (numbered_unit units negative m after) k (leaves-measured units (turned negative m) (unsigned_abs m) (fraction_of []) after))

leaves-begun : (units : Units) (negative : Bool) (on : Bool → Reading Measure) (number : Reading ℤ) (rest : List Item) (b : Beginning) (n : ℕ) → length rest ≤ n → Leaves n number → ((negative : Bool) → Leaves n (on negative)) → Leaves n (size_begun units negative on number rest b)
leaves-begun units negative on number rest begin.Plus n h l k = k negative
leaves-begun units negative on number rest begin.Minus n h l k = k (not negative)
leaves-begun units negative on number rest (begin.Digit d) n h l k =
    leaves-next behind_factor none_kept (length rest) n (whole_units Decimal d rest) (factored units negative) (leaves-whole Decimal rest d) (λ f behind e. leaves-factored units negative f behind n (omega arith))
leaves-begun units negative on number rest (begin.Digits radix) n h l k =
    leaves-next behind_factor none_kept (length rest) n (first_unit radix rest) (factored units negative) (leaves-first radix rest) (λ f behind e. leaves-factored units negative f behind n (omega arith))
leaves-begun units negative on number rest begin.Point n h l k =
    leaves-next behind_factor none_kept (length rest) n (fraction 0 [] rest) (factored units negative) (leaves-fraction 0 rest []) (λ f behind e. leaves-factored units negative f behind n (omega arith))
leaves-begun units negative on number rest begin.Character n h l k =
    leaves-next behind_number none_kept (length rest) n (character_code rest) (counted units negative) (leaves-code rest)
    (λ c behind e. leaves-factored units negative (record { whole = c.number; digits = []; behind = c.behind }) behind n (omega arith))
leaves-begun units negative on number rest (begin.Number m) n h l k = leaves-quantified units negative false number (begin.Number m) rest n h l
leaves-begun units negative on number rest (begin.At place) n h l k = leaves-quantified units negative (has_size place) number (begin.At place) rest n h l
leaves-begun units negative on number rest (begin.Numbered kind) n h l k = leaves-quantified units negative (is_size_kind kind) number (begin.Numbered kind) rest n h l
leaves-begun units negative on number rest begin.FontDimen n h l k = leaves-quantified units negative true number begin.FontDimen rest n h l
leaves-begun units negative on number rest (begin.FontInteger kind) n h l k = leaves-quantified units negative false number (begin.FontInteger kind) rest n h l
leaves-begun units negative on number rest (begin.Nothing error) n h l k = tt

leaves-signs : (units : Units) (items : List Item) (negative : Bool) → Leaves (length items) (size_signs units negative items)
leaves-signs units [] negative = tt
leaves-signs units (Gave v ∷ rest) negative = tt
leaves-signs units (Took t ∷ rest) negative =
    leaves-begun units negative (λ negative. size_signs units negative rest) (integer (Took t ∷ rest)) rest (beginning t) (length (Took t ∷ rest)) (omega arith) (leaves-number (Took t ∷ rest) [] false)
    (λ negative. leaves-more none_kept (length rest) (length (Took t ∷ rest)) (size_signs units negative rest) (omega arith) (leaves-signs units rest negative))

pub leaves-dimension : (units : Units) (items : List Item) → Leaves (length items) (dimension units items)
leaves-dimension units items = leaves-signs units items false
