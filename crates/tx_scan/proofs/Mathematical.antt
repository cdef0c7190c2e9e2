-- Internal quantities in mu, and units behind `true`, as parts of a dimension.
use Rattle.std.proofs.Common.{◌≡◌, ◌≤◌, ◌<◌, ℕ, zero, suc, Bool, true, false, cond, List, [], ◌∷◌, ◌++◌, Option, None, Some, refl, ap, sym, ◌∙◌, leb-true, leb-false, arith}
use Rattle.std.proofs.lemmas.Bool.{lt-leb}
use Rattle.std.specs.Prelude.{ℤ, is_some, nat_le, unsigned_abs}
use Rattle.tx_num.specs.Glue.{GlueSpec}
use Rattle.tx_num.specs.Decimals.{fraction_of}
use Rattle.tx_num.specs.Units.{size_of}
use Rattle.tx_num.specs.declared.units.PhysicalUnit.{PhysicalUnit}
use Rattle.tx_num.specs.declared.units.PhysicalUnit.TheVariants.{Point, Pica, Inch, BigPoint, Centimetre, Millimetre, DidotPoint, Cicero, ScaledPoint}
use Rattle.tx_char.specs.Character.{character}
use Rattle.tx_prim.specs.declared.family.FontNumber.{FontNumber}
use Rattle.tx_prim.specs.declared.family.Numbered.{Numbered}
use Rattle.tx_seen.specs.declared.error.TexError.TheVariants.{MissingUnit}
use Rattle.tx_seen.specs.declared.fed.Fed.{Fed}
use Rattle.tx_seen.specs.declared.fed.Fed.TheVariants as fed
use Rattle.tx_seen.specs.declared.fed.Kind.TheVariants.{Quantity}
use Rattle.tx_seen.specs.declared.fed.Value.{Value}
use Rattle.tx_seen.specs.declared.fed.Value.TheVariants.{Magnification, Muglue}
use Rattle.tx_seen.specs.declared.fed.Want.TheVariants.{Expanded}
use Rattle.tx_seen.specs.declared.item.Item.{Item}
use Rattle.tx_seen.specs.declared.item.Item.TheVariants.{Took, Gave}
use Rattle.tx_seen.specs.declared.place.Place.{Place}
use Rattle.tx_seen.specs.declared.place.Place.TheVariants.{Magnification as Magnifying}
use Rattle.tx_seen.specs.declared.seen.Seen.{Seen}
use Rattle.tx_seen.specs.Readings.{Reading, Wrong, next}
use Rattle.tx_seen.specs.Seen.{is_undefined, is_space, is_key}
use Rattle.tx_scan.specs.declared.scans.Amount.{Amount}
use Rattle.tx_scan.specs.declared.scans.Amount.TheVariants.{Times}
use Rattle.tx_scan.specs.declared.scans.Beginning.TheVariants as begin
use Rattle.tx_scan.specs.declared.scans.DimenScan.{DimenScan}
use Rattle.tx_scan.specs.declared.scans.DimenStage.TheVariants as stage
use Rattle.tx_scan.specs.declared.scans.Measure.{Measure}
use Rattle.tx_scan.specs.declared.scans.Order.{Order}
use Rattle.tx_scan.specs.declared.scans.Order.TheVariants.{Normal, Fil}
use Rattle.tx_scan.specs.declared.scans.Portion.{Portion}
use Rattle.tx_scan.specs.declared.scans.QuantityScan.{QuantityScan}
use Rattle.tx_scan.specs.declared.scans.Sought.TheVariants as sought
use Rattle.tx_scan.specs.declared.scans.UnitName.{UnitName}
use Rattle.tx_scan.specs.declared.scans.UnitName.TheVariants.{Physical, Mathematical, Font}
use Rattle.tx_scan.specs.declared.scans.Units.{Units}
use Rattle.tx_scan.specs.Dimensions.{Named, amount, ended_with, measured_by, turned, A_unit, Fil_unit, True_unit, first_letter_behind_true, fil_rest, in_mu, in_unit, magnified, mathematical, more_infinite, raised, sized, spelled, true_ended, true_unit, unit_name, unit_rest}
use Rattle.tx_scan.specs.DimensionRests.{rest, held, more_needed, most, name_ended, part_of, IsFed, IsMeasuring}
use Rattle.tx_scan.specs.Integers.{expanded, given, unless_space}
use Rattle.tx_scan.specs.Mapped.{done_if, fed_if, settled}
use Rattle.tx_scan.specs.QuantityRests as quantities
use Rattle.tx_scan.specs.Rests.{IsEnd, IsGivenBy}
use Rattle.tx_scan.specs.Supplied.{NeedsFewer, NeedsNoMore}
use Rattle.tx_scan.proofs.Answering.{same-answer}
use Rattle.tx_scan.proofs.Composing.{answer-most}
use Rattle.tx_scan.proofs.Mappings.{settled-answer, settled-given, needs-settled, fewer-settled}
use Rattle.tx_scan.proofs.Quantities.{next-alike}

-- a quantity in mu begins
pub mu-at : (old new : DimenScan) (a : Amount) (place : Place) (t : Seen) (answer : Fed Measure) → new ≡ record old { stage = stage.Mathematical a; quantity = quantities.begun_quantity } → answer ≡ fed.Need (Quantity place) → IsMeasuring 0 (λ more. in_mu old.negative (fraction_of old.digits) a (begin.At place) more) t new answer
mu-at old new a place t answer n e = rw (n, e) (refl, omega arith, λ item more. refl)

pub mu-behind : (old new : DimenScan) (a : Amount) (kind : Numbered) (t : Seen) (answer : Fed Measure) → new ≡ record old { stage = stage.Mathematical a; quantity = quantities.begun_at_number (sought.Numbered kind) } → answer ≡ fed.More Expanded → IsMeasuring 0 (λ more. in_mu old.negative (fraction_of old.digits) a (begin.Numbered kind) more) t new answer
mu-behind old new a kind t answer n e = rw (n, e) (refl, refl, λ item more. refl)

pub mu-parameter : (old new : DimenScan) (a : Amount) (t : Seen) (answer : Fed Measure) → new ≡ record old { stage = stage.Mathematical a; quantity = quantities.begun_at_parameter } → answer ≡ fed.More Expanded → IsMeasuring 0 (λ more. in_mu old.negative (fraction_of old.digits) a begin.FontDimen more) t new answer
mu-parameter old new a t answer n e = rw (n, e) (refl, refl, λ item more. refl)

pub mu-font : (old new : DimenScan) (a : Amount) (kind : FontNumber) (t : Seen) (answer : Fed Measure) → new ≡ record old { stage = stage.Mathematical a; quantity = quantities.begun_at_font kind } → answer ≡ fed.More Expanded → IsMeasuring 0 (λ more. in_mu old.negative (fraction_of old.digits) a (begin.FontInteger kind) more) t new answer
mu-font old new a kind t answer n e = rw (n, e) (refl, refl, λ item more. refl)

-- it ends the dimension
end-made : (negative : Bool) (size back : ℕ) (answer : Fed Measure) (b : Bool) → nat_le size 1073741823 ≡ b → IsEnd (λ more. sized negative size Normal more) back answer → answer ≡ fed_if (measured_by negative size Normal) back
end-made negative size back (fed.More want) b e k = absurd k
end-made negative size back (fed.Need kind) b e k = absurd k
end-made negative size back (fed.Done value count) true e k =
    let given : count ≡ back = k.0 in
    let is = rw e at (k.1 []) in
    rw e (cc)
end-made negative size back (fed.Done value count) false e k = absurd (let is = rw e at (k.1 []) in cc)
end-made negative size back (fed.Wrong error) true e k = absurd (let is = rw e at (k []) in cc)
end-made negative size back (fed.Wrong error) false e k = let is = rw e at (k []) in rw e (cc)

pub mu-ends : (negative : Bool) (part : ℕ) (a : Amount) (v : Value) (g : GlueSpec) (n : ℤ) (back : ℕ) (answer : Fed Measure) → v ≡ Muglue g → n ≡ g.width → IsEnd (λ more. ended_with negative part a n more) back answer → answer ≡ fed_if (mathematical negative part a v) back
mu-ends negative part a v g n back answer e w k =
    rw (e, sym w) (end-made (turned negative n) (amount part a (unsigned_abs n)) back answer (nat_le (amount part a (unsigned_abs n)) 1073741823) refl k)

-- it goes on
abbrev on_mu : DimenScan → Amount → Value → List Item → Reading Measure
on_mu old a value rest = done_if (mathematical old.negative (fraction_of old.digits) a value) rest

pub mu-fed : (old : DimenScan) (scan : QuantityScan) (a : Amount) (t : Seen) (told : Fed Value) (answer : Fed Measure) → old.stage ≡ stage.Mathematical a → quantities.IsFed old.quantity t scan told → answer ≡ settled (mathematical old.negative (fraction_of old.digits) a) told → IsFed old t (record old { quantity = scan }) answer
mu-fed old scan a t told answer s k e = rw e (λ behind.
    same-answer rest held (most old) (λ more. rest old behind (Took t) more) (λ more. next (quantities.rest old.quantity behind (Took t) more) (on_mu old a)) t (record old { quantity = scan }) (settled (mathematical old.negative (fraction_of old.digits) a) told)
    (λ more. rw s refl)
    (answer-most rest held 1 (most old) (λ more. next (quantities.rest old.quantity behind (Took t) more) (on_mu old a)) t (record old { quantity = scan }) (settled (mathematical old.negative (fraction_of old.digits) a) told) (rw s (omega arith))
    (settled-answer quantities.rest quantities.held rest held (mathematical old.negative (fraction_of old.digits) a) 1 (λ more. quantities.rest old.quantity behind (Took t) more) t scan (record old { quantity = scan }) told (λ behind item more. rw s refl) (rw s refl) (k behind))))

pub mu-needs : (old : DimenScan) (scan : QuantityScan) (a : Amount) (told : Fed Value) (answer : Fed Measure) → old.stage ≡ stage.Mathematical a → NeedsNoMore (quantities.more_needed old.quantity) (quantities.more_needed scan) told → answer ≡ settled (mathematical old.negative (fraction_of old.digits) a) told → NeedsNoMore (more_needed old) (more_needed (record old { quantity = scan })) answer
mu-needs old scan a told answer s k e = rw (e, s) (needs-settled (mathematical old.negative (fraction_of old.digits) a) (quantities.more_needed old.quantity) (quantities.more_needed scan) told k)

pub mu-given : (old : DimenScan) (scan : QuantityScan) (a : Amount) (v : Value) (told : Fed Value) (answer : Fed Measure) → old.stage ≡ stage.Mathematical a → IsGivenBy quantities.rest quantities.held old.quantity v scan told → answer ≡ settled (mathematical old.negative (fraction_of old.digits) a) told → IsGivenBy rest held old v (record old { quantity = scan }) answer
mu-given old scan a v told answer s k e =
    rw e (settled-given quantities.rest quantities.held rest held (mathematical old.negative (fraction_of old.digits) a) old.quantity scan old (record old { quantity = scan }) v told (λ behind item more. rw s refl) (rw s refl) (λ behind item more. rw s refl) (rw s refl) k)

pub mu-fewer : (old : DimenScan) (scan : QuantityScan) (a : Amount) (told : Fed Value) (answer : Fed Measure) → old.stage ≡ stage.Mathematical a → NeedsFewer (quantities.more_needed old.quantity) (quantities.more_needed scan) told → answer ≡ settled (mathematical old.negative (fraction_of old.digits) a) told → NeedsFewer (more_needed old) (more_needed (record old { quantity = scan })) answer
mu-fewer old scan a told answer s k e = rw (e, s) (fewer-settled (mathematical old.negative (fraction_of old.digits) a) (quantities.more_needed old.quantity) (quantities.more_needed scan) told k)

-- a unit's name is whole, behind `true` or not
ended-unit : (told : Option Portion) (units : Units) (negative : Bool) (whole : ℕ) (digits : List ℕ) (unit : UnitName) (rest : List Item) → name_ended told units negative whole (fraction_of digits) (A_unit unit) rest ≡ unit_rest negative whole (part_of told digits) unit rest
ended-unit None units negative whole digits unit rest = refl
ended-unit (Some portion) units negative whole digits unit rest = refl

ended-fil : (told : Option Portion) (units : Units) (negative : Bool) (whole : ℕ) (digits : List ℕ) (rest : List Item) → name_ended told units negative whole (fraction_of digits) Fil_unit rest ≡ fil_rest negative whole (part_of told digits) Fil rest
ended-fil None units negative whole digits rest = refl
ended-fil (Some portion) units negative whole digits rest = refl

pub unit-whole : (old new : DimenScan) (whole : ℕ) (unit : UnitName) (t : Seen) (answer : Fed Measure) → new ≡ record old { stage = stage.AfterUnit whole unit } → answer ≡ fed.More Expanded → IsMeasuring 0 (λ more. name_ended old.magnified old.units old.negative whole (fraction_of old.digits) (A_unit unit) more) t new answer
unit-whole old new whole unit t answer n e = rw (n, e) (
  ended-unit old.magnified old.units old.negative whole old.digits unit [],
  refl,
  λ item more. ended-unit old.magnified old.units old.negative whole old.digits unit (item ∷ more),
)

pub fil-whole : (old new : DimenScan) (whole : ℕ) (t : Seen) (answer : Fed Measure) → new ≡ record old { stage = stage.AfterFil whole Fil } → answer ≡ fed.More Expanded → IsMeasuring 0 (λ more. name_ended old.magnified old.units old.negative whole (fraction_of old.digits) Fil_unit more) t new answer
fil-whole old new whole t answer n e = rw (n, e) (
  ended-fil old.magnified old.units old.negative whole old.digits [],
  refl,
  λ item more. ended-fil old.magnified old.units old.negative whole old.digits (item ∷ more),
)

-- `true` asks for the magnification, and stands once
pub true-asks : (old new : DimenScan) (whole : ℕ) (t : Seen) (answer : Fed Measure) → is_some old.magnified ≡ false → new ≡ record old { stage = stage.Magnification whole } → answer ≡ fed.Need (Quantity Magnifying) → IsMeasuring 0 (λ more. name_ended old.magnified old.units old.negative whole (fraction_of old.digits) True_unit more) t new answer
true-asks old new whole t answer h n e =
    let none : old.magnified ≡ None = unmagnified old.magnified h in
    rw (n, e, none) (refl, omega arith, λ item more. refl)
  where
    unmagnified : (told : Option Portion) → is_some told ≡ false → told ≡ None
    unmagnified None h = refl
    unmagnified (Some portion) h = absurd (cc)

twice : (told : Option Portion) (units : Units) (negative : Bool) (whole part : ℕ) (more : List Item) → is_some told ≡ true → name_ended told units negative whole part True_unit more ≡ Wrong MissingUnit
twice None units negative whole part more h = absurd (cc)
twice (Some portion) units negative whole part more h = refl

pub true-twice : (old new : DimenScan) (whole : ℕ) (t : Seen) → is_some old.magnified ≡ true → IsMeasuring 0 (λ more. name_ended old.magnified old.units old.negative whole (fraction_of old.digits) True_unit more) t new (fed.Wrong MissingUnit)
true-twice old new whole t h = λ more. twice old.magnified old.units old.negative whole (fraction_of old.digits) more h

pub true-named : (old new : DimenScan) (whole : ℕ) (portion : Portion) (t : Seen) (answer : Fed Measure) → old.stage ≡ stage.TrueUnit whole portion → is_undefined t ≡ false → is_space t ≡ false → IsMeasuring 0 (λ more. next (spelled (λ letters. unit_name old.units letters more) (first_letter_behind_true t) more) (name_ended (Some portion) old.units old.negative whole (fraction_of old.digits))) t new answer → IsFed old t new answer
true-named old new whole portion t answer s u b k = λ behind.
    same-answer rest held (most old) (λ more. rest old behind (Took t) more) (λ more. next (spelled (λ letters. unit_name old.units letters more) (first_letter_behind_true t) more) (name_ended (Some portion) old.units old.negative whole (fraction_of old.digits))) t new answer (λ more. rw (s, u, b) refl)
    (answer-most rest held 0 (most old) (λ more. next (spelled (λ letters. unit_name old.units letters more) (first_letter_behind_true t) more) (name_ended (Some portion) old.units old.negative whole (fraction_of old.digits))) t new answer (omega arith) k)

-- so many units are too many of each
size-large : (unit : PhysicalUnit) (whole part : ℕ) → 2147483647 ≤ whole → 1073741823 < size_of unit whole part
size-large Point whole part h = omega arith
size-large Pica whole part h = omega arith
size-large Inch whole part h = omega arith
size-large BigPoint whole part h = omega arith
size-large Centimetre whole part h = omega arith
size-large Millimetre whole part h = omega arith
size-large DidotPoint whole part h = omega arith
size-large Cicero whole part h = omega arith
size-large ScaledPoint whole part h = omega arith

sized-large : (negative : Bool) (a b : ℕ) (order : Order) (behind : List Item) → 1073741823 < a → 1073741823 < b → sized negative a order behind ≡ sized negative b order behind
sized-large negative a b order behind h k =
    let first : nat_le a 1073741823 ≡ false = lt-leb a 1073741823 h in
    let second : nat_le b 1073741823 ≡ false = lt-leb b 1073741823 k in
    rw (first, second) refl

-- so many of a size are too many, or none
amount-alike : (negative : Bool) (size : ℕ) (a b : ℕ × ℕ) (behind : List Item) → 2147483647 ≤ a.0 → 2147483647 ≤ b.0 → sized negative (amount a.1 (Times a.0) size) Normal behind ≡ sized negative (amount b.1 (Times b.0) size) Normal behind
amount-alike negative zero a b behind h k =
    let first : amount a.1 (Times a.0) 0 ≡ 0 = omega arith in
    let second : amount b.1 (Times b.0) 0 ≡ 0 = omega arith in
    ap (λ n. sized negative n Normal behind) (first ∙ sym second)
amount-alike negative (suc n) a b behind h k =
    sized-large negative (amount a.1 (Times a.0) (suc n)) (amount b.1 (Times b.0) (suc n)) Normal behind (omega arith) (omega arith)

sized-alike : (negative : Bool) (unit : UnitName) (a b : ℕ × ℕ) (behind rest : List Item) → 2147483647 ≤ a.0 → 2147483647 ≤ b.0 → in_unit negative a.0 a.1 unit behind rest ≡ in_unit negative b.0 b.1 unit behind rest
sized-alike negative (Physical unit) a b behind rest h k = sized-large negative (size_of unit a.0 a.1) (size_of unit b.0 b.1) Normal (behind ++ rest) (size-large unit a.0 a.1 h) (size-large unit b.0 b.1 k)
sized-alike negative Mathematical a b behind rest h k = sized-large negative (size_of Point a.0 a.1) (size_of Point b.0 b.1) Normal (behind ++ rest) (size-large Point a.0 a.1 h) (size-large Point b.0 b.1 k)
sized-alike negative (Font size) a b behind [] h k = refl
sized-alike negative (Font size) a b behind (item ∷ rest) h k =
    next-alike (given item rest) (λ n rest. ended_with negative a.1 (Times a.0) n (behind ++ rest)) (λ n rest. ended_with negative b.1 (Times b.0) n (behind ++ rest))
    (λ n rest. amount-alike (turned negative n) (unsigned_abs n) a b (behind ++ rest) h k)

unit-alike : (negative : Bool) (unit : UnitName) (a b : ℕ × ℕ) (items : List Item) → 2147483647 ≤ a.0 → 2147483647 ≤ b.0 → unit_rest negative a.0 a.1 unit items ≡ unit_rest negative b.0 b.1 unit items
unit-alike negative unit a b [] h k = refl
unit-alike negative unit a b (Gave v ∷ rest) h k = refl
unit-alike negative unit a b (Took t ∷ rest) h k = ap (λ r. expanded t r) (sized-alike negative unit a b (unless_space t) rest h k)

infinite-alike : (o : Option Order) (f g : Order → Reading Measure) → ((order : Order) → f order ≡ g order) → more_infinite o f ≡ more_infinite o g
infinite-alike None f g same = refl
infinite-alike (Some order) f g same = same order

-- what a token behind `fil` makes of it
abbrev letter_or_end : Seen → Reading Measure → Reading Measure → Reading Measure → Reading Measure
letter_or_end t space letter end = expanded t (cond (is_space t) space (cond (is_key (character "l") t) letter end))

fil-alike : (negative : Bool) (a b : ℕ × ℕ) (order : Order) (items : List Item) → 2147483647 ≤ a.0 → 2147483647 ≤ b.0 → fil_rest negative a.0 a.1 order items ≡ fil_rest negative b.0 b.1 order items
fil-alike negative a b order [] h k = refl
fil-alike negative a b order (Gave v ∷ rest) h k = refl
fil-alike negative a b order (Took t ∷ rest) h k =
    ap (λ r. letter_or_end t r (more_infinite (raised order) (λ more. fil_rest negative a.0 a.1 more rest)) (sized negative (size_of Point a.0 a.1) order (Took t ∷ rest))) (fil-alike negative a b order rest h k)
    ∙ (ap (λ r. letter_or_end t (fil_rest negative b.0 b.1 order rest) r (sized negative (size_of Point a.0 a.1) order (Took t ∷ rest))) (infinite-alike (raised order) (λ more. fil_rest negative a.0 a.1 more rest) (λ more. fil_rest negative b.0 b.1 more rest) (λ more. fil-alike negative a b more rest h k))
    ∙ ap (λ r. letter_or_end t (fil_rest negative b.0 b.1 order rest) (more_infinite (raised order) (λ more. fil_rest negative b.0 b.1 more rest)) r) (sized-large negative (size_of Point a.0 a.1) (size_of Point b.0 b.1) order (Took t ∷ rest) (size-large Point a.0 a.1 h) (size-large Point b.0 b.1 k)))

ended-alike : (negative : Bool) (a b : ℕ × ℕ) (named : Named) (items : List Item) → 2147483647 ≤ a.0 → 2147483647 ≤ b.0 → true_ended negative a named items ≡ true_ended negative b named items
ended-alike negative a b (A_unit unit) items h k = unit-alike negative unit a b items h k
ended-alike negative a b Fil_unit items h k = fil-alike negative a b Fil items h k
ended-alike negative a b True_unit items h k = refl

true-alike : (units : Units) (negative : Bool) (a b : ℕ × ℕ) (items : List Item) → 2147483647 ≤ a.0 → 2147483647 ≤ b.0 → true_unit units negative a items ≡ true_unit units negative b items
true-alike units negative a b [] h k = refl
true-alike units negative a b (Gave v ∷ rest) h k = refl
true-alike units negative a b (Took t ∷ rest) h k =
    ap (λ r. expanded t (cond (is_space t) r (next (spelled (λ more. unit_name units more rest) (first_letter_behind_true t) rest) (true_ended negative a)))) (true-alike units negative a b rest h k)
    ∙ ap (λ r. expanded t (cond (is_space t) (true_unit units negative b rest) r)) (next-alike (spelled (λ more. unit_name units more rest) (first_letter_behind_true t) rest) (true_ended negative a) (true_ended negative b) (λ named rest. ended-alike negative a b named rest h k))

-- units that are magnified so, or so that they are too many
told-so : (units : Units) (negative : Bool) (a b : ℕ × ℕ) (items : List Item) → (a.0 < 2147483647 → a ≡ b) → (2147483647 ≤ a.0 → 2147483647 ≤ b.0) → (small : Bool) → nat_le 2147483647 a.0 ≡ small → true_unit units negative b items ≡ true_unit units negative a items
told-so units negative a b items value many true e = sym (true-alike units negative a b items (leb-true 2147483647 a.0 e) (many (leb-true 2147483647 a.0 e)))
told-so units negative a b items value many false e = ap (λ told. true_unit units negative told items) (sym (value (leb-false 2147483647 a.0 e)))

pub true-given : (old new : DimenScan) (whole n : ℕ) (a : ℕ × ℕ) (portion : Portion) (answer : Fed Measure) → old.stage ≡ stage.Magnification whole → 0 < n → (a.0 < 2147483647 → a ≡ magnified whole (fraction_of old.digits) n) → (2147483647 ≤ a.0 → 2147483647 ≤ (magnified whole (fraction_of old.digits) n).0) → portion.part ≡ a.1 → new ≡ record old { stage = stage.TrueUnit a.0 portion } → answer ≡ fed.More Expanded → IsGivenBy rest held old (Magnification n) new answer
true-given old new whole zero a portion answer s some value many p n e = absurd (omega (arith, some))
true-given old new whole (suc m) a portion answer s some value many p n e = λ behind short. rw (s, n, e) (
  refl,
  refl,
  λ item more. told-so old.units old.negative a (magnified whole (fraction_of old.digits) (suc m)) (item ∷ more) value many (nat_le 2147483647 a.0) refl ∙ ap (λ part. true_unit old.units old.negative (a.0, part) (item ∷ more)) (sym p),
)
