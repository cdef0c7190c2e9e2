-- What ends a dimension: an optional space behind the unit, and the current font's size where that is the unit.
use Rattle.std.proofs.Common.{◌≡◌, ◌≤◌, ℕ, Bool, true, false, not, List, ◌++◌, refl, ap, ◌∙◌, arith}
use Rattle.std.specs.Prelude.{ℤ}
use Rattle.tx_num.specs.Units.{size_of}
use Rattle.tx_num.specs.declared.units.PhysicalUnit.{PhysicalUnit}
use Rattle.tx_num.specs.declared.units.PhysicalUnit.TheVariants.{Point}
use Rattle.tx_seen.specs.declared.fed.Fed.{Fed}
use Rattle.tx_seen.specs.declared.fed.Fed.TheVariants as fed
use Rattle.tx_seen.specs.declared.fed.Kind.TheVariants.{Quantity}
use Rattle.tx_seen.specs.declared.fed.Value.{Value}
use Rattle.tx_seen.specs.declared.fed.Value.TheVariants.{Int, Dimen, Glue, Muglue, Magnification, Flag, Absent, OutOfRange}
use Rattle.tx_seen.specs.declared.item.Item.{Item}
use Rattle.tx_seen.specs.declared.item.Item.TheVariants.{Took, Gave}
use Rattle.tx_seen.specs.declared.place.FontSize.{FontSize}
use Rattle.tx_seen.specs.declared.place.Place.TheVariants.{FontSize as Font_size}
use Rattle.tx_seen.specs.declared.seen.Seen.{Seen}
use Rattle.tx_seen.specs.Readings.{Reading, Done, next}
use Rattle.tx_seen.specs.Seen.{is_undefined, is_space}
use Rattle.tx_scan.specs.declared.scans.Amount.{Amount}
use Rattle.tx_scan.specs.declared.scans.Amount.TheVariants.{Times}
use Rattle.tx_scan.specs.declared.scans.DimenScan.{DimenScan}
use Rattle.tx_scan.specs.declared.scans.DimenStage.TheVariants as stage
use Rattle.tx_scan.specs.declared.scans.Measure.{Measure}
use Rattle.tx_scan.specs.declared.scans.Order.TheVariants.{Normal}
use Rattle.tx_scan.specs.declared.scans.UnitName.{UnitName}
use Rattle.tx_scan.specs.declared.scans.UnitName.TheVariants.{Physical, Mathematical, Font}
use Rattle.tx_scan.specs.Dimensions.{ended_with, in_unit, sized}
use Rattle.tx_scan.specs.DimensionRests.{count_held, held, most, part_of, rest, IsFed}
use Rattle.tx_scan.specs.Integers.{given, in_range, is_in_range, unless_space}
use Rattle.tx_scan.specs.Rests.{kept, IsAnswer, IsEnd, IsGivenBy}
use Rattle.tx_scan.proofs.Answering.{same-answer, same-passed}
use Rattle.tx_scan.proofs.Composing.{answer-most}
use Rattle.tx_scan.proofs.Quantities.{end-passed}

-- the token behind the unit stays behind it, unless it is a space
unless-kept : (t : Seen) (blank : Bool) → is_space t ≡ blank → unless_space t ≡ kept (count_held (not blank)) t
unless-kept t true e = rw e refl
unless-kept t false e = rw e refl

ended : (reading : List Item → Reading Measure) (back : ℕ) (t : Seen) (new : DimenScan) (answer : Fed Measure) → back ≤ 1 → IsEnd reading back answer → IsAnswer rest held 1 (λ more. reading (kept back t ++ more)) t new answer
ended reading back t new (fed.More want) h k = absurd k
ended reading back t new (fed.Need kind) h k = absurd k
ended reading back t new (fed.Done value count) h k = (rw k.0 h, λ more. rw k.0 (k.1 (kept back t ++ more)))
ended reading back t new (fed.Wrong error) h k = λ more. k (kept back t ++ more)

few-held : (b : Bool) → count_held b ≤ 1
few-held true = omega arith
few-held false = omega arith

abbrev size_told : DimenScan → PhysicalUnit → ℕ → List Item → Reading Measure
size_told old unit whole more = sized old.negative (size_of unit whole (part_of old.magnified old.digits)) Normal more

told-end : (old new : DimenScan) (whole : ℕ) (name : UnitName) (unit : PhysicalUnit) (t : Seen) (blank : Bool) (answer : Fed Measure) → old.stage ≡ stage.AfterUnit whole name → ((behind more : List Item) → in_unit old.negative whole (part_of old.magnified old.digits) name behind more ≡ size_told old unit whole (behind ++ more)) → is_undefined t ≡ false → is_space t ≡ blank → IsEnd (size_told old unit whole) (count_held (not blank)) answer → IsFed old t new answer
told-end old new whole name unit t blank answer s same u b k = λ behind.
    same-answer rest held (most old) (λ more. rest old behind (Took t) more) (λ more. size_told old unit whole (kept (count_held (not blank)) t ++ more)) t new answer
    (λ more. rw (s, u) (same (unless_space t) more ∙ ap (λ (items : List Item). size_told old unit whole (items ++ more)) (unless-kept t blank b)))
    (answer-most rest held 1 (most old) (λ more. size_told old unit whole (kept (count_held (not blank)) t ++ more)) t new answer (rw s (omega arith))
    (ended (size_told old unit whole) (count_held (not blank)) t new answer (few-held (not blank)) k))

pub physical-end : (old new : DimenScan) (whole back : ℕ) (unit : PhysicalUnit) (t : Seen) (answer : Fed Measure) → old.stage ≡ stage.AfterUnit whole (Physical unit) → is_undefined t ≡ false → back ≡ count_held (not (is_space t)) → IsEnd (size_told old unit whole) back answer → IsFed old t new answer
physical-end old new whole back unit t answer s u e k = told-end old new whole (Physical unit) unit t (is_space t) answer s (λ behind more. refl) u refl (rw e at k)

pub mathematical-end : (old new : DimenScan) (whole back : ℕ) (t : Seen) (answer : Fed Measure) → old.stage ≡ stage.AfterUnit whole Mathematical → is_undefined t ≡ false → back ≡ count_held (not (is_space t)) → IsEnd (size_told old Point whole) back answer → IsFed old t new answer
mathematical-end old new whole back t answer s u e k = told-end old new whole Mathematical Point t (is_space t) answer s (λ behind more. refl) u refl (rw e at k)

-- a size of the font is asked for
asks-by : (old : DimenScan) (whole : ℕ) (size : FontSize) (t : Seen) (blank : Bool) → old.stage ≡ stage.AfterUnit whole (Font size) → is_undefined t ≡ false → is_space t ≡ blank → IsFed old t (record old { stage = stage.FontUnit whole size (not blank) }) (fed.Need (Quantity (Font_size size)))
asks-by old whole size t true s u b = λ behind. rw (s, u, b) (refl, omega arith, λ item more. refl)
asks-by old whole size t false s u b = λ behind. rw (s, u, b) (refl, omega arith, λ item more. refl)

pub font-asks : (old new : DimenScan) (whole : ℕ) (size : FontSize) (t : Seen) (behind_it : Bool) (answer : Fed Measure) → old.stage ≡ stage.AfterUnit whole (Font size) → is_undefined t ≡ false → behind_it ≡ not (is_space t) → new ≡ record old { stage = stage.FontUnit whole size behind_it } → answer ≡ fed.Need (Quantity (Font_size size)) → IsFed old t new answer
font-asks old new whole size t behind_it answer s u b n e = rw (n, e, b) (asks-by old whole size t (is_space t) s u refl)

-- it is given
range-behind : (n : ℤ) (in_it : Bool) (behind more : List Item) (on : ℤ → List Item → Reading Measure) → is_in_range n ≡ in_it → next (in_range n more) (λ n rest. on n (behind ++ rest)) ≡ next (in_range n (behind ++ more)) on
range-behind n true behind more on e = rw e refl
range-behind n false behind more on e = rw e refl

given-behind : (v : Value) (behind more : List Item) (on : ℤ → List Item → Reading Measure) → next (given (Gave v) more) (λ n rest. on n (behind ++ rest)) ≡ next (given (Gave v) (behind ++ more)) on
given-behind (Int n) behind more on = range-behind n (is_in_range n) behind more on refl
given-behind (Dimen n) behind more on = range-behind n (is_in_range n) behind more on refl
given-behind (Glue g) behind more on = range-behind g.width (is_in_range g.width) behind more on refl
given-behind (Muglue g) behind more on = refl
given-behind (Magnification n) behind more on = refl
given-behind (Flag b) behind more on = refl
given-behind Absent behind more on = refl
given-behind OutOfRange behind more on = refl

pub font-given : (old new : DimenScan) (whole : ℕ) (size : FontSize) (behind_it : Bool) (v : Value) (answer : Fed Measure) → old.stage ≡ stage.FontUnit whole size behind_it → IsEnd (λ more. next (given (Gave v) more) (λ n more. ended_with old.negative (part_of old.magnified old.digits) (Times whole) n more)) (count_held behind_it) answer → IsGivenBy rest held old v new answer
font-given old new whole size behind_it v answer s k = λ behind short.
    same-passed rest held (λ more. rest old behind (Gave v) more) (λ more. next (given (Gave v) (behind ++ more)) (λ n more. ended_with old.negative (part_of old.magnified old.digits) (Times whole) n more)) behind (held old) (count_held behind_it) new answer
    (λ more. rw s (given-behind v behind more (λ n more. ended_with old.negative (part_of old.magnified old.digits) (Times whole) n more))) (rw s refl)
    (end-passed (λ more. next (given (Gave v) more) (λ n more. ended_with old.negative (part_of old.magnified old.digits) (Times whole) n more)) behind (count_held behind_it) new answer k)

-- so much of a size ends the dimension
pub end-measured : (negative : Bool) (part now : ℕ) (a : Amount) (n m : ℤ) (back : ℕ) (answer : Fed Measure) → now ≡ part → m ≡ n → IsEnd (λ more. ended_with negative now a m more) back answer → IsEnd (λ more. ended_with negative part a n more) back answer
end-measured negative part now a n m back answer e f k = rw (e, f) at k

same-end : (reading other : List Item → Reading Measure) (back count : ℕ) (answer : Fed Measure) → ((more : List Item) → reading more ≡ other more) → count ≡ back → IsEnd other count answer → IsEnd reading back answer
same-end reading other back count (fed.More want) same e k = absurd k
same-end reading other back count (fed.Need kind) same e k = absurd k
same-end reading other back count (fed.Done value given_back) same e k = (k.0 ∙ e, λ more. same more ∙ k.1 more)
same-end reading other back count (fed.Wrong error) same e k = λ more. same more ∙ k more

pub font-ends : (negative : Bool) (part now : ℕ) (whole : ℕ) (v : Value) (n m : ℤ) (behind_it : Bool) (back : ℕ) (answer : Fed Measure) → ((more : List Item) → given (Gave v) more ≡ Done n more) → now ≡ part → m ≡ n → back ≡ count_held behind_it → IsEnd (λ more. ended_with negative now (Times whole) m more) back answer → IsEnd (λ more. next (given (Gave v) more) (λ n more. ended_with negative part (Times whole) n more)) (count_held behind_it) answer
font-ends negative part now whole v n m behind_it back answer g e f b k =
    same-end (λ more. next (given (Gave v) more) (λ n more. ended_with negative part (Times whole) n more)) (λ more. ended_with negative part (Times whole) n more) (count_held behind_it) back answer
    (λ more. ap (λ r. next r (λ n more. ended_with negative part (Times whole) n more)) (g more)) b
    (end-measured negative part now (Times whole) n m back answer e f k)
