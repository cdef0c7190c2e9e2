-- The scan of a number or a size, as the one that it is.
use Rattle.std.proofs.Common.{◌≡◌, ◌≤◌, ℤ, Result, Ok, Err, IfOk, refl, ap}
use Rattle.tx_seen.specs.declared.fed.Fed.{Fed}
use Rattle.tx_seen.specs.declared.fed.Fed.TheVariants as fed
use Rattle.tx_seen.specs.declared.fed.Value.{Value}
use Rattle.tx_seen.specs.declared.seen.Seen.{Seen}
use Rattle.tx_seen.specs.Readings.{next}
use Rattle.tx_scan.specs.declared.scans.DimenScan.{DimenScan}
use Rattle.tx_scan.specs.declared.scans.IntScan.{IntScan}
use Rattle.tx_scan.specs.declared.scans.Measure.{Measure}
use Rattle.tx_scan.specs.DimensionRests as sizes
use Rattle.tx_scan.specs.IntegerRests as integers
use Rattle.tx_scan.specs.Mapped.{mapped}
use Rattle.tx_scan.specs.Rests.{IsGivenBy}
use Rattle.tx_scan.proofs.Mappings.{mapped-given}
use Rattle.tx_scan.proofs.Mosts.{most-integer, most-size}
use Rattle.tx_cond.specs.declared.test.Comparand.{Comparand}
use Rattle.tx_cond.specs.declared.test.Comparand.TheVariants.{Number, Size}
use Rattle.tx_cond.specs.declared.test.ComparandScan.{ComparandScan}
use Rattle.tx_cond.specs.Tests.{in_points}
use Rattle.tx_cond.specs.ComparandRests as comparands

most-of : (comparand : Comparand) (scan : ComparandScan) → comparands.most_of comparand scan ≤ 1
most-of Number scan = most-integer scan.number
most-of Size scan = most-size scan.size

pub most-one : (scan : ComparandScan) → comparands.most scan ≤ 1
most-one scan = most-of scan.comparand scan

-- what the scan of an integer answers to a token
number-fed : (old : ComparandScan) (t : Seen) (scan : IntScan) (answer : Fed ℤ) → old.comparand ≡ Number → integers.IsFed old.number t scan answer → comparands.IsFed old t (record old { number = scan }) answer
number-fed old t scan (fed.More want) is k = λ behind. rw is (k behind)
number-fed old t scan (fed.Need kind) is k = λ behind. rw is (k behind)
number-fed old t scan (fed.Done value back) is k = λ behind. rw is (k behind)
number-fed old t scan (fed.Wrong error) is k = λ behind more. rw is (k behind more)

pub number-fed-ok : {E : Type 0} (old : ComparandScan) (t : Seen) (scan : IntScan) (answer : Result (Fed ℤ) E) → old.comparand ≡ Number → IfOk answer (integers.IsFed old.number t scan) → IfOk answer (comparands.IsFed old t (record old { number = scan }))
number-fed-ok old t scan (Ok answer) is k = number-fed old t scan answer is k
number-fed-ok old t scan (Err e) is k = tt

-- that of a dimension
pub size-fed : (old : ComparandScan) (t : Seen) (scan : DimenScan) (answer : Fed Measure) → old.comparand ≡ Size → sizes.IsFed old.size t scan answer → comparands.IsFed old t (record old { size = scan }) (mapped (λ measure. measure.size) answer)
size-fed old t scan (fed.More want) is k = λ behind. rw is (ap (λ r. next r in_points) (k behind).0, (k behind).1, λ item more. ap (λ r. next r in_points) ((k behind).2 item more))
size-fed old t scan (fed.Need kind) is k = λ behind. rw is (ap (λ r. next r in_points) (k behind).0, (k behind).1, λ item more. ap (λ r. next r in_points) ((k behind).2 item more))
size-fed old t scan (fed.Done measure back) is k = λ behind. rw is ((k behind).0, λ more. ap (λ r. next r in_points) ((k behind).1 more))
size-fed old t scan (fed.Wrong error) is k = λ behind more. rw is (ap (λ r. next r in_points) (k behind more))

-- and to a value
pub size-given : (old : ComparandScan) (v : Value) (scan : DimenScan) (answer : Fed Measure) → old.comparand ≡ Size → IsGivenBy sizes.rest sizes.held old.size v scan answer → comparands.IsGiven old v (record old { size = scan }) (mapped (λ measure. measure.size) answer)
size-given old v scan answer is k =
    mapped-given sizes.rest sizes.held comparands.rest comparands.held (λ measure. measure.size) old.size scan old (record old { size = scan }) v answer
    (λ behind item more. rw is refl) (rw is refl) (λ behind item more. rw is refl) (rw is refl) k
