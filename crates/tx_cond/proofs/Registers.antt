-- The answer of a box register that is tested.
use Rattle.std.proofs.Common.{◌≡◌, ℤ, [], Option, refl}
use Rattle.tx_prim.specs.declared.expandable.BoxTest.{BoxTest}
use Rattle.tx_prim.specs.declared.expandable.Test.TheVariants as kind
use Rattle.tx_prim.specs.declared.modes.Mode.{Mode}
use Rattle.tx_seen.specs.declared.fed.Fed.{Fed}
use Rattle.tx_seen.specs.declared.fed.Fed.TheVariants as fed
use Rattle.tx_seen.specs.declared.fed.Value.{Value}
use Rattle.tx_seen.specs.declared.fed.Want.TheVariants.{Expanded}
use Rattle.tx_seen.specs.declared.item.Item.TheVariants.{Took}
use Rattle.tx_seen.specs.declared.seen.Seen.{Seen}
use Rattle.tx_seen.specs.Readings.{Answers, next}
use Rattle.tx_scan.specs.declared.scans.QuantityScan.{QuantityScan}
use Rattle.tx_scan.specs.declared.scans.Sought.TheVariants as sought
use Rattle.tx_scan.specs.Mapped.{settled}
use Rattle.tx_scan.specs.QuantityRests as quantities
use Rattle.tx_scan.specs.Rests.{IsGivenBy}
use Rattle.tx_scan.specs.Supplied.{NeedsFewer, NeedsNoMore}
use Rattle.tx_scan.proofs.Answering.{same-answer}
use Rattle.tx_scan.proofs.Mappings.{fewer-settled, needs-settled, settled-answer, settled-given}
use Rattle.tx_cond.specs.declared.test.ComparandScan.{ComparandScan}
use Rattle.tx_cond.specs.declared.test.TestScan.{TestScan}
use Rattle.tx_cond.specs.declared.test.TestStage.TheVariants as stage
use Rattle.tx_cond.specs.Tests.{answer_of, answered, test}
use Rattle.tx_cond.specs.TestRests.{rest, held, more_needed, HasTaken, IsFed}

-- nothing is read of it
pub register-begun : (t : BoxTest) (mode : Mode) (scan : ComparandScan) (token : Option Seen) (new : TestScan) (answer : Fed ℤ) → new ≡ record { stage = stage.Register; scan = scan; quantity = quantities.begun_at_number (sought.Box t); token = token } → answer ≡ fed.More Expanded → Answers (test (kind.Box t) mode) (HasTaken (kind.Box t) mode) [] new answer
register-begun t mode scan token new answer is wanted = rw (is, wanted) (refl, λ item more. refl)

-- to a token
pub register-fed : (old : TestScan) (scan : QuantityScan) (t : Seen) (answer : Fed Value) → old.stage ≡ stage.Register → quantities.IsFed old.quantity t scan answer → IsFed old t (record old { quantity = scan }) (settled answer_of answer)
register-fed old scan t answer s k = λ behind.
    same-answer rest held 1 (λ more. rest old behind (Took t) more) (λ more. next (quantities.rest old.quantity behind (Took t) more) answered) t (record old { quantity = scan }) (settled answer_of answer)
    (λ more. rw s refl)
    (settled-answer quantities.rest quantities.held rest held answer_of 1 (λ more. quantities.rest old.quantity behind (Took t) more) t scan (record old { quantity = scan }) answer
    (λ behind item more. rw s refl) (rw s refl) (k behind))

-- and to a value
pub register-given : (old : TestScan) (scan : QuantityScan) (v : Value) (answer : Fed Value) → old.stage ≡ stage.Register → IsGivenBy quantities.rest quantities.held old.quantity v scan answer → IsGivenBy rest held old v (record old { quantity = scan }) (settled answer_of answer)
register-given old scan v answer s k =
    settled-given quantities.rest quantities.held rest held answer_of old.quantity scan old (record old { quantity = scan }) v answer
    (λ behind item more. rw s refl) (rw s refl) (λ behind item more. rw s refl) (rw s refl) k

-- and it needs as many values
pub register-needs : (old : TestScan) (scan : QuantityScan) (answer : Fed Value) → old.stage ≡ stage.Register → NeedsNoMore (quantities.more_needed old.quantity) (quantities.more_needed scan) answer → NeedsNoMore (more_needed old) (more_needed (record old { quantity = scan })) (settled answer_of answer)
register-needs old scan answer s k = rw s (needs-settled answer_of (quantities.more_needed old.quantity) (quantities.more_needed scan) answer k)

pub register-fewer : (old : TestScan) (scan : QuantityScan) (answer : Fed Value) → old.stage ≡ stage.Register → NeedsFewer (quantities.more_needed old.quantity) (quantities.more_needed scan) answer → NeedsFewer (more_needed old) (more_needed (record old { quantity = scan })) (settled answer_of answer)
register-fewer old scan answer s k = rw s (fewer-settled answer_of (quantities.more_needed old.quantity) (quantities.more_needed scan) answer k)
