-- What an expansion reads is read as the scan of it says.
use Rattle.std.proofs.Common.{◌≡◌, Result, Ok, Err, IfOk, [], ◌∷◌, refl, lit≤}
use Rattle.tx_prim.specs.declared.family.Numbered.{Numbered}
use Rattle.tx_seen.specs.declared.fed.Fed.{Fed}
use Rattle.tx_seen.specs.declared.fed.Fed.TheVariants as fed
use Rattle.tx_seen.specs.declared.fed.Kind.TheVariants.{Quantity}
use Rattle.tx_seen.specs.declared.fed.Value.{Value}
use Rattle.tx_seen.specs.declared.fed.Want.TheVariants.{Expanded}
use Rattle.tx_seen.specs.declared.item.Item.TheVariants.{Took}
use Rattle.tx_seen.specs.declared.place.Place.{Place}
use Rattle.tx_seen.specs.declared.seen.Seen.{Seen}
use Rattle.tx_scan.specs.declared.scans.Beginning.{Beginning}
use Rattle.tx_scan.specs.declared.scans.Beginning.TheVariants as begin
use Rattle.tx_scan.specs.declared.scans.QuantityScan.{QuantityScan}
use Rattle.tx_scan.specs.declared.scans.Sought.TheVariants as sought
use Rattle.tx_scan.specs.Mapped.{settled}
use Rattle.tx_scan.specs.QuantityRests as quantities
use Rattle.tx_scan.specs.Rests.{IsFedBy, IsGivenBy, IsRead}
use Rattle.tx_scan.specs.Supplied.{NeedsFewer, NeedsNoMore}
use Rattle.tx_expand.specs.declared.part.Part.{Part}
use Rattle.tx_expand.specs.declared.part.Part.TheVariants as part
use Rattle.tx_expand.specs.declared.types.Destination.{Destination}
use Rattle.tx_expand.specs.declared.types.Made.{Made}
use Rattle.tx_expand.specs.Parts.{held, more_needed, rest}
use Rattle.tx_expand.specs.Scans.{quantity, the, value_shown}
use Rattle.tx_scan.proofs.Mappings.{fed-first, fewer-settled, needs-settled, settled-fed, settled-given}

-- a quantity that stands at a place
pub place-read : {E : Type 0} (to : Destination) (place : Place) (b : Beginning) (t : Seen) (scan : QuantityScan) (begun : Fed Value) (answer : Result (Fed Made) E) → b ≡ begin.At place → scan ≡ quantities.begun_quantity → begun ≡ fed.Need (Quantity place) → IfOk answer (λ of. of ≡ settled (value_shown to) begun) → IfOk answer (IsRead rest held 1 (λ more. quantity to b more) (Took t ∷ []) (part.Shown scan to))
place-read to place b t scan begun (Ok of) at first needed is = rw (is, needed, at, first) (refl, lit≤ tt, λ item more. refl)
place-read to place b t scan begun (Err e) at first needed is = tt

-- and one at the number that follows
pub numbered-read : {E : Type 0} (to : Destination) (kind : Numbered) (b : Beginning) (t : Seen) (scan : QuantityScan) (begun : Fed Value) (answer : Result (Fed Made) E) → b ≡ begin.Numbered kind → scan ≡ quantities.begun_at_number (sought.Numbered kind) → begun ≡ fed.More Expanded → IfOk answer (λ of. of ≡ settled (value_shown to) begun) → IfOk answer (IsRead rest held 1 (λ more. quantity to b more) (Took t ∷ []) (part.Shown scan to))
numbered-read to kind b t scan begun (Ok of) at first wanted is = rw (is, wanted, at, first) (refl, lit≤ tt, λ item more. refl)
numbered-read to kind b t scan begun (Err e) at first wanted is = tt

-- one more token or value of it
pub shown-fed : {E : Type 0} (to : Destination) (t : Seen) (before : Part) (old new : QuantityScan) (fed : Fed Value) (answer : Result (Fed Made) E) → before ≡ part.Shown old to → IsFedBy quantities.rest quantities.held old t new fed → IfOk answer (λ of. of ≡ settled (value_shown to) fed) → IfOk answer (IsFedBy rest held before t (part.Shown new to))
shown-fed to t before old new fed (Ok of) was k is =
    rw (was, is) (settled-fed quantities.rest quantities.held rest held (value_shown to) old new (part.Shown old to) (part.Shown new to) t fed (λ behind item more. refl) refl (λ behind item more. refl) refl k)
shown-fed to t before old new fed (Err e) was k is = tt

pub shown-given : {E : Type 0} (to : Destination) (v : Value) (before : Part) (old new : QuantityScan) (fed : Fed Value) (answer : Result (Fed Made) E) → before ≡ part.Shown old to → IsGivenBy quantities.rest quantities.held old v new fed → IfOk answer (λ of. of ≡ settled (value_shown to) fed) → IfOk answer (IsGivenBy rest held before v (part.Shown new to))
shown-given to v before old new fed (Ok of) was k is =
    rw (was, is) (settled-given quantities.rest quantities.held rest held (value_shown to) old new (part.Shown old to) (part.Shown new to) v fed (λ behind item more. refl) refl (λ behind item more. refl) refl k)
shown-given to v before old new fed (Err e) was k is = tt

-- it needs as many values
pub shown-needs : {E : Type 0} (to : Destination) (before : Part) (old new : QuantityScan) (fed : Fed Value) (answer : Result (Fed Made) E) → before ≡ part.Shown old to → NeedsNoMore (quantities.more_needed old) (quantities.more_needed new) fed → IfOk answer (λ of. of ≡ settled (value_shown to) fed) → IfOk answer (NeedsNoMore (more_needed before) (more_needed (part.Shown new to)))
shown-needs to before old new fed (Ok of) was n is = rw (was, is) (needs-settled (value_shown to) (quantities.more_needed old) (quantities.more_needed new) fed n)
shown-needs to before old new fed (Err e) was n is = tt

pub shown-fewer : {E : Type 0} (to : Destination) (before : Part) (old new : QuantityScan) (fed : Fed Value) (answer : Result (Fed Made) E) → before ≡ part.Shown old to → NeedsFewer (quantities.more_needed old) (quantities.more_needed new) fed → IfOk answer (λ of. of ≡ settled (value_shown to) fed) → IfOk answer (NeedsFewer (more_needed before) (more_needed (part.Shown new to)))
shown-fewer to before old new fed (Ok of) was n is = rw (was, is) (fewer-settled (value_shown to) (quantities.more_needed old) (quantities.more_needed new) fed n)
shown-fewer to before old new fed (Err e) was n is = tt

-- a scan of which nothing is read holds nothing
pub quantity-first : {E : Type 0} (to : Destination) (t : Seen) (old new : Part) (answer : Result (Fed Made) E) → old ≡ part.Quantity to → IfOk answer (IsRead rest held 1 (λ more. the to (Took t ∷ more)) (Took t ∷ []) new) → IfOk answer (IsFedBy rest held old t new)
quantity-first to t old new (Ok of) is k = rw is (fed-first rest held (part.Quantity to) t new of refl k)
quantity-first to t old new (Err e) is k = tt
