-- What begins glue: its signs, internal glue, or the width.
use Rattle.std.proofs.Common.{◌≡◌, ◌≤◌, ℕ, Bool, true, false, List, [], ◌∷◌, Result, Ok, Err, IfOk, refl, ap, arith}
use Rattle.tx_num.specs.Glue.{GlueSpec}
use Rattle.tx_prim.specs.declared.family.Numbered.{Numbered}
use Rattle.tx_seen.specs.declared.error.TexError.{TexError}
use Rattle.tx_seen.specs.declared.fed.Fed.{Fed}
use Rattle.tx_seen.specs.declared.fed.Fed.TheVariants as fed
use Rattle.tx_seen.specs.declared.fed.Kind.{Kind}
use Rattle.tx_seen.specs.declared.fed.Kind.TheVariants.{Quantity}
use Rattle.tx_seen.specs.declared.fed.Value.{Value}
use Rattle.tx_seen.specs.declared.fed.Want.TheVariants.{Expanded}
use Rattle.tx_seen.specs.declared.item.Item.{Item}
use Rattle.tx_seen.specs.declared.item.Item.TheVariants.{Took}
use Rattle.tx_seen.specs.declared.place.Place.{Place}
use Rattle.tx_seen.specs.declared.seen.Seen.{Seen}
use Rattle.tx_seen.specs.Places.{place_of}
use Rattle.tx_seen.specs.Readings.{Reading}
use Rattle.tx_scan.specs.declared.scans.Beginning.{Beginning}
use Rattle.tx_scan.specs.declared.scans.Beginning.TheVariants as begin
use Rattle.tx_scan.specs.declared.scans.GluePart.TheVariants as part
use Rattle.tx_scan.specs.declared.scans.GlueScan.{GlueScan}
use Rattle.tx_scan.specs.declared.scans.GlueStage.TheVariants as stage
use Rattle.tx_scan.specs.declared.scans.QuantityScan.{QuantityScan}
use Rattle.tx_scan.specs.declared.scans.Sought.TheVariants as sought
use Rattle.tx_scan.specs.Beginnings.{beginning}
use Rattle.tx_scan.specs.DimensionRests as sizes
use Rattle.tx_scan.specs.Glues.{glue_begun, glue_signs, internal, is_elastic, told_glue, widths}
use Rattle.tx_scan.specs.GlueRests.{rest, held, more_needed, IsBegun, IsSizing, IsWaiting}
use Rattle.tx_scan.specs.Mapped.{fed_if, settled}
use Rattle.tx_scan.specs.QuantityRests as quantities
use Rattle.tx_scan.specs.Rests.{IsRead, IsFedBy, IsGivenBehind, IsGivenBy}
use Rattle.tx_scan.specs.Supplied.{NeedsFewer, NeedsNoMore}
use Rattle.tx_scan.proofs.Behind.{given-behind}
use Rattle.tx_scan.proofs.Mappings.{fed-first, same-read, settled-fed, settled-given, needs-settled, fewer-settled}

-- a sign, or what begins the glue
pub sign-begins : {E : Type 0} (old new : GlueScan) (negative : Bool) (t : Seen) (begun : Beginning) (answer : Result (Fed GlueSpec) E) → old.stage ≡ stage.Signs negative → beginning t ≡ begun → IfOk answer (IsBegun old.mu negative t begun new) → IfOk answer (IsFedBy rest held old t new)
sign-begins old new negative t begun (Ok answer) s b k =
    fed-first rest held old t new answer (rw s refl)
    (same-read rest held 1 (λ more. rest old [] (Took t) more) (λ more. glue_begun old.mu negative (λ sign. glue_signs old.mu sign more) (Took t ∷ more) more begun) (Took t ∷ []) new answer
    (λ more. rw s (ap (λ g. glue_begun old.mu negative (λ sign. glue_signs old.mu sign more) (Took t ∷ more) more g) b)) k)
sign-begins old new negative t begun (Err error) s b k = tt

pub signed-on : (old new : GlueScan) (negative sign : Bool) (t : Seen) (answer : Fed GlueSpec) → old.stage ≡ stage.Signs negative → ((on : Bool → Reading GlueSpec) (items rest : List Item) → glue_begun old.mu negative on items rest (beginning t) ≡ on sign) → new ≡ record old { stage = stage.Signs sign } → answer ≡ fed.More Expanded → IsFedBy rest held old t new answer
signed-on old new negative sign t answer s same n e =
    fed-first rest held old t new answer (rw s refl)
    (same-read rest held 1 (λ more. rest old [] (Took t) more) (λ more. glue_signs old.mu sign more) (Took t ∷ []) new answer
    (λ more. rw s (same (λ sign. glue_signs old.mu sign more) (Took t ∷ more) more))
    (rw (n, e) (refl, omega arith, λ item more. refl)))

-- internal glue
pub glue-at : (old new : GlueScan) (negative : Bool) (place : Place) (t : Seen) (answer : Fed GlueSpec) → is_elastic place ≡ true → new ≡ record old { stage = stage.Quantity negative; size = record old.size { quantity = quantities.begun_quantity } } → answer ≡ fed.Need (Quantity place) → IsBegun old.mu negative t (begin.At place) new answer
glue-at old new negative place t answer b n e = rw (n, e, b) (refl, omega arith, λ item more. refl)

pub glue-behind : (old new : GlueScan) (negative : Bool) (kind : Numbered) (t : Seen) (answer : Fed GlueSpec) → is_elastic (place_of kind 0) ≡ true → new ≡ record old { stage = stage.Quantity negative; size = record old.size { quantity = quantities.begun_at_number (sought.Numbered kind) } } → answer ≡ fed.More Expanded → IsBegun old.mu negative t (begin.Numbered kind) new answer
glue-behind old new negative kind t answer b n e = rw (n, e, b) (refl, omega arith, λ item more. refl)

-- the width
pub width-begins : {E : Type 0} (old mid new : GlueScan) (negative : Bool) (t : Seen) (answer : Result (Fed GlueSpec) E) → mid ≡ record old { stage = stage.Size part.Width; size = sizes.begun_size_behind negative (widths old.mu) } → IfOk answer (IsFedBy rest held mid t new) → IfOk answer (IsRead rest held 1 (λ more. told_glue old.mu negative (Took t ∷ more)) (Took t ∷ []) new)
width-begins old mid new negative t (Ok answer) e k = (rw e at k) [] (omega arith)
width-begins old mid new negative t (Err error) e k = tt

pub width-needs : {E : Type 0} (old mid new : GlueScan) (negative : Bool) (answer : Result (Fed GlueSpec) E) → mid ≡ record old { stage = stage.Size part.Width; size = sizes.begun_size_behind negative (widths old.mu) } → IfOk answer (NeedsNoMore (more_needed mid) (more_needed new)) → IfOk answer (NeedsNoMore 0 (more_needed new))
width-needs old mid new negative (Ok answer) e k = rw e at k
width-needs old mid new negative (Err error) e k = tt

pub width-at : {E : Type 0} (old new : GlueScan) (negative : Bool) (place : Place) (t : Seen) (answer : Result (Fed GlueSpec) E) → is_elastic place ≡ false → IfOk answer (IsRead rest held 1 (λ more. told_glue old.mu negative (Took t ∷ more)) (Took t ∷ []) new) → IfOk answer (IsBegun old.mu negative t (begin.At place) new)
width-at old new negative place t (Ok answer) b k = rw b k
width-at old new negative place t (Err error) b k = tt

pub width-behind : {E : Type 0} (old new : GlueScan) (negative : Bool) (kind : Numbered) (t : Seen) (answer : Result (Fed GlueSpec) E) → is_elastic (place_of kind 0) ≡ false → IfOk answer (IsRead rest held 1 (λ more. told_glue old.mu negative (Took t ∷ more)) (Took t ∷ []) new) → IfOk answer (IsBegun old.mu negative t (begin.Numbered kind) new)
width-behind old new negative kind t (Ok answer) b k = rw b k
width-behind old new negative kind t (Err error) b k = tt

-- internal glue goes on
abbrev now_with : GlueScan → QuantityScan → GlueScan
now_with old scan = record old { size = record old.size { quantity = scan } }

pub internal-fed : (old : GlueScan) (scan : QuantityScan) (negative : Bool) (t : Seen) (told : Fed Value) (answer : Fed GlueSpec) → old.stage ≡ stage.Quantity negative → IsFedBy quantities.rest quantities.held old.size.quantity t scan told → answer ≡ settled (internal old.mu negative) told → IsFedBy rest held old t (now_with old scan) answer
internal-fed old scan negative t told answer s k e =
    rw e (settled-fed quantities.rest quantities.held rest held (internal old.mu negative) old.size.quantity scan old (now_with old scan) t told (λ behind item more. rw s refl) (rw s refl) (λ behind item more. rw s refl) (rw s refl) k)

pub internal-needs : (old : GlueScan) (scan : QuantityScan) (negative : Bool) (told : Fed Value) (answer : Fed GlueSpec) → old.stage ≡ stage.Quantity negative → NeedsNoMore (quantities.more_needed old.size.quantity) (quantities.more_needed scan) told → answer ≡ settled (internal old.mu negative) told → NeedsNoMore (more_needed old) (more_needed (now_with old scan)) answer
internal-needs old scan negative told answer s k e = rw (e, s) (needs-settled (internal old.mu negative) (quantities.more_needed old.size.quantity) (quantities.more_needed scan) told k)

if-waits : (new : GlueScan) (made : Result GlueSpec TexError) (back : ℕ) → IsWaiting new (fed_if made back)
if-waits new (Ok g) back = tt
if-waits new (Err error) back = tt

settled-waits : (new : GlueScan) (f : Value → Result GlueSpec TexError) (told : Fed Value) → ((kind : Kind) → told ≡ fed.Need kind → IsSizing new.stage × (held new ≤ 1)) → IsWaiting new (settled f told)
settled-waits new f (fed.More want) k = tt
settled-waits new f (fed.Need kind) k = k kind refl
settled-waits new f (fed.Done value back) k = if-waits new (f value) back
settled-waits new f (fed.Wrong error) k = tt

pub internal-waits : (old : GlueScan) (scan : QuantityScan) (negative : Bool) (t : Seen) (told : Fed Value) (answer : Fed GlueSpec) → old.stage ≡ stage.Quantity negative → quantities.IsFed old.size.quantity t scan told → answer ≡ settled (internal old.mu negative) told → IsWaiting (now_with old scan) answer
internal-waits old scan negative t told answer s k e =
    rw e (settled-waits (now_with old scan) (internal old.mu negative) told (λ kind is. rw s (tt, ((rw is at k) []).1)))

-- its value
pub internal-given : (old : GlueScan) (scan : QuantityScan) (negative : Bool) (v : Value) (t : Seen) (told : Fed Value) (answer : Fed GlueSpec) → old.stage ≡ stage.Quantity negative → held old ≤ 1 → IsGivenBy quantities.rest quantities.held old.size.quantity v scan told → answer ≡ settled (internal old.mu negative) told → IsGivenBehind rest held old v t (now_with old scan) answer
internal-given old scan negative v t told answer s few k e =
    rw e (given-behind rest held old (now_with old scan) v t (settled (internal old.mu negative) told) few
    (settled-given quantities.rest quantities.held rest held (internal old.mu negative) old.size.quantity scan old (now_with old scan) v told (λ behind item more. rw s refl) (rw s refl) (λ behind item more. rw s refl) (rw s refl) k))

pub internal-fewer : (old : GlueScan) (scan : QuantityScan) (negative : Bool) (told : Fed Value) (answer : Fed GlueSpec) → old.stage ≡ stage.Quantity negative → NeedsFewer (quantities.more_needed old.size.quantity) (quantities.more_needed scan) told → answer ≡ settled (internal old.mu negative) told → NeedsFewer (more_needed old) (more_needed (now_with old scan)) answer
internal-fewer old scan negative told answer s k e = rw (e, s) (fewer-settled (internal old.mu negative) (quantities.more_needed old.size.quantity) (quantities.more_needed scan) told k)

pub given-internal-waits : (old : GlueScan) (scan : QuantityScan) (negative : Bool) (v : Value) (told : Fed Value) (answer : Fed GlueSpec) → old.stage ≡ stage.Quantity negative → held old ≤ 1 → IsGivenBy quantities.rest quantities.held old.size.quantity v scan told → answer ≡ settled (internal old.mu negative) told → IsWaiting (now_with old scan) answer
given-internal-waits old scan negative v told answer s few k e =
    let short : quantities.held old.size.quantity ≤ 1 = rw s at few in
    rw e (settled-waits (now_with old scan) (internal old.mu negative) told (λ kind is.
    let same : quantities.held scan ≡ quantities.held old.size.quantity = ((rw is at k) [] (omega arith)).1 in
    rw s (tt, omega (arith, short, same))))
