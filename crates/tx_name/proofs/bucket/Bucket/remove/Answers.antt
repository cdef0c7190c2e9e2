use Rattle.std.proofs.Common.{sym, ap, ◌∙◌, subst}
use Rattle.std.specs.FinMap.{get, remove}
use Rattle.tx_name.specs.Buckets.{IsRising, IsAt, IsGap, map_of}
use Rattle.tx_name.proofs.Places.{rising-taken, map-taken, find-gap, get-map_of, remove-absent}
use Rattle.tx_name.proofs.bucket.Bucket.remove.Goals as goal

pub invariant_of-self : goal.invariant_of-self
invariant_of-self g c =
    let is : IsAt c.self.inside.entries.items c.args.name.now c.in-Ok.place = subst (λ es. IsAt es c.args.name.now c.in-Ok.place) c.as_slice.ensures.value c.in-Ok.ensures.found in
    subst IsRising (sym c.remove-taken.ensures.items) (rising-taken c.self.inside.entries.items c.self.invariant c.args.name.now c.in-Ok.place is)

pub returns-in-Ok : goal.returns-in-Ok
returns-in-Ok g c =
    let is : IsAt c.self.inside.entries.items c.args.name.now c.in-Ok.place = subst (λ es. IsAt es c.args.name.now c.in-Ok.place) c.as_slice.ensures.value c.in-Ok.ensures.found in
    ap map_of c.remove-taken.ensures.items
    ∙ map-taken c.self.inside.entries.items c.self.invariant c.args.name.now c.in-Ok.place is
    ∙ ap (λ m. remove m c.args.name.now) c.self.view_is

pub returns-in_default : goal.returns-in_default
returns-in_default g c =
    let is : IsGap c.self.inside.entries.items c.args.name.now c.in_default.field-0 = subst (λ es. IsGap es c.args.name.now c.in_default.field-0) c.as_slice.ensures.value c.in_default.ensures.absent in
    sym (remove-absent c.args.self.now c.args.name.now
    (sym (ap (λ m. get m c.args.name.now) c.self.view_is) ∙ get-map_of c.self.inside.entries.items c.self.invariant c.args.name.now ∙ find-gap c.self.inside.entries.items c.args.name.now c.in_default.field-0 is))
