use Rattle.std.proofs.Common.{sym, ap, ◌∙◌, subst}
use Rattle.std.specs.FinMap.{insert}
use Rattle.std.specs.Prelude.{slice_set}
use Rattle.tx_name.specs.Buckets.{IsRising, IsAt, IsGap, map_of}
use Rattle.tx_name.proofs.Places.{rising-written, map-written, rising-put, map-put}
use Rattle.tx_name.proofs.bucket.Bucket.insert.Goals as goal

pub invariant_of-self : goal.invariant_of-self
invariant_of-self g c =
    let is : IsAt c.self.inside.entries.items c.args.name c.in-Ok.place = subst (λ name. IsAt c.self.inside.entries.items name c.in-Ok.place) c.as_slice-2.ensures (subst (λ es. IsAt es c.as_slice-2.result.now c.in-Ok.place) c.as_slice.ensures.value c.in-Ok.ensures.found) in
    subst (λ e. IsRising (slice_set c.self.inside.entries.items c.in-Ok.place (e.0, c.args.value))) (sym c.index_mut.ensures.value) (rising-written c.self.inside.entries.items c.self.invariant c.args.name c.args.value c.in-Ok.place c.index_mut.result.now is)

pub returns-in-Ok-clause-ok : goal.returns-in-Ok-clause-ok
returns-in-Ok-clause-ok g c =
    let is : IsAt c.self.inside.entries.items c.args.name c.in-Ok.place = subst (λ name. IsAt c.self.inside.entries.items name c.in-Ok.place) c.as_slice-2.ensures (subst (λ es. IsAt es c.as_slice-2.result.now c.in-Ok.place) c.as_slice.ensures.value c.in-Ok.ensures.found) in
    ap (λ e. map_of (slice_set c.self.inside.entries.items c.in-Ok.place (e.0, c.args.value))) c.index_mut.ensures.value
    ∙ map-written c.self.inside.entries.items c.self.invariant c.args.name c.args.value c.in-Ok.place c.index_mut.result.now is
    ∙ ap (λ m. insert m c.args.name c.args.value) c.self.view_is

pub invariant_of-self-in-Err : goal.invariant_of-self-in-Err
invariant_of-self-in-Err g c =
    let is : IsGap c.self.inside.entries.items c.args.name c.in-Err.place = subst (λ name. IsGap c.self.inside.entries.items name c.in-Err.place) c.as_slice-2.ensures (subst (λ es. IsGap es c.as_slice-2.result.now c.in-Err.place) c.as_slice.ensures.value c.in-Err.ensures.absent) in
    subst IsRising (sym c.in_ok-insert-in-Err.ensures.items) (rising-put c.self.inside.entries.items c.self.invariant c.args.name c.args.value c.in-Err.place is)

pub returns-in_ok-insert-in-Err-clause-ok : goal.returns-in_ok-insert-in-Err-clause-ok
returns-in_ok-insert-in-Err-clause-ok g c =
    let is : IsGap c.self.inside.entries.items c.args.name c.in-Err.place = subst (λ name. IsGap c.self.inside.entries.items name c.in-Err.place) c.as_slice-2.ensures (subst (λ es. IsGap es c.as_slice-2.result.now c.in-Err.place) c.as_slice.ensures.value c.in-Err.ensures.absent) in
    ap map_of c.in_ok-insert-in-Err.ensures.items
    ∙ map-put c.self.inside.entries.items c.self.invariant c.args.name c.args.value c.in-Err.place is
    ∙ ap (λ m. insert m c.args.name c.args.value) c.self.view_is
