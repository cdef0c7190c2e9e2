use Rattle.std.proofs.Common.{◌≡◌, ◌≤◌, ◌+◌, ◌∙◌, pos, length, Some, sym, ap, to_z-of_z, arith, Ok, ℤ, w64, of_z, to_z}
use Rattle.std.specs.Prelude.{neg_ℤ}
use Rattle.tx_insert.specs.declared.trial.Trial.{Trial}
use Rattle.tx_insert.specs.Breaks.{with_place}
use Rattle.tx_insert.proofs.Searching.{search_from}
use Rattle.tx_insert.proofs.Parts.{same-error}
use Rattle.tx_insert.proofs.Places.{IsTried, kinds_from, tried-at, node-goes-on, node-fails, node-is-over, list-ends, from-start}
use Rattle.tx_insert.proofs.breaking.found.Goals as goal

pub loop-place-preserved : goal.loop-place-preserved
loop-place-preserved c =
    let height : ℤ = to_z w64 (of_z w64 c.args.goal) in
    let most : ℤ = to_z w64 (of_z w64 c.args.maxdepth) in
    let t : IsTried height c.loop-place.best c.loop-place.place c.loop-place.after_solid c.loop-place.sums c.args.list.now c.kind_of-kind.result c.with_place-tried.result =
    tried-at height c.loop-place.best c.loop-place.place c.loop-place.after_solid c.loop-place.sums c.args.list.now
    c.index-list-place.result c.kind_of-kind.result c.begins_with_glue-before_glue.result c.penalty_at-penalty.result c.with_place-tried.result
    c.loop-place-test.true c.index-list-place.is c.kind_of-kind.ensures c.begins_with_glue-before_glue.ensures c.penalty_at-penalty.ensures c.with_place-tried.ensures.value in
    record {
      rest = ap (λ b. search_from height most c.with_place-tried.result.made (c.loop-place.place + 1) b c.in_ok-sums.sums (kinds_from c.args.list.now (c.loop-place.place + 1))) c.stays-after_solid.ensures
          ∙ sym (node-goes-on most t c.if-tried.false (sym c.in_ok-sums.ensures.value)) ∙ c.loop-place.invariant.rest;
      small = c.in_ok-sums.ensures.small;
      within = omega (arith, c.with_place-tried.ensures.within);
    }

pub returns-then-tried-clause-value : goal.returns-then-tried-clause-value
returns-then-tried-clause-value c =
    let height : ℤ = to_z w64 (of_z w64 c.args.goal) in
    let most : ℤ = to_z w64 (of_z w64 c.args.maxdepth) in
    let t : IsTried height c.loop-place.best c.loop-place.place c.loop-place.after_solid c.loop-place.sums c.args.list.now c.kind_of-kind.result c.with_place-tried.result =
    tried-at height c.loop-place.best c.loop-place.place c.loop-place.after_solid c.loop-place.sums c.args.list.now
    c.index-list-place.result c.kind_of-kind.result c.begins_with_glue-before_glue.result c.penalty_at-penalty.result c.with_place-tried.result
    c.loop-place-test.true c.index-list-place.is c.kind_of-kind.ensures c.begins_with_glue-before_glue.ensures c.penalty_at-penalty.ensures c.with_place-tried.ensures.value in
    sym (node-is-over most t c.if-tried.true) ∙ c.loop-place.invariant.rest
    ∙ from-start height c.args.goal most c.args.maxdepth c.args.list.now (to_z-of_z c.ranges.goal) (to_z-of_z c.ranges.maxdepth)

pub returns-in_err-sums-clause-value : goal.returns-in_err-sums-clause-value
returns-in_err-sums-clause-value c =
    let height : ℤ = to_z w64 (of_z w64 c.args.goal) in
    let most : ℤ = to_z w64 (of_z w64 c.args.maxdepth) in
    let t : IsTried height c.loop-place.best c.loop-place.place c.loop-place.after_solid c.loop-place.sums c.args.list.now c.kind_of-kind.result c.with_place-tried.result =
    tried-at height c.loop-place.best c.loop-place.place c.loop-place.after_solid c.loop-place.sums c.args.list.now
    c.index-list-place.result c.kind_of-kind.result c.begins_with_glue-before_glue.result c.penalty_at-penalty.result c.with_place-tried.result
    c.loop-place-test.true c.index-list-place.is c.kind_of-kind.ensures c.begins_with_glue-before_glue.ensures c.penalty_at-penalty.ensures c.with_place-tried.ensures.value in
    same-error c.from_residual.result c.in_err-sums.field-0.0 c.from_residual.ensures.1
    ∙ sym (node-fails most t c.if-tried.false (sym c.in_err-sums.ensures.value))
    ∙ c.loop-place.invariant.rest
    ∙ from-start height c.args.goal most c.args.maxdepth c.args.list.now (to_z-of_z c.ranges.goal) (to_z-of_z c.ranges.maxdepth)

pub returns-clause-value : goal.returns-clause-value
returns-clause-value c =
    let height : ℤ = to_z w64 (of_z w64 c.args.goal) in
    let most : ℤ = to_z w64 (of_z w64 c.args.maxdepth) in
    let best = c.loop-place.best in
    let sums = c.loop-place.sums in
    let over : length c.args.list.now ≤ c.loop-place.place = c.loop-place-test.false in
    let at_end : length c.args.list.now ≡ c.loop-place.place = omega (arith, c.loop-place.auto.place-end) in
    ap (λ (made : Trial). Ok made.made) (c.with_place-end.ensures.value ∙ ap (λ n. with_place best height n (Some (neg_ℤ (pos 10000))) sums) at_end)
    ∙ sym (list-ends height most best c.loop-place.place c.loop-place.after_solid sums c.args.list.now over)
    ∙ c.loop-place.invariant.rest
    ∙ from-start height c.args.goal most c.args.maxdepth c.args.list.now (to_z-of_z c.ranges.goal) (to_z-of_z c.ranges.maxdepth)
