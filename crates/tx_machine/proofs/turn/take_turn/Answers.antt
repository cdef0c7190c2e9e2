use Rattle.std.proofs.Common.{◌-◌, Result, Ok, Err, IfOk, OnOk, ap, ◌∙◌, sym, arith}
use Rattle.tx_machine.specs.Steps.{raised}
use Rattle.tx_machine.specs.Turn.{place_of}
use Rattle.tx_machine.proofs.Heeding.{heeded-made, heeded-seen, refused-counted, refused-made, refused-seen, turns-allowed}
use Rattle.tx_machine.proofs.turn.take_turn.Goals as goal

if-ok-both : {T E : Type 0} {P Q : T → Type 0} {R : Type 0} (r : Result T E) → ((t : T) → P t → R → Q t) → IfOk r P → OnOk r R → IfOk r Q
if-ok-both (Ok t) f p k = f t p k
if-ok-both (Err e) f p k = tt

on-ok : {T E : Type 0} {P : T → Type 0} {Q : Type 0} (r : Result T E) → ((t : T) → P t → Q) → IfOk r P → OnOk r Q
on-ok (Ok t) f p = f t p
on-ok (Err e) f p = tt

pub returns-then-spot-cost-clause-made : goal.returns-then-spot-cost-clause-made
returns-then-spot-cost-clause-made g c =
    refused-made g.M.Machine.formatter c.args.files.now (place_of g.M.Machine.meaning c.args.spot.now) _ (omega (arith, c.cost-cost.ensures, c.if-spot-cost.true))

pub returns-then-spot-cost-clause-seen : goal.returns-then-spot-cost-clause-seen
returns-then-spot-cost-clause-seen g c =
    refused-seen g.M.Machine.formatter c.args.files.now (place_of g.M.Machine.meaning c.args.spot.now) c.args.seen.now (omega (arith, c.cost-cost.ensures, c.if-spot-cost.true))

pub returns-then-spot-cost-clause-steps : goal.returns-then-spot-cost-clause-steps
returns-then-spot-cost-clause-steps g c =
    refused-counted g.M.Machine.formatter c.args.files.now (place_of g.M.Machine.meaning c.args.spot.now) c.args.steps.now (omega (arith, c.cost-cost.ensures, c.if-spot-cost.true))

pub returns-in_err-event-clause-steps : goal.returns-in_err-event-clause-steps
returns-in_err-event-clause-steps g c =
    c.turn.ensures.steps ∙ ap (raised c.args.steps.now) (sym (turns-allowed g.M.Machine.formatter c.args.files.now (place_of g.M.Machine.meaning c.args.spot.now) (omega (arith, c.cost-cost.ensures, c.if-spot-cost.false))))

pub returns-clause-made : goal.returns-clause-made
returns-clause-made g c = if-ok-both c.heed.result (λ close heeded kept.
    heeded-made g.M.Machine.formatter c.args.files.now (place_of g.M.Machine.meaning c.args.spot.now) (c.args.spot.now.left - c.cost-cost.result) (g.M.Machine.meaning c.turn.new.s) c.in_ok-event.event
    (omega (arith, c.cost-cost.ensures, c.if-spot-cost.false)) c.in_ok-event.ensures.event c.in_ok-event.ensures.state heeded (kept ∙ c.in_ok-event.ensures.pending)) c.heed.ensures.heeded c.heed.ensures.pending

pub returns-clause-seen : goal.returns-clause-seen
returns-clause-seen g c = on-ok c.heed.result (λ close heeded.
    heeded-seen g.M.Machine.formatter c.args.files.now (place_of g.M.Machine.meaning c.args.spot.now) (c.args.spot.now.left - c.cost-cost.result) (g.M.Machine.meaning c.turn.new.s) c.in_ok-event.event
    (omega (arith, c.cost-cost.ensures, c.if-spot-cost.false)) c.in_ok-event.ensures.event c.in_ok-event.ensures.state heeded) c.heed.ensures.heeded

pub returns-clause-steps : goal.returns-clause-steps
returns-clause-steps g c =
    c.turn.ensures.steps ∙ ap (raised c.args.steps.now) (sym (turns-allowed g.M.Machine.formatter c.args.files.now (place_of g.M.Machine.meaning c.args.spot.now) (omega (arith, c.cost-cost.ensures, c.if-spot-cost.false))))
