use Rattle.std.proofs.Common.{ℕ, Ok, refl}
use Rattle.tx_box.specs.Sources.{using}
use Rattle.tx_boxing.specs.Boxes.{moving_box, using_box}
use Rattle.tx_building.specs.Building.{built_in}
use Rattle.tx_state.specs.Meanings.{IsStepped, state_of}
use Rattle.tx_state.specs.Outcomes.{Outcome}
use Rattle.tx_state.proofs.Outcomes.{outcome-by}
use Rattle.tx_boxing.proofs.Settling.{settles}
use Rattle.tx_boxing.proofs.boxes.use_box.Goals as goal

pub returns : goal.returns
returns c =
    let moved : Outcome = moving_box (state_of c.args.s.now) c.args.number c.args.context in
    let did : IsStepped moved c.args.s.now c.in_ok-event.event c.carry.new.s =
    settles {E = ℕ} (λ target lists table. using target c.args.number lists table) c.args.context (state_of c.args.s.now) c.args.s.now c.settle.new.s c.carry.new.s c.in_ok-target.target c.use_register.new.lists c.use_register.new.table c.in_ok-done.done (Ok c.in_ok-event.event)
    refl refl c.in_ok-target.ensures.target c.in_ok-target.ensures.state c.in_ok-target.ensures.said c.in_ok-done.ensures c.in_ok-event.ensures in
    outcome-by (built_in c.register_context-behind.result moved) (using_box (state_of c.args.s.now) c.args.number c.args.context) c.args.s.now c.args.s.now c.build_in.new.s c.build_in.result
    (c.register_context-behind.ensures moved) refl (c.build_in.ensures c.args.s.now moved did)
