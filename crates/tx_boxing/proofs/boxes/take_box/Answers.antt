use Rattle.std.proofs.Common.{◌≡◌, ℕ, Bool, Ok, refl, ap, ◌∙◌}
use Rattle.std.specs.Prelude.{is_some}
use Rattle.tx_box.specs.Sources.{taking_last}
use Rattle.tx_boxing.specs.Boxes.{moving_last, taking_box}
use Rattle.tx_building.specs.Building.{built_if, built_in}
use Rattle.tx_nest.specs.declared.list.ModeList.{ModeList}
use Rattle.tx_nest.specs.Lasts.{last_box}
use Rattle.tx_state.specs.Meanings.{IsStepped, state_of}
use Rattle.tx_state.specs.Outcomes.{Outcome}
use Rattle.tx_state.proofs.Outcomes.{outcome-by}
use Rattle.tx_boxing.proofs.Settling.{settles}
use Rattle.tx_boxing.proofs.boxes.take_box.Goals as goal

pub returns : goal.returns
returns c =
    let moved : Outcome = moving_last (state_of c.args.s.now) c.args.context in
    let did : IsStepped moved c.args.s.now c.in_ok-event.event c.carry.new.s =
    settles {E = ℕ} (λ target lists table. taking_last target lists table) c.args.context (state_of c.args.s.now) c.args.s.now c.settle.new.s c.carry.new.s c.in_ok-target.target c.take_last.new.lists c.take_last.new.table c.in_ok-done.done (Ok c.in_ok-event.event)
    refl refl c.in_ok-target.ensures.target c.in_ok-target.ensures.state c.in_ok-target.ensures.said c.in_ok-done.ensures c.in_ok-event.ensures in
    let found : c.has_last_box.result ≡ is_some (last_box c.args.s.now.lists.nest.innermost.nodes) =
    c.has_last_box.ensures ∙ ap (λ (list : ModeList). is_some (last_box list.nodes)) c.innermost.ensures in
    outcome-by (built_in c.context_if-behind.result moved) (taking_box (state_of c.args.s.now) c.args.context) c.args.s.now c.args.s.now c.build_in.new.s c.build_in.result
    (c.context_if-behind.ensures moved ∙ ap (λ (is_found : Bool). built_if is_found c.args.context moved) found) refl (c.build_in.ensures c.args.s.now moved did)
