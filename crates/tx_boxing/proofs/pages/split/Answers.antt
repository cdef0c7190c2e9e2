use Rattle.std.proofs.Common.{◌≡◌, ℕ, ℤ, List, Ok, rules, to_z, of_z, w32, refl, ap, sym, ◌∙◌}
use Rattle.tx_box.specs.Building.{Ended, reported}
use Rattle.tx_box.specs.Effects.{told}
use Rattle.tx_boxing.specs.Pages.{splitting_box, splitting_off}
use Rattle.tx_building.specs.Building.{built_in}
use Rattle.tx_makeup.specs.Splitting.{splitting}
use Rattle.tx_state.specs.Meanings.{IsStepped, state_of}
use Rattle.tx_state.specs.Outcomes.{Outcome}
use Rattle.tx_state.proofs.Outcomes.{outcome-by}
use Rattle.tx_boxing.proofs.Settling.{settles-boxed}
use Rattle.tx_boxing.proofs.pages.split.Goals as goal

pub returns : goal.returns
returns c =
    let same : to_z w32 (of_z w32 c.args.size) ≡ c.args.size = search rules in
    let moved : Outcome = splitting_box (state_of c.args.s.now) c.args.number c.args.size c.args.context in
    let is : splitting c.in_ok-target.target c.args.number c.args.size c.settle.new.s.lists c.settle.new.s.table ≡ reported c.as_slice.result.now (told c.in_ok-ended.ended.done c.split.new.lists c.split.new.table) =
    (rw same at c.in_ok-ended.ensures) ∙ ap (λ (report : List ℕ). reported report (told c.in_ok-ended.ended.done c.split.new.lists c.split.new.table)) (sym c.as_slice.ensures) in
    let did : IsStepped moved c.args.s.now c.in_ok-event.event c.carry.new.s =
    settles-boxed {E = ℕ} (λ target lists table. splitting target c.args.number c.args.size lists table) c.args.context (state_of c.args.s.now) c.args.s.now c.settle.new.s c.carry.new.s c.in_ok-target.target c.split.new.lists c.split.new.table c.as_slice.result.now c.in_ok-ended.ended.done (Ok c.in_ok-event.event)
    refl refl c.in_ok-target.ensures.target c.in_ok-target.ensures.state c.in_ok-target.ensures.said is c.in_ok-event.ensures in
    outcome-by (built_in c.register_context-behind.result moved) (splitting_off (state_of c.args.s.now) c.args.number c.args.size c.args.context) c.args.s.now c.args.s.now c.build_in.new.s c.build_in.result
    (c.register_context-behind.ensures moved) refl (c.build_in.ensures c.args.s.now moved did)
