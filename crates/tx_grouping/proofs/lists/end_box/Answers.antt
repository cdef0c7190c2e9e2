use Rattle.std.proofs.Common.{◌≡◌, ℕ, List, Ok, rules, to_z, of_z, w64, ap, sym, ◌∙◌}
use Rattle.tx_box.specs.Building.{ending, reported}
use Rattle.tx_box.specs.Effects.{told}
use Rattle.tx_grouping.specs.ListEnds.{packing_box}
use Rattle.tx_state.specs.Meanings.{IsStepped, state_of}
use Rattle.tx_grouping.proofs.Ends.{ends}
use Rattle.tx_grouping.proofs.lists.end_box.Goals as goal

pub returns : goal.returns
returns c =
    let same : to_z w64 (of_z w64 c.greatest_depth-most.result) ≡ c.greatest_depth-most.result = search rules in
    let is : ending c.greatest_depth-most.result c.leave_group.new.s.lists c.leave_group.new.s.table ≡ reported c.as_slice.result.now (told c.in_ok-ended.ended.done c.end_box.new.lists c.end_box.new.table) =
    (rw same at c.in_ok-ended.ensures) ∙ ap (λ (report : List ℕ). reported report (told c.in_ok-ended.ended.done c.end_box.new.lists c.end_box.new.table)) (sym c.as_slice.ensures) in
    let packed : IsStepped (packing_box (state_of c.args.s.now)) c.args.s.now c.in_ok-event.event c.carry.new.s =
    ends {E = ℕ} c.args.s.now c.leave_group.new.s c.carry.new.s c.greatest_depth-most.result c.end_box.new.lists c.end_box.new.table c.as_slice.result.now c.in_ok-ended.ended.done (Ok c.in_ok-event.event)
    c.greatest_depth-most.ensures c.in_ok-leave_group.ensures.state c.in_ok-leave_group.ensures.said is c.in_ok-event.ensures in
    rw c.context_of-context.ensures at (c.build_in.ensures c.args.s.now (packing_box (state_of c.args.s.now)) packed)
