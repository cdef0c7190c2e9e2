use Rattle.std.proofs.Common.{ℕ, Ok}
use Rattle.tx_grouping.specs.ListEnds.{packing_insert}
use Rattle.tx_state.specs.Meanings.{IsStepped, state_of}
use Rattle.tx_grouping.proofs.Ends.{inserts}
use Rattle.tx_grouping.proofs.lists.finish_insert.Goals as goal

pub returns : goal.returns
returns c =
    let packed : IsStepped (packing_insert (state_of c.args.s.now) c.args.class) c.args.s.now c.in_ok-event.event c.carry.new.s =
    inserts {E = ℕ} c.args.class c.args.s.now c.leave_group.new.s c.carry.new.s c.insert_params-params.result c.end_insert.new.lists c.in_ok-done.done (Ok c.in_ok-event.event)
    c.insert_params-params.ensures c.in_ok-leave_group.ensures.state c.in_ok-leave_group.ensures.said c.in_ok-done.ensures c.in_ok-event.ensures in
    c.build_behind.ensures c.args.s.now (packing_insert (state_of c.args.s.now) c.args.class) packed
