use Rattle.std.proofs.Common.{ℕ, Ok, Some, refl}
use Rattle.tx_box.specs.Placing.{placed}
use Rattle.tx_boxing.specs.Shipped.{copies}
use Rattle.tx_state.specs.Meanings.{state_of}
use Rattle.tx_building.proofs.Carried.{carries}
use Rattle.tx_boxing.proofs.shipping.add_copy.Goals as goal

pub returns : goal.returns
returns c =
    c.build_in.ensures c.args.s.now (copies (state_of c.args.s.now) c.args.copied c.args.target)
    (carries {E = ℕ} (state_of c.args.s.now) c.args.s.now c.args.s.now c.carry.new.s c.place.new.lists c.place.new.table (placed c.args.target c.args.s.now.lists c.args.s.now.table (Some c.args.copied)) c.in_ok-done.done (Ok c.in_ok-event.event)
    refl refl c.in_ok-done.ensures c.in_ok-event.ensures)
