use Rattle.std.proofs.Common.{refl}
use Rattle.tx_box.specs.Sources.{unboxing}
use Rattle.tx_state.specs.Meanings.{state_of}
use Rattle.tx_building.proofs.Carried.{carries}
use Rattle.tx_boxing.proofs.boxes.unbox.Goals as goal

pub returns : goal.returns
returns c =
    carries (state_of c.args.s.now) c.args.s.now c.args.s.now c.carry.new.s c.unbox.new.lists c.unbox.new.table (unboxing c.args.kind c.args.number c.args.s.now.lists c.args.s.now.table) c.in_ok-done.done c.carry.result
    refl refl c.in_ok-done.ensures c.carry.ensures
