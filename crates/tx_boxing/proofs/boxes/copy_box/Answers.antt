use Rattle.std.proofs.Common.{refl}
use Rattle.tx_box.specs.Sources.{copying}
use Rattle.tx_state.specs.Meanings.{state_of}
use Rattle.tx_boxing.proofs.Settling.{settles}
use Rattle.tx_boxing.proofs.boxes.copy_box.Goals as goal

pub returns : goal.returns
returns c =
    settles (λ target lists table. copying target c.args.number lists table) c.args.context (state_of c.args.s.now) c.args.s.now c.settle.new.s c.carry.new.s c.in_ok-target.target c.copy_register.new.lists c.copy_register.new.table c.in_ok-done.done c.carry.result
    refl refl c.in_ok-target.ensures.target c.in_ok-target.ensures.state c.in_ok-target.ensures.said c.in_ok-done.ensures c.carry.ensures
