use Rattle.std.proofs.Common.{ap, ◌∙◌}
use Rattle.tx_box.specs.Building.{beginning}
use Rattle.tx_boxing.specs.Boxes.{settled, with_every_in}
use Rattle.tx_state.specs.Meanings.{state_of}
use Rattle.tx_boxing.proofs.Settling.{every-lists, every-table, settles}
use Rattle.tx_boxing.proofs.boxes.open_box.Goals as goal

pub returns : goal.returns
returns c =
    settles (λ target lists table. beginning (record { kind = c.args.kind; goal = c.args.goal; target = target }) lists table) c.args.context (with_every_in c.args.context c.args.kind (state_of c.args.s.now)) c.args.s.now c.settle.new.s c.carry.new.s c.in_ok-target.target c.begin_box.new.lists c.begin_box.new.table c.in_ok-done.done c.carry.result
    (every-lists c.args.context c.args.kind (state_of c.args.s.now)) (every-table c.args.context c.args.kind (state_of c.args.s.now)) c.in_ok-target.ensures.target
    (c.in_ok-target.ensures.state ∙ ap (settled c.args.context) (c.in_ok-read_every_in.ensures c.args.s.now)) c.in_ok-target.ensures.said c.in_ok-done.ensures c.carry.ensures
