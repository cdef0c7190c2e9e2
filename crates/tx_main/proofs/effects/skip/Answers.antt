use Rattle.std.proofs.Common.{refl, sym}
use Rattle.tx_command.specs.Commands.{leaders_before}
use Rattle.tx_node.specs.Nodes.{item_of}
use Rattle.tx_state.specs.Ended.{adding}
use Rattle.tx_state.specs.Meanings.{state_of}
use Rattle.tx_state.proofs.Outcomes.{outcome-by}
use Rattle.tx_main.specs.Effects.{skipping}
use Rattle.tx_main.proofs.effects.skip.Goals as goal

pub returns : goal.returns
returns c =
    outcome-by (adding (state_of (record c.args.s.now { scan = c.skipped.new.scan })) (item_of c.in_ok-node.node)) (skipping (state_of c.args.s.now) c.args.glue (leaders_before c.args.s.now.scan.head))
    c.args.s.now (record c.args.s.now { scan = c.skipped.new.scan }) c.add.new.s c.add.result
    (sym (c.in_ok-node.ensures c.args.s.now)) refl c.add.ensures
