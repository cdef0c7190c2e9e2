use Rattle.tx_formula.specs.Displays.{going_on_behind}
use Rattle.tx_state.specs.Meanings.{state_of}
use Rattle.tx_main.proofs.effects.resume.Goals as goal

pub returns : goal.returns
returns c =
    c.build_outside_behind.ensures c.args.s.now (going_on_behind (state_of c.args.s.now)) (c.go_on_behind_display-event.ensures c.args.s.now c.requires.running)
