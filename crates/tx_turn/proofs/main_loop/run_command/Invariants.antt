use Rattle.tx_turn.specs.Going.{HasRun, IsCommanding}
use Rattle.tx_turn.proofs.main_loop.run_command.Given as goal

abbrev pub invariant-loop-count : goal.invariant-loop-count
invariant-loop-count g l = record { run : HasRun g.T.Stomach.effects l.count l.initial.s l.s l.initial.steps l.steps; commanding : IsCommanding l.s }
