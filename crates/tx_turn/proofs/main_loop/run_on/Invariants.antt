use Rattle.std.proofs.Common.{◌-◌, ◌≤◌}
use Rattle.tx_turn.specs.Going.{HasRun}
use Rattle.tx_turn.proofs.main_loop.run_on.Given as goal

abbrev pub invariant-loop-all : goal.invariant-loop-all
invariant-loop-all g l = record { run : HasRun g.T.Stomach.effects l.all l.initial.s l.s l.initial.steps l.steps; within : l.all ≤ l.most }

abbrev pub decreases-loop-all : goal.decreases-loop-all
decreases-loop-all g l = l.most - l.all
