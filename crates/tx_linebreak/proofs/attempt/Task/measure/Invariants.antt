use Rattle.tx_linebreak.specs.Tasks.{attempt_of}
use Rattle.tx_linebreak.proofs.Trying.{IsMeasuring}
use Rattle.tx_linebreak.proofs.attempt.Task.measure.Given as goal

abbrev pub invariant-loop-trial : goal.invariant-loop-trial
invariant-loop-trial l = IsMeasuring (attempt_of l.self) l.place l.initial.trials l.trials l.trial-index
