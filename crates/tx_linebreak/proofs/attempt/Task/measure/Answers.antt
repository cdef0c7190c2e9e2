use Rattle.std.proofs.Common.{arith}
use Rattle.tx_linebreak.specs.Tasks.{attempt_of}
use Rattle.tx_linebreak.proofs.Trying.{measuring-all, measuring-none}
use Rattle.tx_linebreak.proofs.attempt.Task.measure.Goals as goal

pub loop-trial-init : goal.loop-trial-init
loop-trial-init c = measuring-none (attempt_of c.args.self.now) c.args.place c.args.trials.now

pub returns : goal.returns
returns c = measuring-all (attempt_of c.args.self.now) c.args.place c.args.trials.now c.loop-trial.trials c.loop-trial.trial-index (omega arith) c.loop-trial.invariant
