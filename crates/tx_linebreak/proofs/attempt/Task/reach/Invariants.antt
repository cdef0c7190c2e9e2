use Rattle.std.proofs.Common.{[], map}
use Rattle.tx_linebreak.specs.Chains.{from_living}
use Rattle.tx_linebreak.specs.Kept.{all_offered, last_special}
use Rattle.tx_linebreak.specs.Tasks.{attempt_of}
use Rattle.tx_linebreak.specs.Trials.{chain_tried}
use Rattle.tx_linebreak.proofs.Reaching.{IsReaching}
use Rattle.tx_linebreak.proofs.attempt.Task.reach.Given as goal

abbrev pub invariant-loop-trial : goal.invariant-loop-trial
invariant-loop-trial l =
    IsReaching (attempt_of l.self) l.place l.penalty l.stuck (all_offered (last_special (attempt_of l.self)) [] (from_living (attempt_of l.self) l.place l.penalty (map (chain_tried l.chains) l.trials))) l.chains l.links.items l.trials l.trial-index
