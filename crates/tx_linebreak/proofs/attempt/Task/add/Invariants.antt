use Rattle.std.proofs.Common.{◌++◌, map}
use Rattle.tx_linebreak.specs.Shared.{chain_of}
use Rattle.tx_linebreak.specs.Tasks.{attempt_of}
use Rattle.tx_linebreak.specs.Trials.{chain_tried}
use Rattle.tx_linebreak.proofs.Adding.{IsAdding}
use Rattle.tx_linebreak.proofs.attempt.Task.add.Given as goal

abbrev pub invariant-loop-link : goal.invariant-loop-link
invariant-loop-link l =
    IsAdding (attempt_of l.self) (map (chain_tried l.initial.chains) l.initial.trials.items ++ map (chain_of l.initial.chains) l.links) l.chains l.trials.items l.links l.link-index
