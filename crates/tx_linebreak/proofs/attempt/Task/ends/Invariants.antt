use Rattle.std.proofs.Common.{◌≡◌, map}
use Rattle.std.specs.Prelude.{All}
use Rattle.tx_linebreak.specs.Breaks.{context_from, outset}
use Rattle.tx_linebreak.specs.Kept.{kept_before}
use Rattle.tx_linebreak.specs.Tasks.{attempt_of}
use Rattle.tx_linebreak.specs.Trials.{IsKept, chain_tried}
use Rattle.tx_linebreak.proofs.attempt.Task.ends.Given as goal

abbrev pub invariant-loop-place : goal.invariant-loop-place
invariant-loop-place l =
    (map (chain_tried l.chains) l.trials.items ≡ kept_before (attempt_of l.self) l.place) × All (IsKept (attempt_of l.self) l.chains) l.trials.items × (l.context ≡ context_from outset l.self.pieces.now l.place)
