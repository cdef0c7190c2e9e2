use Rattle.std.proofs.Common.{◌≡◌, ◌≤◌, ◌++◌}
use Rattle.tx_dvitype.specs.Files as spec
use Rattle.tx_dvitype.proofs.reader.append_again.Given as goal

abbrev pub invariant-loop-below : goal.invariant-loop-below
invariant-loop-below l = (l.below ≤ 256) × (l.file ++ spec.again_below l.below l.definitions ≡ l.initial.file ++ spec.again_below 256 l.definitions)

abbrev pub decreases-loop-below : goal.decreases-loop-below
decreases-loop-below l = l.below
