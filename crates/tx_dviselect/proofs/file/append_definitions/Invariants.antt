use Rattle.std.proofs.Common.{◌≡◌, ◌≤◌, ◌++◌}
use Rattle.tx_dvi.specs.Dvi as spec
use Rattle.tx_dviselect.proofs.file.append_definitions.Given as goal

abbrev pub invariant-loop-below : goal.invariant-loop-below
invariant-loop-below l = (l.below ≤ 256) × (l.file ++ spec.definitions_below l.below l.fonts ≡ l.initial.file ++ spec.definitions_below 256 l.fonts)

abbrev pub decreases-loop-below : goal.decreases-loop-below
decreases-loop-below l = l.below
