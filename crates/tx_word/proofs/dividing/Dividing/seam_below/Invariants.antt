use Rattle.std.proofs.Common.{◌≡◌, ◌≤◌}
use Rattle.tx_word.specs.Dividing.{seam_in}
use Rattle.tx_word.specs.Divisions.{seam_below}
use Rattle.tx_word.proofs.dividing.Dividing.seam_below.Given as goal

-- no seam was found from here on
abbrev pub invariant-loop-at : goal.invariant-loop-at
invariant-loop-at l = (l.at ≤ l.place) × (seam_below (seam_in l.self) l.at ≡ seam_below (seam_in l.self) l.place)

abbrev pub decreases-loop-at : goal.decreases-loop-at
decreases-loop-at l = l.at
