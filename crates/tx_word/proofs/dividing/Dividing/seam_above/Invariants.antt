use Rattle.std.proofs.Common.{◌≡◌, ◌≤◌, ◌-◌, length}
use Rattle.tx_word.specs.Dividing.{last_in, seam_in}
use Rattle.tx_word.specs.Divisions.{seam_above, seam_from}
use Rattle.tx_word.proofs.dividing.Dividing.seam_above.Given as goal

-- no seam was found up to here
abbrev pub invariant-loop-at : goal.invariant-loop-at
invariant-loop-at l =
    (l.at ≤ length l.self.chars.now)
    × (seam_from (seam_in l.self) (last_in l.self) l.at (length l.self.chars.now - l.at) ≡ seam_above (seam_in l.self) (last_in l.self) l.place)

abbrev pub decreases-loop-at : goal.decreases-loop-at
decreases-loop-at l = length l.self.chars.now - l.at
