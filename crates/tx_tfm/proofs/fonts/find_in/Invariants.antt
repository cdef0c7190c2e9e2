use Rattle.std.proofs.Common.{◌≡◌, ◌+◌, drop}
use Rattle.tx_tfm.specs.Fonts.{found_from}
use Rattle.tx_tfm.proofs.fonts.find_in.Given as goal

abbrev pub invariant-loop-state : goal.invariant-loop-state
invariant-loop-state l =
    (l.number ≡ l.state-index)
    × (found_from (l.number + 1) (drop l.state-index l.loaded) l.name l.size ≡ found_from 1 l.loaded l.name l.size)
