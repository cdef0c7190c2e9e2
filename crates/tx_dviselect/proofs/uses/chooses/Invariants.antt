use Rattle.std.proofs.Common.{◌≡◌, ◌≤◌, ◌-◌, take, drop}
use Rattle.tx_dviselect.specs.Uses.{chooses, chooses_from}
use Rattle.tx_dviselect.proofs.uses.chooses.Given as goal

abbrev pub invariant-loop-at : goal.invariant-loop-at
invariant-loop-at l = (l.start ≤ l.at) × (chooses_from l.number (take (l.at - l.start) (drop l.start l.body)) (drop l.at l.body) ≡ chooses l.number l.body)
