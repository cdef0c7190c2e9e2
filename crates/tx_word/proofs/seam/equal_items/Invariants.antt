use Rattle.std.proofs.Common.{◌≡◌, take}
use Rattle.tx_word.proofs.seam.equal_items.Given as goal

-- the items so far are the same
abbrev pub invariant-loop-k : goal.invariant-loop-k
invariant-loop-k l = take l.k l.some ≡ take l.k l.others
