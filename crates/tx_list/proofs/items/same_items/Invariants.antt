use Rattle.std.proofs.Common.{◌≡◌, take}
use Rattle.tx_list.proofs.items.same_items.Given as goal

-- the values so far are the same
abbrev pub invariant-loop-k : goal.invariant-loop-k
invariant-loop-k g l = take l.k l.some ≡ take l.k l.others
