use Rattle.std.proofs.Common.{◌≡◌, ◌++◌}
use Rattle.tx_expand.proofs.using.to_share.Given as goal

abbrev pub invariant-loop-list : goal.invariant-loop-list
invariant-loop-list l = l.all ++ l.list-iterator.rest.items ≡ l.fn.lists
