use Rattle.std.proofs.Common.{◌≡◌, take}
use Rattle.tx_list.proofs.items.Items.from_slice.Given as goal

-- the values so far are the twins
abbrev pub invariant-loop-value : goal.invariant-loop-value
invariant-loop-value g l = l.twins.items ≡ take l.value-index l.values
