use Rattle.std.proofs.Common.{◌≡◌, ◌++◌, [], replicate}
use Rattle.tx_align.proofs.grouping.no_groups.Given as goal

abbrev pub invariant-loop-missing : goal.invariant-loop-missing
invariant-loop-missing l = l.groups.items ++ replicate l.missing [] ≡ replicate l.count []

abbrev pub decreases-loop-missing : goal.decreases-loop-missing
decreases-loop-missing l = l.missing
