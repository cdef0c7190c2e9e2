use Rattle.std.proofs.Common.{◌≡◌, drop}
use Rattle.tx_files.specs.Reads.{untouched}
use Rattle.tx_files.proofs.seen.untouched.Given as goal

abbrev pub invariant-loop-change : goal.invariant-loop-change
invariant-loop-change l = untouched l.seen (drop l.change-index l.changes) ≡ untouched l.seen l.changes
