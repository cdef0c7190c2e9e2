use Rattle.std.proofs.Common.{◌≡◌, drop}
use Rattle.std.specs.FinMap.Entries.{find}
use Rattle.tx_name.proofs.Places.{by_bytes}
use Rattle.tx_name.proofs.bucket.name_of.Given as goal

-- among the entries that are left the same is found
abbrev pub invariant-loop-entry : goal.invariant-loop-entry
invariant-loop-entry g l = find by_bytes l.letters (drop l.entry-index l.entries) ≡ find by_bytes l.letters l.entries
