use Rattle.std.proofs.Common.{◌≡◌, take}
use Rattle.tx_name.proofs.bucket.share_entries.Given as goal

-- the entries so far have their twins
abbrev pub invariant-loop-entry : goal.invariant-loop-entry
invariant-loop-entry g l = l.twins.items ≡ take l.entry-index l.entries
