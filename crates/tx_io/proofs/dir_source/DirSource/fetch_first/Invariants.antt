use Rattle.std.proofs.Common.{◌≡◌}
use Rattle.tx_io.proofs.dir_source.DirSource.fetch_first.Given as goal

-- no fault was counted so far
abbrev pub invariant-loop-place : goal.invariant-loop-place
invariant-loop-place g l = l.self ≡ l.initial.self
