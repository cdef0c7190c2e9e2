use Rattle.std.proofs.Common.{◌≡◌, take}
use Rattle.tx_quiesce.specs.Tails.{offsets_of}
use Rattle.tx_quiesce.proofs.tails.read_offsets.Given as goal

-- those of the rows so far
abbrev pub invariant-loop-row : goal.invariant-loop-row
invariant-loop-row g l = l.numbers.items ≡ offsets_of (take l.row-index l.rows)
