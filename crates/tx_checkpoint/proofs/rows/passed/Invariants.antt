use Rattle.std.proofs.Common.{◌≡◌, ◌+◌, drop}
use Rattle.std.specs.List.{prefix_len}
use Rattle.tx_checkpoint.specs.Locate.{passes}
use Rattle.tx_checkpoint.proofs.rows.passed.Given as goal

abbrev pub invariant-loop-row : goal.invariant-loop-row
invariant-loop-row g l = record {
  passed : l.passed ≡ l.row-index;
  so_far : l.passed + prefix_len (passes l.name l.place) (drop l.row-index l.rows) ≡ prefix_len (passes l.name l.place) l.rows;
}
