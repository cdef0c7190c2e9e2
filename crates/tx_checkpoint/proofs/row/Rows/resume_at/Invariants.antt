use Rattle.std.proofs.Common.{◌≡◌, ◌+◌, drop}
use Rattle.tx_checkpoint.specs.Resume.{resume}
use Rattle.tx_checkpoint.proofs.row.Rows.resume_at.Given as goal

abbrev pub invariant-loop-row : goal.invariant-loop-row
invariant-loop-row g l = record {
  passed : l.kept ≡ l.row-index;
  so_far : l.kept + resume (drop l.row-index l.row-items) l.changes ≡ resume l.self.rows.items l.changes;
}
