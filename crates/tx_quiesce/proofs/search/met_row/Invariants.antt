use Rattle.std.proofs.Common.{◌≡◌, ◌+◌, ◌-◌, drop, length}
use Rattle.tx_checkpoint.specs.Meant.{row_meant, rows_meant}
use Rattle.tx_quiesce.specs.Meeting.{met, met_row}
use Rattle.tx_quiesce.proofs.search.met_row.Given as goal

abbrev pub invariant-loop-at : goal.invariant-loop-at
invariant-loop-at g l =
    met g.M.Machine.formatter l.changes l.old.last (row_meant g.M.Machine.meaning l.new) (l.at + 1) (drop l.at (rows_meant g.M.Machine.meaning l.old.rows.items))
    ≡ met_row g.M.Machine.formatter l.changes (rows_meant g.M.Machine.meaning l.old.rows.items) l.old.last l.resumed (row_meant g.M.Machine.meaning l.new)

abbrev pub decreases-loop-at : goal.decreases-loop-at
decreases-loop-at g l = length l.rows - l.at
