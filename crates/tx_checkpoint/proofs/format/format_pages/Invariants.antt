use Rattle.std.proofs.Common.{◌-◌}
use Rattle.tx_checkpoint.specs.Meant.{IsIdle, AreIdle, rows_meant}
use Rattle.tx_checkpoint.specs.Rows.{rows_from}
use Rattle.tx_checkpoint.proofs.Keeping.{Keeping}
use Rattle.tx_checkpoint.proofs.format.format_pages.Given as goal

abbrev pub invariant-loop-page : goal.invariant-loop-page
invariant-loop-page g l = record {
  so_far : Keeping g.M.Machine.formatter l.files l.budget (rows_from g.M.Machine.formatter l.files l.budget l.most (g.M.Machine.meaning l.initial.spot.state) l.initial.spot.opens)
      (l.most - l._page) (g.M.Machine.meaning l.spot.state) l.spot.opens l.pages.items l.pieces.items (rows_meant g.M.Machine.meaning l.rows.items) l.initial.steps l.steps;
  idle : IsIdle g.M.Machine.formatter g.M.Machine.meaning g.M.Machine.pending l.spot.state;
  kept : AreIdle g.M.Machine.formatter g.M.Machine.meaning g.M.Machine.pending l.rows.items;
}
