use Rattle.std.proofs.Common.{◌≡◌, ◌-◌, None}
use Rattle.tx_checkpoint.specs.Meant.{IsIdle, AreIdle, rows_meant}
use Rattle.tx_checkpoint.specs.Rows.{rows_from}
use Rattle.tx_checkpoint.proofs.Keeping.{Keeping}
use Rattle.tx_quiesce.specs.Meeting.{first_meeting}
use Rattle.tx_quiesce.specs.Tails.{AreOffsets}
use Rattle.tx_quiesce.proofs.front.format_front.Given as goal

abbrev pub invariant-loop-page : goal.invariant-loop-page
invariant-loop-page g l = record {
  so_far : Keeping g.M.Machine.formatter l.files l.budget (rows_from g.M.Machine.formatter l.files l.budget l.most (g.M.Machine.meaning l.initial.spot.state) l.initial.spot.opens)
      (l.most - l._page) (g.M.Machine.meaning l.spot.state) l.spot.opens l.front.pages.items l.front.pieces.items (rows_meant g.M.Machine.meaning l.front.rows.items) l.initial.steps l.steps;
  none : first_meeting g.M.Machine.formatter l.changes (rows_meant g.M.Machine.meaning l.old.rows.items) l.old.last l.resumed (rows_meant g.M.Machine.meaning l.front.rows.items) ≡ None;
  idle : IsIdle g.M.Machine.formatter g.M.Machine.meaning g.M.Machine.pending l.spot.state;
  kept : AreIdle g.M.Machine.formatter g.M.Machine.meaning g.M.Machine.pending l.front.rows.items;
  offsets : AreOffsets l.old.rows.items l.offsets;
}
