use Rattle.std.proofs.Common.{◌≡◌, ◌+◌, ◌<◌, ◌&&◌, not, drop, length, slice_index_or, List, sym, ap, subst, ◌∙◌, arith}
use Rattle.tx_checkpoint.specs.declared.row.Row.{Row}
use Rattle.tx_checkpoint.specs.Meant.{row_meant, rows_meant}
use Rattle.tx_quiesce.specs.Meeting.{row_fits, rest_asks_any}
use Rattle.tx_quiesce.specs.Tails.{AreOffsets, offsets_of}
use Rattle.tx_quiesce.proofs.Searching.{from-place, search-finds, search-goes}
use Rattle.tx_quiesce.proofs.Tailing.{met-later, met-begins}
use Rattle.tx_quiesce.proofs.search.met_row.Goals as goal

pub loop-at-init : goal.loop-at-init
loop-at-init g c =
    met-later g.M.Machine.formatter g.M.Machine.meaning c.args.changes.now c.args.old.now.last (row_meant g.M.Machine.meaning c.args.new.now) _ c.origin_of-origin.result c.args.old.now.rows.items c.origin_of-origin.ensures (ap offsets_of c.as_slice-rows.ensures.value) c.next_candidate-at.ensures
    ∙ met-begins g.M.Machine.formatter g.M.Machine.meaning c.args.changes.now c.args.old.now.last (row_meant g.M.Machine.meaning c.args.new.now) _ c.args.resumed (rows_meant g.M.Machine.meaning c.args.old.now.rows.items) (omega arith)

pub returns-then-is_met : goal.returns-then-is_met
returns-then-is_met g c =
    let rows_are = c.as_slice-rows.ensures.value in
    search-finds g.M.Machine.formatter g.M.Machine.meaning c.args.changes.now c.args.old.now.last (row_meant g.M.Machine.meaning c.args.new.now) _ c.loop-at.at c.args.old.now.rows.items c.loop-at.invariant
    (subst (λ (rows : List (Row g.row.M-State.Denot)). c.loop-at.at < length rows) rows_are c.loop-at-test.true)
    (subst (λ (rows : List (Row g.row.M-State.Denot)). c.index-rows-at.result ≡ slice_index_or rows c.loop-at.at c.index-rows-at.result) rows_are c.index-rows-at.is)
    ((λ i. row_fits g.M.Machine.formatter c.args.changes.now (row_meant g.M.Machine.meaning c.index-rows-at.result) (row_meant g.M.Machine.meaning c.args.new.now)
    && not (rest_asks_any ((ap (drop (c.loop-at.at + 1)) (sym rows_are) ∙ sym (from-place c.as_slice-rows.result.now (c.loop-at.at + 1))) i) c.args.old.now.last c.args.changes.now)) ∙ sym c.is_met.ensures ∙ c.if-is_met.true)

pub loop-at-preserved : goal.loop-at-preserved
loop-at-preserved g c =
    let rows_are = c.as_slice-rows.ensures.value in
    met-later g.M.Machine.formatter g.M.Machine.meaning c.args.changes.now c.args.old.now.last (row_meant g.M.Machine.meaning c.args.new.now) (c.loop-at.at + 1) c.origin_of-origin.result c.args.old.now.rows.items c.origin_of-origin.ensures (ap offsets_of rows_are) c.next_candidate-at-in-loop-at.ensures
    ∙ search-goes g.M.Machine.formatter g.M.Machine.meaning c.args.changes.now c.args.old.now.last (row_meant g.M.Machine.meaning c.args.new.now) _ c.loop-at.at c.args.old.now.rows.items c.loop-at.invariant
    (subst (λ (rows : List (Row g.row.M-State.Denot)). c.loop-at.at < length rows) rows_are c.loop-at-test.true)
    (subst (λ (rows : List (Row g.row.M-State.Denot)). c.index-rows-at.result ≡ slice_index_or rows c.loop-at.at c.index-rows-at.result) rows_are c.index-rows-at.is)
    ((λ i. row_fits g.M.Machine.formatter c.args.changes.now (row_meant g.M.Machine.meaning c.index-rows-at.result) (row_meant g.M.Machine.meaning c.args.new.now)
    && not (rest_asks_any ((ap (drop (c.loop-at.at + 1)) (sym rows_are) ∙ sym (from-place c.as_slice-rows.result.now (c.loop-at.at + 1))) i) c.args.old.now.last c.args.changes.now)) ∙ sym c.is_met.ensures ∙ c.if-is_met.false)

pub next_candidate-at-requires : goal.next_candidate-at-requires
next_candidate-at-requires g c = subst (λ (rows : List (Row g.row.M-State.Denot)). AreOffsets rows c.args.offsets.now) (sym c.as_slice-rows.ensures.value) c.requires

pub next_candidate-at-requires-in-loop-at : goal.next_candidate-at-requires-in-loop-at
next_candidate-at-requires-in-loop-at g c = subst (λ (rows : List (Row g.row.M-State.Denot)). AreOffsets rows c.args.offsets.now) (sym c.as_slice-rows.ensures.value) c.requires
