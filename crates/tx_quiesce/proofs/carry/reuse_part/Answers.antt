use Rattle.std.proofs.Common.{ℕ, ◌+◌, ◌≤◌, ◌++◌, List, length, map, take, drop, sym, ap, subst, ◌∙◌}
use Rattle.std.specs.List.{All}
use Rattle.tx_files.specs.declared.edit.Change.{Change}
use Rattle.tx_checkpoint.specs.declared.row.Row.{Row}
use Rattle.tx_checkpoint.specs.declared.row.Rows.{Rows}
use Rattle.tx_checkpoint.specs.Meant.{AreSame}
use Rattle.tx_quiesce.specs.declared.later.Part.{Part}
use Rattle.tx_quiesce.specs.Later.{AreOfOneLength, AreSpliced}
use Rattle.tx_quiesce.specs.Moves.{CanCarryRow, carried_row}
use Rattle.tx_quiesce.proofs.carry.reuse_part.Goals as goal

-- rows whose room alone has changed
module _ {S : Type 0} {old mid : Rows S} (same : AreSame old mid) where
  same-lengths : AreOfOneLength old → AreOfOneLength mid
  same-lengths are = record {
    pages_are = ap length same.pages_are ∙ are.pages_are ∙ sym (ap length same.rows_are);
    pieces_are = ap length same.pieces_are ∙ are.pieces_are ∙ sym (ap length same.rows_are);
  }

  same-spliced : {changes : List Change} {kept from count : ℕ} {front more : Part S} {new : Rows S} → AreSpliced changes mid kept front from count more new → AreSpliced changes old kept front from count more new
  same-spliced {changes = changes} {kept = kept} {from = from} {count = count} {front = front} {more = more} are = record {
    pages_are = are.pages_are ∙ ap (λ xs. take kept xs ++ (front.pages.items ++ (take count (drop from xs) ++ more.pages.items))) same.pages_are;
    pieces_are = are.pieces_are ∙ ap (λ xs. take kept xs ++ (front.pieces.items ++ (take count (drop from xs) ++ more.pieces.items))) same.pieces_are;
    rows_are = are.rows_are ∙ ap (λ (xs : List (Row S)). take kept xs ++ (front.rows.items ++ (map (carried_row changes) (take count (drop from xs)) ++ more.rows.items))) same.rows_are;
    last_is = are.last_is ∙ same.last_is;
  }

pub place_part-requires-clause-lengths : goal.place_part-requires-clause-lengths
place_part-requires-clause-lengths g c = same-lengths c.reserve_part.ensures.same c.requires.lengths

pub place_part-requires-clause-within : goal.place_part-requires-clause-within
place_part-requires-clause-within g c = subst (λ (rows : List (Row g.row.S.Denot)). c.args.from + c.args.count ≤ length rows) (sym c.reserve_part.ensures.same.rows_are) c.requires.within

pub place_part-requires-clause-can : goal.place_part-requires-clause-can
place_part-requires-clause-can g c =
    subst (λ (rows : List (Row g.row.S.Denot)). All (CanCarryRow c.args.changes.now) (take c.args.count (drop c.args.from rows))) (sym c.reserve_part.ensures.same.rows_are) c.requires.can

pub returns-in-Ok-clause-ok : goal.returns-in-Ok-clause-ok
returns-in-Ok-clause-ok g c = same-spliced c.reserve_part.ensures.same c.place_part.ensures
