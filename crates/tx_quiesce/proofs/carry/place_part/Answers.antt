use Rattle.std.proofs.Common.{◌++◌, refl, ◌∙◌}
use Rattle.tx_quiesce.specs.Moves.{carried_row}
use Rattle.tx_quiesce.proofs.Carried.{front-stays, part-changes}
use Rattle.tx_quiesce.proofs.carry.place_part.Goals as goal

pub returns : goal.returns
returns g c = record {
  pages_are = c.reuse_items.ensures;
  pieces_are = c.reuse_items-2.ensures;
  rows_are = c.reuse_items-3.ensures
      ∙ (λ i. front-stays (carried_row c.args.changes.now) c.args.kept c.args.from c.args.count c.args.rows.now.rows.items c.relocate_part.new.rows.items c.requires.order c.requires.within c.relocate_part.ensures.items i
      ++ (c.args.front.rows.items ++ (part-changes (carried_row c.args.changes.now) c.args.kept c.args.from c.args.count c.args.rows.now.rows.items c.relocate_part.new.rows.items c.requires.order c.requires.within c.relocate_part.ensures.items i ++ c.args.more.rows.items)));
  last_is = refl;
}
