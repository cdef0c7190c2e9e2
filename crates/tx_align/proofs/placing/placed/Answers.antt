use Rattle.std.proofs.Common.{rules, ◌≡◌, ◌<◌, ◌∙◌, ◌++◌, ◌∷◌, [], ◌+◌, true, ℤ, ◌+ℤ◌, List, length, drop, get_or, to_z, of_z, w64, sym, ap, subst}
use Rattle.tx_num.specs.Glue.{IsDimension}
use Rattle.tx_node.specs.Items.{items_of}
use Rattle.tx_node.specs.Setting.{moved, share, sums_fit}
use Rattle.tx_align.specs.declared.prototype.PlacedColumn.{PlacedColumn}
use Rattle.tx_align.specs.Prototypes.{column_items, placed_from, skip_item}
use Rattle.tx_align.proofs.Fits.{next_fits, next_placed, next_small}
use Rattle.tx_align.proofs.placing.placed.Goals as goal

pub loop-column-preserved : goal.loop-column-preserved
loop-column-preserved c =
    let sum : to_z w64 (of_z w64 c.plus-sum-in-loop-column.result) ≡ (to_z w64 c.loop-column.sum-bits) +ℤ share c.args.setting (skip_item c.column-item.result.skip) = search rules in
    let within : c.loop-column.column-index < length c.args.columns.now = search rules in
    let item : c.column-item.result ≡ get_or c.args.columns.now c.loop-column.column-index c.column-item.result = search rules in
    let pushed : c.push.new.self ≡ c.loop-column.made ++ record { sized = c.column-item.result; shift = moved c.args.setting (to_z w64 c.loop-column.sum-bits) } ∷ [] = search rules in
    record {
      made = ap (λ (z : ℤ). c.push.new.self ++ placed_from c.args.setting z (drop (c.loop-column.column-index + 1) c.args.columns.now)) sum
          ∙ ap (λ (made : List PlacedColumn). made ++ placed_from c.args.setting ((to_z w64 c.loop-column.sum-bits) +ℤ share c.args.setting (skip_item c.column-item.result.skip)) (drop (c.loop-column.column-index + 1) c.args.columns.now)) pushed
          ∙ next_placed c.args.setting (to_z w64 c.loop-column.sum-bits) c.loop-column.made c.args.columns.now c.loop-column.column-index c.column-item.result within item
          ∙ c.loop-column.invariant.made;
      fits = subst (λ (z : ℤ). sums_fit c.args.setting z (items_of (column_items (drop (c.loop-column.column-index + 1) c.args.columns.now))) ≡ true) (sym sum)
          (next_fits c.args.setting (to_z w64 c.loop-column.sum-bits) c.args.columns.now c.loop-column.column-index c.column-item.result within item c.loop-column.invariant.fits);
      small = subst (λ (z : ℤ). IsDimension z) (sym sum)
          (next_small c.args.setting (to_z w64 c.loop-column.sum-bits) c.args.columns.now c.loop-column.column-index c.column-item.result within item c.loop-column.invariant.fits);
    }
