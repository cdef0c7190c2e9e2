-- Where the items of a box stand once its glue is set. An item stands at its natural place, moved by T E / S to the nearest
-- whole number, halves away from zero: E is how far the list has to grow, S how much it has in all of the stretch or shrink
-- that is set, T how much of it comes before the item. It is rounded once for each place, and no rounded piece is added up.
use Rattle.std.specs.Prelude.{◌≢◌, ◌≤◌, ◌<◌, ℕ, Bool, true, ℤ, pos, ◌+ℤ◌, ◌*ℤ◌, ◌==◌, ◌&&◌, nat_lt, ◌^◌, unsigned_abs, Option, Some, None, if◌then◌else◌}
use Rattle.tx_num.specs.Fractions.{nearest_signed}
use Rattle.tx_num.specs.Glue.{GlueSpec}
use Rattle.tx_node.specs.declared.head.Change.{Change}
use Rattle.tx_node.specs.declared.head.Change.TheVariants.{Stretch, Shrink}
use Rattle.tx_node.specs.declared.head.Direction.{Direction}
use Rattle.tx_node.specs.declared.head.GlueSet.{GlueSet}
use Rattle.tx_node.specs.declared.head.Setting.{Setting}
use Rattle.tx_node.specs.declared.head.Setting.TheVariants.{Natural, Set}
use Rattle.tx_node.specs.declared.places.Reached.{Reached}
use Rattle.tx_node.specs.Items.{Item, Items, none, more}
use Rattle.tx_node.specs.Sizes.{glue_of_item, advance}

-- a size that counts where its order is the one that is asked for
abbrev pub of_order : ℕ → ℤ → ℕ → ℤ
of_order order size has = if has == order then size else pos 0

-- how much glue has of the stretch or shrink of an order
abbrev pub glue_part : Change → ℕ → GlueSpec → ℤ
glue_part Stretch order g = of_order order g.stretch g.stretch_order
glue_part Shrink order g = of_order order g.shrink g.shrink_order

-- how much an item has of it; only glue and leaders have any
abbrev pub part_of_glue : Change → ℕ → Option GlueSpec → ℤ
part_of_glue change order None = pos 0
part_of_glue change order (Some g) = glue_part change order g

abbrev pub part : Change → ℕ → Item → ℤ
part change order item = part_of_glue change order (glue_of_item item)

-- what an item adds to T
abbrev pub share : Setting → Item → ℤ
share Natural item = pos 0
share (Set s) item = part s.change s.order item

-- how far set glue has moved what stands behind so much of it
abbrev pub moved : Setting → ℤ → ℤ
moved Natural sum = pos 0
moved (Set s) sum = nearest_signed (sum *ℤ s.excess) s.total

-- how far a list has come before an item: naturally, and T
pub record Reach : Type 0 where
  pub natural : ℤ
  pub sum : ℤ

abbrev pub begun : Reach
begun = record { natural = pos 0; sum = pos 0 }

-- the same in code
abbrev pub reach_of : Reached → Reach
reach_of reached = record { natural = reached.natural; sum = reached.sum }

-- and behind it
abbrev pub behind : Direction → Setting → Reach → Item → Reach
behind direction setting reach item = record {
  natural = reach.natural +ℤ advance direction item;
  sum = reach.sum +ℤ share setting item;
}

-- where an item stands, from where its list begins
abbrev pub stands : Setting → Reach → ℤ
stands setting reach = reach.natural +ℤ moved setting reach.sum

-- T is a dimension behind each item
abbrev pub sums_fit : Setting → ℤ → Items → Bool
sums_fit setting sum none = true
sums_fit setting sum (more item rest) =
    nat_lt (unsigned_abs (sum +ℤ share setting item)) (2 ^ 30) && sums_fit setting (sum +ℤ share setting item) rest

-- a setting that can be: its total is a dimension and not 0, and its order is one of four
pub record IsGlueSet (s : GlueSet) : Type 0 where
  pub total_not : s.total ≢ pos 0
  pub total_in : unsigned_abs s.total < 2 ^ 30
  pub excess_in : unsigned_abs s.excess < 2 ^ 31
  pub order_in : s.order ≤ 3

abbrev pub IsSet : Setting → Type 0
IsSet Natural = Unit {0}
IsSet (Set s) = IsGlueSet s
