-- The walk along a list, one item after another.
use Rattle.std.proofs.Common.{◌≡◌, ◌∙◌, ℕ, suc, ◌+◌, ◌*◌, ◌<◌, ◌^◌, ℤ, ◌+ℤ◌, ◌-ℤ◌, unsigned_abs, Bool, true, false, ◌&&◌, List, length, drop, get_or, refl, sym, ap, subst, arith, add-one}
use Rattle.std.proofs.lemmas.Bool.{ltb-true}
use Rattle.std.proofs.Math.Seq.{drop-cons}
use Rattle.tx_node.specs.declared.head.Direction.{Direction}
use Rattle.tx_node.specs.declared.head.LeadersHead.{LeadersHead}
use Rattle.tx_node.specs.declared.head.Setting.{Setting}
use Rattle.tx_node.specs.declared.node.Node.{Node}
use Rattle.tx_node.specs.declared.places.Copies.{Copies}
use Rattle.tx_node.specs.Copies.{copies_of}
use Rattle.tx_node.specs.Counts.{ended}
use Rattle.tx_node.specs.Items.{Item, Items, more, items_of, leaders_item, PackedBox}
use Rattle.tx_node.specs.Nodes.{item_of, list_of}
use Rattle.tx_node.specs.Setting.{Reach, behind, share, stands, sums_fit}
use Rattle.tx_node.specs.Shipped.{box_shipped, copies_made, item_shipped, shipped_of}
use Rattle.tx_node.specs.Sizes.{advance, box_advance}

both : {a b : Bool} → (a && b) ≡ true → (a ≡ true) × (b ≡ true)
both {a = true} {b = true} e = (refl, refl)
both {a = true} {b = false} e = absurd (cc)
both {a = false} {b = true} e = absurd (cc)
both {a = false} {b = false} e = absurd (cc)

-- a place by its parts
pub behind-is : (direction : Direction) (setting : Setting) (reach : Reach) (item : Item) {natural sum : ℤ} → natural ≡ reach.natural +ℤ advance direction item → sum ≡ reach.sum +ℤ share setting item
    → ◌≡◌ {A = Reach} (record { natural = natural; sum = sum }) (behind direction setting reach item)
behind-is direction setting reach item natural_is sum_is = λ i. record { natural = natural_is i; sum = sum_is i }

-- the copies that leaders of a box make
pub leaders-copies : (direction : Direction) (setting : Setting) (from to : Reach) (head : LeadersHead) (b : PackedBox) {begins size : ℤ} {made : Copies} {x : Item}
    → x ≡ leaders_item head b → made ≡ copies_of head.kind begins size (box_advance direction b.head) → begins ≡ stands setting from → size ≡ stands setting to -ℤ stands setting from
    → made.count ≡ copies_made direction setting from to x
unfolding copies_made
leaders-copies direction setting from to head b x_is made_is begins_is size_is =
    ap (λ (c : Copies). c.count) made_is ∙ (λ i. (copies_of head.kind (begins_is i) (size_is i) (box_advance direction b.head)).count)
    ∙ ap (λ (y : Item). copies_made direction setting from to y) (sym x_is)

-- they are one node, and those of their copies
pub leaders-shipped : (head : LeadersHead) (b : PackedBox) (copies : ℕ) {told copied : ℕ} {x : Item}
    → x ≡ leaders_item head b → copied ≡ ended (copies * box_shipped b) → told ≡ ended (suc copied) → told ≡ ended (item_shipped copies x)
leaders-shipped head b copies x_is copied_is told_is =
    told_is ∙ ap (λ (n : ℕ). ended (suc n)) copied_is ∙ once (copies * box_shipped b) ∙ ap (λ (y : Item). ended (item_shipped copies y)) (sym x_is)
  where
    once : (n : ℕ) → ended (suc (ended n)) ≡ ended (suc n)
    once n = omega arith

-- The walk at one item of a list.
module _ (xs : List Node) (i : ℕ) {x : Node} (direction : Direction) (setting : Setting) (reach : Reach) (here : i < length xs) (is : x ≡ get_or xs i x) where
  abbrev rest : Items
  rest = items_of (list_of (drop (i + 1) xs))

  items-on : items_of (list_of (drop i xs)) ≡ more (item_of x) rest
  items-on = ap (λ ys. items_of (list_of ys)) (drop-cons xs i x here) ∙ (λ j. more (item_of (sym is j)) (items_of (list_of (drop (sym (add-one i) j) xs))))

  -- what is set of the list up to an item and behind it is a dimension
  pub sums-on : {sum : ℤ} → sum ≡ reach.sum +ℤ share setting (item_of x) → sums_fit setting reach.sum (items_of (list_of (drop i xs))) ≡ true
      → (unsigned_abs sum < 2 ^ 30) × (sums_fit setting sum rest ≡ true)
  sums-on sum_is fit =
      let parts = both (ap (sums_fit setting reach.sum) (sym items-on) ∙ fit) in
      (subst (λ z. unsigned_abs z < 2 ^ 30) (sym sum_is) (ltb-true _ _ parts.0), ap (λ z. sums_fit setting z rest) sum_is ∙ parts.1)

  -- the nodes of the item and of those behind it are shipped
  pub shipped-on : (sum : ℕ) {counted told all : ℕ} {next : Reach} → next ≡ behind direction setting reach (item_of x)
      → counted ≡ ended (item_shipped (copies_made direction setting reach next (item_of x)) (item_of x)) → told ≡ ended (sum + counted)
      → ended (sum + shipped_of direction setting reach (items_of (list_of (drop i xs)))) ≡ all
      → ended (told + shipped_of direction setting next rest) ≡ all
  shipped-on sum {counted} {told} {all} {next} next_is counted_is told_is so_far =
      let there : Reach = behind direction setting reach (item_of x) in
      let of_item : ℕ = item_shipped (copies_made direction setting reach there (item_of x)) (item_of x) in
      let counted_so : counted ≡ ended of_item = counted_is ∙ ap (λ (n : Reach). ended (item_shipped (copies_made direction setting reach n (item_of x)) (item_of x))) next_is in
      ap (λ (k : ℕ). ended (k + shipped_of direction setting next rest)) told_is
      ∙ ap (λ (k : ℕ). ended (ended (sum + k) + shipped_of direction setting next rest)) counted_so
      ∙ ap (λ (n : Reach). ended (ended (sum + ended of_item) + shipped_of direction setting n rest)) next_is
      ∙ gathered sum of_item (shipped_of direction setting there rest)
      ∙ ap (λ (items : Items). ended (sum + shipped_of direction setting reach items)) (sym items-on)
      ∙ so_far
    where
      gathered : (a b c : ℕ) → ended (ended (a + ended b) + c) ≡ ended (a + (b + c))
      gathered a b c = omega arith
