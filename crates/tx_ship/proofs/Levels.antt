-- The walk along a list by which its levels are counted.
use Rattle.std.proofs.Common.{◌≡◌, ◌∙◌, ◌≤◌, ◌<◌, ◌+◌, ℕ, false, max, List, length, drop, get_or, refl, ap, sym, subst, arith}
use Rattle.tx_node.specs.declared.head.Direction.{Direction}
use Rattle.tx_node.specs.declared.head.Setting.{Setting}
use Rattle.tx_node.specs.declared.node.Node.{Node}
use Rattle.tx_node.specs.Counts.{nesting_of, item_nesting}
use Rattle.tx_node.specs.Items.{Item, Items, none, more, plain, shared, boxed, discretionary, adjustment, insertion, box_leaders, items_of}
use Rattle.tx_node.specs.Nodes.{item_of, list_of}
use Rattle.tx_node.specs.Setting.{Reach, behind}
use Rattle.tx_node.specs.Shipped.{copies_made, is_leading, leads_boxes}
use Rattle.tx_node.proofs.Alone.{neither}
use Rattle.tx_ship.specs.Commands.{alone_level, item_level, level_of}
use Rattle.tx_ship.proofs.Steps.{items-on}

-- an item that is no leaders of a box nests alike whatever copies are made, and so does a list without such leaders
level_alone : (copies : ℕ) (item : Item) → is_leading item ≡ false → item_level copies item ≡ item_level 0 item
unfolding level_of
level_alone copies (plain p) k = refl
level_alone copies (shared s) k = refl
level_alone copies (boxed shift head inner) k = refl
level_alone copies (discretionary head before after) k = refl
level_alone copies (adjustment inner) k = refl
level_alone copies (insertion head inner) k = refl
level_alone copies (box_leaders head repeated inner) k = absurd (cc)

pub alone_is_level : (direction : Direction) (setting : Setting) (reach : Reach) (items : Items) → leads_boxes items ≡ false → level_of direction setting reach items ≡ alone_level items
unfolding level_of
alone_is_level direction setting reach none k = refl
alone_is_level direction setting reach (more item rest) k =
    let parts : (is_leading item ≡ false) × (leads_boxes rest ≡ false) = neither k in
    let next : Reach = behind direction setting reach item in
    let first : item_level (copies_made direction setting reach next item) item ≡ item_level 0 item = level_alone (copies_made direction setting reach next item) item parts.0 in
    let others : level_of direction setting next rest ≡ alone_level rest = alone_is_level direction setting next rest parts.1 in
    λ i. max (first i) (others i)

module _ (xs : List Node) (i : ℕ) {x : Node} (here : i < length xs) (is : x ≡ get_or xs i x) where
  abbrev rest : Items
  rest = items_of (list_of (drop (i + 1) xs))

  -- the level of the item, and that of those behind it
  pub level-on : (direction : Direction) (setting : Setting) (reach : Reach) (most : ℕ) {level copies told all : ℕ} {next : Reach} → next ≡ behind direction setting reach (item_of x)
      → copies ≡ copies_made direction setting reach next (item_of x) → level ≡ item_level copies (item_of x) → told ≡ max most level
      → max most (level_of direction setting reach (items_of (list_of (drop i xs)))) ≡ all
      → max told (level_of direction setting next rest) ≡ all
  unfolding level_of
  level-on direction setting reach most {level} {copies} {told} {all} {next} next_is copies_is level_is told_is so_far =
      let there : Reach = behind direction setting reach (item_of x) in
      let of_item : ℕ = item_level (copies_made direction setting reach there (item_of x)) (item_of x) in
      let level_so : level ≡ of_item = level_is ∙ ap (λ (n : ℕ). item_level n (item_of x)) (copies_is ∙ ap (λ (n : Reach). copies_made direction setting reach n (item_of x)) next_is) in
      ap (λ (k : ℕ). max k (level_of direction setting next rest)) told_is
      ∙ ap (λ (k : ℕ). max (max most k) (level_of direction setting next rest)) level_so
      ∙ ap (λ (n : Reach). max (max most of_item) (level_of direction setting n rest)) next_is
      ∙ gathered most of_item (level_of direction setting there rest)
      ∙ ap (λ (items : Items). max most (level_of direction setting reach items)) (sym (items-on xs i x here is))
      ∙ so_far
    where
      gathered : (a b c : ℕ) → max (max a b) c ≡ max a (max b c)
      gathered a b c = omega arith

  -- and how deep their boxes nest at most
  pub nesting-on : (most level all : ℕ) {told : ℕ} → level ≤ item_nesting (item_of x) → told ≡ max most level → max most (nesting_of (items_of (list_of (drop i xs)))) ≤ all
      → max told (nesting_of rest) ≤ all
  nesting-on most level all within told_is so_far =
      let so : max most (max (item_nesting (item_of x)) (nesting_of rest)) ≤ all = subst (λ (items : Items). max most (nesting_of items) ≤ all) (items-on xs i x here is) so_far in
      omega (arith, within, told_is, so)
