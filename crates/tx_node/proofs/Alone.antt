-- Lists of which it doesn't depend on places how many nodes are shipped: those without leaders of boxes, and those without boxes.
use Rattle.std.proofs.Common.{◌≡◌, ◌∙◌, ◌+◌, ℕ, Bool, true, false, ◌||◌, refl, ap, arith}
use Rattle.tx_node.specs.declared.head.Direction.{Direction}
use Rattle.tx_node.specs.declared.head.Setting.{Setting}
use Rattle.tx_node.specs.Counts.{count_of, item_count, item_nesting, nesting_of}
use Rattle.tx_node.specs.Items.{Item, Items, none, more, plain, shared, boxed, discretionary, adjustment, insertion, box_leaders}
use Rattle.tx_node.specs.Setting.{Reach, behind}
use Rattle.tx_node.specs.Shipped.{alone_shipped, copies_made, is_leading, item_shipped, leads_boxes, shipped_of}

pub neither : {a b : Bool} → (a || b) ≡ false → (a ≡ false) × (b ≡ false)
neither {a = true} {b = true} e = absurd (cc)
neither {a = true} {b = false} e = absurd (cc)
neither {a = false} {b = true} e = absurd (cc)
neither {a = false} {b = false} e = (refl, refl)

-- an item that is no leaders of a box
item_alone : (copies : ℕ) (item : Item) → is_leading item ≡ false → item_shipped copies item ≡ item_shipped 0 item
item_alone copies (plain p) k = refl
item_alone copies (shared s) k = refl
item_alone copies (boxed shift head inner) k = refl
item_alone copies (discretionary head before after) k = refl
item_alone copies (adjustment inner) k = refl
item_alone copies (insertion head inner) k = refl
item_alone copies (box_leaders head repeated inner) k = absurd (cc)

-- and a list that has none
pub alone_is_shipped : (direction : Direction) (setting : Setting) (reach : Reach) (items : Items) → leads_boxes items ≡ false → shipped_of direction setting reach items ≡ alone_shipped items
alone_is_shipped direction setting reach none k = refl
alone_is_shipped direction setting reach (more item rest) k =
    let parts : (is_leading item ≡ false) × (leads_boxes rest ≡ false) = neither k in
    let next : Reach = behind direction setting reach item in
    let first : item_shipped (copies_made direction setting reach next item) item ≡ item_shipped 0 item = item_alone (copies_made direction setting reach next item) item parts.0 in
    let others : shipped_of direction setting next rest ≡ alone_shipped rest = alone_is_shipped direction setting next rest parts.1 in
    λ i. first i + others i

-- one without boxes has no leaders of one, and counts as it is shipped
flat_item : (item : Item) → item_nesting item ≡ 0 → (is_leading item ≡ false) × (item_shipped 0 item ≡ item_count item)
flat_item (plain p) k = (refl, refl)
flat_item (shared s) k = (refl, refl)
flat_item (boxed shift head inner) k = absurd (omega (arith, k))
flat_item (discretionary head before after) k = (refl, refl)
flat_item (adjustment inner) k = (refl, refl)
flat_item (insertion head inner) k = (refl, refl)
flat_item (box_leaders head repeated inner) k = absurd (omega (arith, k))

flat : (items : Items) → nesting_of items ≡ 0 → (leads_boxes items ≡ false) × (alone_shipped items ≡ count_of items)
flat none k = (refl, refl)
flat (more item rest) k =
    let first : (is_leading item ≡ false) × (item_shipped 0 item ≡ item_count item) = flat_item item (omega (arith, k)) in
    let others : (leads_boxes rest ≡ false) × (alone_shipped rest ≡ count_of rest) = flat rest (omega (arith, k)) in
    (ap (λ (b : Bool). b || leads_boxes rest) first.0 ∙ others.0, λ i. first.1 i + others.1 i)

pub flat_leads : (items : Items) → nesting_of items ≡ 0 → leads_boxes items ≡ false
flat_leads items k = (flat items k).0

pub flat_is_shipped : (direction : Direction) (setting : Setting) (reach : Reach) (items : Items) → nesting_of items ≡ 0 → shipped_of direction setting reach items ≡ count_of items
flat_is_shipped direction setting reach items k = alone_is_shipped direction setting reach items (flat items k).0 ∙ (flat items k).1
