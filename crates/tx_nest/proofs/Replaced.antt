-- Whether the last item belongs to a discretionary's no-break text shows near the end of a list.
use Rattle.std.proofs.Common.{◌≡◌, ◌∙◌, ℕ, zero, suc, ◌-◌, ◌≤◌, Bool, false, List, [], ◌∷◌, length, drop, refl, sym, ap, arith}
use Rattle.std.specs.Prelude.{◌&&◌, ◌||◌, nat_lt, nat_le}
use Rattle.std.proofs.lemmas.List.{length-map, drop-map}
use Rattle.tx_node.specs.declared.node.Node.{Node}
use Rattle.tx_node.specs.Items.{Item, plain, shared, boxed, discretionary, adjustment, insertion, box_leaders}
use Rattle.tx_node.specs.Nodes.{item_of, list_of}
use Rattle.tx_nest.specs.Lasts.{reaches, is_replaced}

past : (distance : ℕ) (before after : Bool) → 256 ≤ distance → (before && (nat_lt distance 256 && after)) ≡ false
past distance before after h = grind (arith, h)

-- no discretionary's no-break text reaches so far
far : (distance : ℕ) (item : Item) → 256 ≤ distance → reaches distance item ≡ false
far distance (plain p) h = refl
far distance (shared s) h = refl
far distance (boxed shift head inner) h = refl
far distance (discretionary head pre post) h = past distance (nat_lt 0 distance) (nat_le distance head.replaced) h
far distance (adjustment inner) h = refl
far distance (insertion head inner) h = refl
far distance (box_leaders head repeated inner) h = refl

near-items : (n : ℕ) (list : List Item) → n ≤ length list - 256 → is_replaced (drop n list) ≡ is_replaced list
near-items zero list h = refl
near-items (suc n) [] h = refl
near-items (suc n) (item ∷ rest) h =
    near-items n rest (omega (arith, h)) ∙ sym (ap (λ b. b || is_replaced rest) (far (length rest) item (omega (arith, h))))

-- so what stands before the last 256 items changes nothing
pub near : (nodes : List Node) (n : ℕ) → n ≤ length nodes - 256 → is_replaced (list_of (drop n nodes)) ≡ is_replaced (list_of nodes)
near nodes n h = ap is_replaced (sym (drop-map item_of n nodes)) ∙ near-items n (list_of nodes) (omega (arith, h, length-map nodes item_of))
