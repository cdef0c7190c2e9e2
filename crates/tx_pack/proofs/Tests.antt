-- What tests of sums tell.
use Rattle.std.proofs.Common.{◌≡◌, ℤ, Bool, true, false, ◌&&◌, Some, None, refl, ap, ◌∙◌, if◌then◌else◌}
use Rattle.std.proofs.lemmas.Bool.{ltb-true}
use Rattle.tx_num.specs.Glue.{IsDimension}
use Rattle.tx_node.specs.declared.head.Direction.{Direction}
use Rattle.tx_node.specs.Items.{Item}
use Rattle.tx_pack.specs.declared.sums.Orders.{Orders}
use Rattle.tx_pack.specs.declared.sums.Sums.{Sums}
use Rattle.tx_num.specs.Limits.{fits}
use Rattle.tx_pack.specs.Sums.{orders_fit, all_fit, asked_fit, joined, joined_if_fit, AreSmall, IsSmall}

-- both of two tests
pub both : {a b : Bool} → (a && b) ≡ true → (a ≡ true) × (b ≡ true)
both {a = true} {b = true} e = (refl, refl)
both {a = true} {b = false} e = absurd (cc)
both {a = false} {b = true} e = absurd (cc)
both {a = false} {b = false} e = absurd (cc)

pub together : {a b : Bool} → a ≡ true → b ≡ true → (a && b) ≡ true
together {a = true} {b = true} e f = refl
together {a = true} {b = false} e f = f
together {a = false} {b = true} e f = e
together {a = false} {b = false} e f = e

pub fit-is : (z : ℤ) → fits z ≡ true → IsDimension z
fit-is z e = ltb-true _ _ e

orders-are : (o : Orders) → orders_fit o ≡ true → AreSmall o
orders-are o e = record {
  normal = fit-is o.normal (both (both e).0).0;
  fil = fit-is o.fil (both (both e).0).1;
  fill = fit-is o.fill (both (both e).1).0;
  filll = fit-is o.filll (both (both e).1).1;
}

pub sums-are : (s : Sums) → all_fit s ≡ true → IsSmall s
sums-are s e = record {
  width = fit-is s.width (both (both (both e).0).0).0;
  height = fit-is s.height (both (both (both e).0).0).1;
  depth = fit-is s.depth (both (both e).0).1;
  stretch = orders-are s.stretch (both (both e).1).0;
  shrink = orders-are s.shrink (both (both e).1).1;
}

-- a list's sums with one more item, which fit
pub joined-fits : (direction : Direction) (s : Sums) (item : Item) {more : Sums} → more ≡ joined direction s item → true ≡ asked_fit direction item → true ≡ all_fit more
    → Some more ≡ joined_if_fit direction s item
joined-fits direction s item more_is asked_is all_is = λ i. if asked_is i && (all_is ∙ ap all_fit more_is) i then Some (more_is i) else None
