-- The magnification that was taken last.
use Rattle.std.proofs.Common.{◌≡◌, ◌-◌, suc, List, [], ◌∷◌, length, None, Some, refl, ap, arith}
use Rattle.std.specs.Prelude.{slice_get}
use Rattle.tx_seen.specs.declared.item.Item.{Item}
use Rattle.tx_seen.specs.Magnified.{magnification_in, magnification_of}

pub last-is : (items : List Item) (item : Item) → slice_get items (length items - 1) ≡ Some item → magnification_in items ≡ magnification_of item
last-is [] item e = cc
last-is (first ∷ []) item e = let same : first ≡ item = cc in ap magnification_of same
last-is (first ∷ next ∷ more) item e =
    let back : length (first ∷ next ∷ more) - 1 ≡ suc (length (next ∷ more) - 1) = omega arith in
    last-is (next ∷ more) item (rw back at e)

pub last-none : (items : List Item) → slice_get items (length items - 1) ≡ None → magnification_in items ≡ None
last-none [] e = refl
last-none (first ∷ []) e = cc
last-none (first ∷ next ∷ more) e =
    let back : length (first ∷ next ∷ more) - 1 ≡ suc (length (next ∷ more) - 1) = omega arith in
    last-none (next ∷ more) (rw back at e)
