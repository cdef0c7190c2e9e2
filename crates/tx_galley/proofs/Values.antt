-- What may be assigned to a quantity of the page is a value of it.
use Rattle.std.proofs.Common.{◌≡◌, ℕ, ℤ, ◌<◌, ◌^◌, true, arith}
use Rattle.std.proofs.lemmas.Bool.Decides.{nat_tests}
use Rattle.std.specs.Prelude.{nat_lt, unsigned_abs}
use Rattle.tx_pagebuilder.specs.Quantities.{IsValue}
use Rattle.tx_prim.specs.declared.family.PageQuantity.{PageQuantity}
use Rattle.tx_prim.specs.declared.family.PageQuantity.TheVariants.{Goal, Total, Stretch, FilStretch, FillStretch, FilllStretch, Shrink, Depth, InsertPenalties}
use Rattle.tx_galley.specs.Assigning.{may_have}

below : (a b : ℕ) → nat_lt a b ≡ true → a < b
below a b is = grind (arith, nat_tests)

pub is_value : (quantity : PageQuantity) (value : ℤ) → may_have quantity value ≡ true → IsValue quantity value
is_value Goal value is = below (unsigned_abs value) (2 ^ 30) is
is_value Total value is = below (unsigned_abs value) (2 ^ 30) is
is_value Stretch value is = below (unsigned_abs value) (2 ^ 30) is
is_value FilStretch value is = below (unsigned_abs value) (2 ^ 30) is
is_value FillStretch value is = below (unsigned_abs value) (2 ^ 30) is
is_value FilllStretch value is = below (unsigned_abs value) (2 ^ 30) is
is_value Shrink value is = below (unsigned_abs value) (2 ^ 30) is
is_value Depth value is = below (unsigned_abs value) (2 ^ 30) is
is_value InsertPenalties value is = below (unsigned_abs value) (2 ^ 31) is
