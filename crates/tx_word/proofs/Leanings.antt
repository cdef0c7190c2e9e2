-- How large products of heights and slants are, and the box of an accent.
use Rattle.std.proofs.Common.{◌≡◌, ◌≤◌, ◌*◌, ◌^◌, ℕ, ℤ, pos, negsuc, List, [], ◌∷◌, unsigned_abs, FitsSigned, w64, refl, arith}
use Rattle.std.proofs.Math.Nat.{mul-le-mul_left}
use Rattle.std.proofs.lemmas.Int.{ints}
use Rattle.tx_node.specs.declared.character.Character.{Character as CharacterItem}
use Rattle.tx_node.specs.declared.head.BoxHead.{BoxHead}
use Rattle.tx_node.specs.declared.plain.Plain.TheVariants.{Character}
use Rattle.tx_node.specs.Items.{Item, plain}
use Rattle.tx_node.specs.Nodes.{IsBox}
use Rattle.tx_word.specs.Accents.{accent_box}

abs-small : (b : ℤ) → FitsSigned w64 b → unsigned_abs b ≤ 2 ^ 63
abs-small (pos n) fits = omega (arith, fits, ints)
abs-small (negsuc n) fits = omega (arith, fits, ints)

-- the second factor is one of 64 bits
pub product-small : (a b x y : ℤ) (n : ℕ) → x ≡ a → y ≡ b → FitsSigned w64 b → n ≡ unsigned_abs x * unsigned_abs y → n ≤ unsigned_abs a * 2 ^ 63
product-small a b x y n left right fits is = rw (is, left, right) (omega (arith, mul-le-mul_left (unsigned_abs a) (abs-small b fits)))

-- a box of one character nests no deeper, and has no glue
pub box-fits : (head : BoxHead) (list : List Item) (c : CharacterItem) → head ≡ (accent_box c).head → list ≡ plain (Character c) ∷ [] → IsBox head list
box-fits head list c framed made = rw (framed, made) (record { nesting = omega arith; is_set = tt; sums = refl })
