-- What a list has with one more item, part by part.
use Rattle.std.proofs.Common.{◌≡◌, ℤ, ◌+ℤ◌}
use Rattle.std.specs.Int.{int_max}
use Rattle.tx_node.specs.declared.character.Character.{Character as CharacterItem}
use Rattle.tx_node.specs.declared.plain.Plain.TheVariants.{Character}
use Rattle.tx_node.specs.Items.{plain}
use Rattle.tx_pack.specs.declared.sums.Sums.{Sums}
use Rattle.tx_pack.specs.Sums.{beside}

-- a horizontal list's with a character, which has no glue
pub beside-character : (s : Sums) (c : CharacterItem) {width height depth : ℤ} → width ≡ s.width +ℤ c.width → height ≡ int_max s.height c.height → depth ≡ int_max s.depth c.depth
    → ◌≡◌ {A = Sums} (record { width = width; height = height; depth = depth; stretch = s.stretch; shrink = s.shrink }) (beside s (plain (Character c)))
beside-character s c width_is height_is depth_is = λ i. record { width = width_is i; height = height_is i; depth = depth_is i; stretch = s.stretch; shrink = s.shrink }
