-- Worked examples of accents, by TeX: The Program, sections 1123 to 1125.
use Rattle.std.proofs.Common.{◌≡◌, ℤ, pos, negsuc, [], ◌∷◌, Some, None, refl}
use Rattle.tx_node.specs.declared.character.Character.{Character as CharacterItem}
use Rattle.tx_node.specs.declared.plain.Plain.TheVariants.{Character}
use Rattle.tx_node.specs.Items.{box_item, plain}
use Rattle.tx_word.specs.declared.accent.Accent.{Accent}
use Rattle.tx_word.specs.Accents.{accent_box, accented, back, kern, leaning, lowered, lowering, offset, shift_over, stored}

-- a character, and an accent in a font of this x-height and slant
abbrev sized : ℤ → ℤ → CharacterItem
sized width height = record { font = 1; code = 97; width = width; height = height; depth = pos 0 }

abbrev accent_with : ℤ → ℤ → ℤ → Accent
accent_with width x_height slant = record { character = sized width (pos 0); x_height = x_height; slant = slant }

-- 5sp wide over 2sp: a half is rounded away from zero
to-the-left : offset (accent_with (pos 5) (pos 0) (pos 0)) (sized (pos 2) (pos 0)) (pos 0) ≡ negsuc 1
unfolding leaning offset
to-the-left = refl

-- the character leans by a quarter of its 10pt, the accent by a quarter of the x-height of 5pt
leans : offset (accent_with (pos 0) (pos 327680) (pos 16384)) (sized (pos 0) (pos 655360)) (pos 16384) ≡ pos 81920
unfolding leaning offset
leans = refl

-- over a character of the x-height the accent stands by itself, over a higher one in a box, so much higher
level : accented (accent_with (pos 4) (pos 327680) (pos 0)) (sized (pos 6) (pos 327680)) (pos 0)
    ≡ Some (kern (pos 1) ∷ plain (Character (sized (pos 4) (pos 0))) ∷ kern (negsuc 4) ∷ plain (Character (sized (pos 6) (pos 327680))) ∷ [])
unfolding back leaning lowered lowering offset shift_over stored
level = refl

higher : accented (accent_with (pos 4) (pos 327680) (pos 0)) (sized (pos 6) (pos 655360)) (pos 0)
    ≡ Some (kern (pos 1) ∷ box_item (negsuc 327679) (accent_box (sized (pos 4) (pos 0))) ∷ kern (negsuc 4) ∷ plain (Character (sized (pos 6) (pos 655360))) ∷ [])
unfolding back leaning lowered lowering offset shift_over stored
higher = refl

-- a shift of 16384pt is no dimension
too-low : accented (accent_with (pos 4) (pos 1073741823) (pos 0)) (sized (pos 6) (negsuc 0)) (pos 0) ≡ None
unfolding back leaning lowered lowering offset shift_over stored
too-low = refl
