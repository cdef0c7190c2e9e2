-- The definitions of delimiters, radicals and accents at characters of a small font, worked by hand (The TeXbook, appendix G, rules 11,
-- 12 and 19). The font is that of all families at all sizes.
use Rattle.std.proofs.Common.{◌≡◌, ℕ, ℤ, pos, negsuc, List, [], ◌∷◌, Ok, refl}
use Rattle.std.specs.Prelude.{replicate}
use Rattle.tx_num.specs.Glue.{zero_glue}
use Rattle.tx_node.specs.declared.character.Character.{Character as CharacterItem}
use Rattle.tx_node.specs.declared.head.Direction.{Direction}
use Rattle.tx_node.specs.declared.head.Direction.TheVariants.{Horizontal, Vertical}
use Rattle.tx_node.specs.declared.plain.Plain.TheVariants.{Character}
use Rattle.tx_node.specs.Items.{Item, PackedBox, plain, box_item}
use Rattle.tx_pack.specs.Packing.{packed as packed_box}
use Rattle.tx_tfm.specs.Format.{word_at}
use Rattle.tx_tfm.specs.LigKern.{boundary_code, boundary_start, character_start, command_of, found}
use Rattle.tx_tfm.specs.Scaling.{scaled}
use Rattle.tx_delim.specs.Boxes.{head_of, sized_box}
use Rattle.tx_delim.specs.Fitting.{fitting_within}
use Rattle.tx_delim.specs.Searching.{along}
use Rattle.tx_delim.specs.Stacking.{least_steps, least_tallness, stack_depth, stack_list, stack_of, stack_tallness, step_tallness, upper_part}
use Rattle.tx_delim.proofs.Lettered.{fonts, pt}
use Rattle.tx_mlist.specs.declared.kinds.Delimiter.{Delimiter}
use Rattle.tx_math.specs.declared.params.MathParams.{MathParams}
use Rattle.tx_math.specs.declared.signs.AccentPlace.{AccentPlace}
use Rattle.tx_math.specs.Accents.{accent_above, accent_box, accent_item, accent_place, accent_stack, as_high, moved_right, place_on, skew_of}
use Rattle.tx_math.specs.Boxes.{framed, kern, line, shifted}
use Rattle.tx_math.specs.Delimiters.{delimiter_item, sign_box, sign_of}
use Rattle.tx_math.specs.Fences.{farthest, fence_size}
use Rattle.tx_math.specs.Parameters.{Math}
use Rattle.tx_math.specs.Radicals.{barred, before_bar, clearance_of, first_clearance, radicand_size, radical, rooted, sign_size}

abbrev families : List ℕ
families = 1 ∷ 1 ∷ 1 ∷ 1 ∷ replicate 12 0

-- with this \delimiterfactor and \delimitershortfall
abbrev params : ℕ → ℤ → MathParams
params factor shortfall = record {
  families = record { text = families; script = families; script_script = families };
  thin_mu_skip = zero_glue;
  med_mu_skip = zero_glue;
  thick_mu_skip = zero_glue;
  delimiter_factor = pos factor;
  delimiter_shortfall = shortfall;
  null_delimiter_space = pos 78643;
  script_space = pos 0;
  bin_op_penalty = pos 0;
  rel_penalty = pos 0;
  packing = record { badness = pos 0; fuzz = pos 0; overfull_rule = pos 0 };
}

abbrev m : Math
m = record { fonts = fonts; params = params 901 (pt 5) }

-- what is 4pt high and 1pt deep reaches 3pt from the axis: 901 thousandths of 6pt are more than that less 5pt, but not than all of it
three-points : farthest m 2 (record { height = pt 4; depth = pt 1 }) ≡ pt 3
unfolding word_at scaled command_of boundary_start boundary_code character_start found along fitting_within sized_box least_tallness step_tallness least_steps stack_tallness stack_depth upper_part stack_list stack_of sign_box sign_of delimiter_item fence_size first_clearance radicand_size sign_size clearance_of barred before_bar rooted radical moved_right accent_place place_on accent_item accent_above accent_stack as_high accent_box framed shifted packed_box
three-points = refl

by-factor : fence_size m (pt 3) ≡ pos 354093
unfolding word_at scaled command_of boundary_start boundary_code character_start found along fitting_within sized_box least_tallness step_tallness least_steps stack_tallness stack_depth upper_part stack_list stack_of sign_box sign_of delimiter_item fence_size first_clearance radicand_size sign_size clearance_of barred before_bar rooted radical moved_right accent_place place_on accent_item accent_above accent_stack as_high accent_box framed shifted packed_box
by-factor = refl

by-shortfall : fence_size (record { fonts = fonts; params = params 901 (pos 0) }) (pt 3) ≡ pt 6
unfolding word_at scaled command_of boundary_start boundary_code character_start found along fitting_within sized_box least_tallness step_tallness least_steps stack_tallness stack_depth upper_part stack_list stack_of sign_box sign_of delimiter_item fence_size first_clearance radicand_size sign_size clearance_of barred before_bar rooted radical moved_right accent_place place_on accent_item accent_above accent_stack as_high accent_box framed shifted packed_box
by-shortfall = refl

-- a character in a box
abbrev small : ℕ → ℤ → ℤ → ℤ → Item
small code width height depth = plain (Character (record { font = 1; code = code; width = width; height = height; depth = depth }))

abbrev box_of : Direction → ℤ → ℤ → ℤ → List Item → PackedBox
box_of direction width height depth list = record { head = head_of direction width height depth; list = list }

abbrev delimiter : ℕ → ℕ → Delimiter
delimiter one other = record { small = record { family = 1; code = one }; large = record { family = 1; code = other } }

-- b is 8pt tall, so it is enough for 6pt, and stands 1pt higher to be centred about the axis; without a delimiter an empty box does
sign-b : sign_of m 2 (delimiter 97 99) (pt 6) ≡ Ok (record { shift = negsuc 65535; inner = box_of Horizontal (pt 7) (pt 5) (pt 3) (small 98 (pt 6) (pt 5) (pt 3) ∷ []) })
unfolding word_at scaled command_of boundary_start boundary_code character_start found along fitting_within sized_box least_tallness step_tallness least_steps stack_tallness stack_depth upper_part stack_list stack_of sign_box sign_of delimiter_item fence_size first_clearance radicand_size sign_size clearance_of barred before_bar rooted radical moved_right accent_place place_on accent_item accent_above accent_stack as_high accent_box framed shifted packed_box
sign-b = refl

no-sign : sign_of m 2 (record { small = record { family = 0; code = 0 }; large = record { family = 0; code = 0 } }) (pt 6) ≡ Ok (record { shift = negsuc 131071; inner = box_of Horizontal (pos 78643) (pos 0) (pos 0) [] })
unfolding word_at scaled command_of boundary_start boundary_code character_start found along fitting_within sized_box least_tallness step_tallness least_steps stack_tallness stack_depth upper_part stack_list stack_of sign_box sign_of delimiter_item fence_size first_clearance radicand_size sign_size clearance_of barred before_bar rooted radical moved_right accent_place place_on accent_item accent_above accent_stack as_high accent_box framed shifted packed_box
no-sign = refl

-- \radical with n for the sign and l below the line, in text style: the space above l is 1.25pt at first, so 7.25pt are asked; o is 10pt
-- tall, 2.75pt deeper than that stands above the bottom of l, and half of that makes the space 2.625pt
abbrev l : PackedBox
l = box_of Horizontal (pt 6) (pt 4) (pt 1) (small 108 (pt 6) (pt 4) (pt 1) ∷ [])

abbrev o : PackedBox
o = box_of Horizontal (pt 5) (pt 1) (pt 9) (small 111 (pt 5) (pt 1) (pt 9) ∷ [])

abbrev below_bar : PackedBox
below_bar = box_of Vertical (pt 6) (pos 565248) (pt 1) (kern (pt 1) ∷ line (pt 1) ∷ kern (pos 172032) ∷ box_item (pos 0) l ∷ [])

abbrev rooted_l : PackedBox
rooted_l = box_of Horizontal (pt 11) (pos 565248) (pos 155648) (box_item (negsuc 434175) o ∷ box_item (pos 0) below_bar ∷ [])

asked-of-sign : sign_size m 2 l ≡ pos 475136
unfolding word_at scaled command_of boundary_start boundary_code character_start found along fitting_within sized_box least_tallness step_tallness least_steps stack_tallness stack_depth upper_part stack_list stack_of sign_box sign_of delimiter_item fence_size first_clearance radicand_size sign_size clearance_of barred before_bar rooted radical moved_right accent_place place_on accent_item accent_above accent_stack as_high accent_box framed shifted packed_box
asked-of-sign = refl

rooted-l-is : radical m 2 (delimiter 110 110) l ≡ Ok rooted_l
unfolding word_at scaled command_of boundary_start boundary_code character_start found along fitting_within sized_box least_tallness step_tallness least_steps stack_tallness stack_depth upper_part stack_list stack_of sign_box sign_of delimiter_item fence_size first_clearance radicand_size sign_size clearance_of barred before_bar rooted radical moved_right accent_place place_on accent_item accent_above accent_stack as_high accent_box framed shifted packed_box
rooted-l-is = refl

-- \mathaccent with i on l: j fits, which is 6pt wide with its italic correction; \skewchar's kern moves it by 1pt; l isn't as high as
-- the x-height, so the accent comes down by 4pt, and all is 7pt high
abbrev accent_i : CharacterItem
accent_i = record { font = 1; code = 105; width = pt 2; height = pt 6; depth = pt 0 }

abbrev letter_l : CharacterItem
letter_l = record { font = 1; code = 108; width = pt 6; height = pt 4; depth = pt 1 }

abbrev place : AccentPlace
place = record { font = 1; code = 106; right = pt 1; down = pt 4 }

abbrev j : PackedBox
j = box_of Horizontal (pos 0) (pt 7) (pt 0) (small 106 (pt 5) (pt 7) (pt 0) ∷ [])

skewed : skew_of m letter_l ≡ pt 1
unfolding word_at scaled command_of boundary_start boundary_code character_start found along fitting_within sized_box least_tallness step_tallness least_steps stack_tallness stack_depth upper_part stack_list stack_of sign_box sign_of delimiter_item fence_size first_clearance radicand_size sign_size clearance_of barred before_bar rooted radical moved_right accent_place place_on accent_item accent_above accent_stack as_high accent_box framed shifted packed_box
skewed = refl

placed : accent_place m accent_i (pt 1) l ≡ place
unfolding word_at scaled command_of boundary_start boundary_code character_start found along fitting_within sized_box least_tallness step_tallness least_steps stack_tallness stack_depth upper_part stack_list stack_of sign_box sign_of delimiter_item fence_size first_clearance radicand_size sign_size clearance_of barred before_bar rooted radical moved_right accent_place place_on accent_item accent_above accent_stack as_high accent_box framed shifted packed_box
placed = refl

accented-l : accent_box m place l ≡ Ok (box_of Vertical (pt 6) (pt 7) (pt 1) (box_item (pt 1) j ∷ kern (negsuc 262143) ∷ box_item (pos 0) l ∷ []))
unfolding word_at scaled command_of boundary_start boundary_code character_start found along fitting_within sized_box least_tallness step_tallness least_steps stack_tallness stack_depth upper_part stack_list stack_of sign_box sign_of delimiter_item fence_size first_clearance radicand_size sign_size clearance_of barred before_bar rooted radical moved_right accent_place place_on accent_item accent_above accent_stack as_high accent_box framed shifted packed_box
accented-l = refl

-- with a superscript below it that makes it 11pt high the accent comes down by 11pt, and a kern of 4pt fills up
abbrev l_with_script : PackedBox
l_with_script = box_of Horizontal (pt 12) (pt 11) (pt 1) []

placed-again : place_on place l l_with_script ≡ record place { down = pt 11 }
unfolding word_at scaled command_of boundary_start boundary_code character_start found along fitting_within sized_box least_tallness step_tallness least_steps stack_tallness stack_depth upper_part stack_list stack_of sign_box sign_of delimiter_item fence_size first_clearance radicand_size sign_size clearance_of barred before_bar rooted radical moved_right accent_place place_on accent_item accent_above accent_stack as_high accent_box framed shifted packed_box
placed-again = refl

accented-script : accent_box m (record place { down = pt 11 }) l_with_script
    ≡ Ok (box_of Vertical (pt 12) (pt 11) (pt 1) (kern (pt 4) ∷ box_item (pt 1) j ∷ kern (negsuc 720895) ∷ box_item (pos 0) l_with_script ∷ []))
unfolding word_at scaled command_of boundary_start boundary_code character_start found along fitting_within sized_box least_tallness step_tallness least_steps stack_tallness stack_depth upper_part stack_list stack_of sign_box sign_of delimiter_item fence_size first_clearance radicand_size sign_size clearance_of barred before_bar rooted radical moved_right accent_place place_on accent_item accent_above accent_stack as_high accent_box framed shifted packed_box
accented-script = refl
