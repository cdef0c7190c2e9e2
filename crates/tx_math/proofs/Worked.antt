-- The definitions at formulas that were worked by hand, in the font t at its design size as the font of all families at all sizes: its
-- characters a and b are 5pt wide and 2.5pt high, a kern of 0.625pt stands between two a, its x-height is 5pt, its quad 10pt and its
-- axis 2.5pt, and its other parameters of mathematics are 0.
use Rattle.std.proofs.Common.{◌≡◌, ℕ, ◌*◌, ℤ, pos, negsuc, false, true, List, [], ◌∷◌, ◌++◌, Result, Ok, Err, None, refl}
use Rattle.std.specs.Prelude.{codes, decimal, replicate}
use Rattle.tx_num.specs.Glue.{GlueSpec, glue_of, zero_glue}
use Rattle.tx_node.specs.declared.head.Direction.TheVariants.{Horizontal, Vertical}
use Rattle.tx_node.specs.declared.head.Setting.TheVariants.{Natural}
use Rattle.tx_node.specs.declared.plain.Plain.TheVariants as horizontal
use Rattle.tx_node.specs.Items.{Item, PackedBox, plain, box_item}
use Rattle.tx_pack.specs.Packing.{packed as packed_box}
use Rattle.tx_hyphenate.specs.Lacking.{missing}
use Rattle.tx_tfm.specs.declared.metrics.Metrics.{Metrics}
use Rattle.tx_tfm.specs.declared.state.FontState.{FontState}
use Rattle.tx_tfm.specs.Fonts.{loaded_state, null_state}
use Rattle.tx_tfm.specs.Format.{tfm_of, word_at}
use Rattle.tx_tfm.specs.LigKern.{boundary_code, boundary_start, character_start, command_of, found}
use Rattle.tx_tfm.specs.Scaling.{scaled}
use Rattle.tx_mlist.specs.declared.kinds.AtomKind.{AtomKind}
use Rattle.tx_mlist.specs.declared.kinds.AtomKind.TheVariants.{Ord, Op, Bin, Rel, Inner}
use Rattle.tx_mlist.specs.declared.kinds.Delimiter.{Delimiter}
use Rattle.tx_mlist.specs.declared.kinds.FractionHead.{FractionHead}
use Rattle.tx_mlist.specs.declared.kinds.Limits.TheVariants.{Displayed}
use Rattle.tx_mlist.specs.declared.plain.PlainNoad.TheVariants.{Style, Nonscript, Glue}
use Rattle.tx_mlist.specs.Building.{between as fenced}
use Rattle.tx_mlist.specs.Items.{MathItem, Part, atom, fraction, choice, small, empty, letter, formula, nothing, gathered}
use Rattle.tx_math.specs.declared.error.MathError.{MathError}
use Rattle.tx_math.specs.declared.error.MathError.TheVariants.{NoFont, FewParameters}
use Rattle.tx_math.specs.declared.formula.Formula.{Formula}
use Rattle.tx_math.specs.declared.params.MathParams.{MathParams}
use Rattle.tx_math.specs.Boxes.{centred, centred_to, cleaned_list, framed, kern, reboxed, set_to, shifted}
use Rattle.tx_math.specs.Characters.{fetched_from}
use Rattle.tx_math.specs.Composing.{composed, composed_within, most_steps, step}
use Rattle.tx_math.specs.Entries.{entries_of}
use Rattle.tx_math.specs.Formula.{limits_below, limits_list, scripted_operator, scripted, boxed_list, fetched_nucleus, cleaned, list_nucleus, script_of, script_box, with_scripts, remade_nucleus, operator_by, limits_box, limited, unlimited, lined_up, fraction_items, converted, hlist, list_in, math_with}
use Rattle.tx_math.specs.Delimiters.{delimiter_item, sign_box, sign_of}
use Rattle.tx_math.specs.Fences.{fences_of}
use Rattle.tx_math.specs.Fractions.{before_right, between_delimiters, even_boxes, fraction_box, fraction_depth, fraction_height, fraction_list, fraction_of, list_by_line, space_above, space_below}
use Rattle.tx_math.specs.Mu.{elastic_in_points, fitting, glue_in_points, math_glue, math_kern, times_mu}
use Rattle.tx_math.specs.Operators.{above_operator, below_operator, evened, limited_depth, limited_height, limits_of, lower_from, lower_limit, moved_left, moved_right, reach_of, upper_from, upper_limit, widest}
use Rattle.tx_math.specs.Scripts.{above_bottom, below_top, first_lowered, first_raised, gap, script_shifts, scripts_item, stack_box, stack_list, stacked, subscript_item, superscript_item}

-- t.tfm, which has the characters a and b
abbrev metric_file : List ℕ
metric_file =
    0 ∷ 40 ∷ 0 ∷ 2 ∷ 0 ∷ 97 ∷ 0 ∷ 98 ∷ 0 ∷ 2 ∷ 0 ∷ 2 ∷ 0 ∷ 1 ∷ 0 ∷ 1 ∷ 0 ∷ 1 ∷ 0 ∷ 1 ∷ 0 ∷ 0 ∷ 0 ∷ 22 ∷ 0 ∷ 0 ∷ 0 ∷ 0 ∷ 0 ∷ 160 ∷ 0 ∷ 0 ∷
    1 ∷ 16 ∷ 1 ∷ 0 ∷ 1 ∷ 16 ∷ 0 ∷ 0 ∷ 0 ∷ 0 ∷ 0 ∷ 0 ∷ 0 ∷ 8 ∷ 0 ∷ 0 ∷ 0 ∷ 0 ∷ 0 ∷ 0 ∷ 0 ∷ 4 ∷ 0 ∷ 0 ∷ 0 ∷ 0 ∷ 0 ∷ 0 ∷ 0 ∷ 0 ∷ 0 ∷ 0 ∷
    128 ∷ 97 ∷ 128 ∷ 0 ∷ 0 ∷ 1 ∷ 0 ∷ 0 ∷ 0 ∷ 0 ∷ 0 ∷ 0 ∷ 0 ∷ 4 ∷ 0 ∷ 0 ∷ 0 ∷ 2 ∷ 0 ∷ 0 ∷ 0 ∷ 1 ∷ 0 ∷ 0 ∷ 0 ∷ 8 ∷ 0 ∷ 0 ∷ 0 ∷ 16 ∷ 0 ∷ 0 ∷
    0 ∷ 0 ∷ 0 ∷ 0 ∷ 0 ∷ 0 ∷ 0 ∷ 0 ∷ 0 ∷ 0 ∷ 0 ∷ 0 ∷ 0 ∷ 0 ∷ 0 ∷ 0 ∷ 0 ∷ 0 ∷ 0 ∷ 0 ∷ 0 ∷ 0 ∷ 0 ∷ 0 ∷ 0 ∷ 0 ∷ 0 ∷ 0 ∷ 0 ∷ 0 ∷ 0 ∷ 0 ∷
    0 ∷ 0 ∷ 0 ∷ 0 ∷ 0 ∷ 0 ∷ 0 ∷ 0 ∷ 0 ∷ 0 ∷ 0 ∷ 0 ∷ 0 ∷ 0 ∷ 0 ∷ 0 ∷ 0 ∷ 0 ∷ 0 ∷ 0 ∷ 0 ∷ 0 ∷ 0 ∷ 0 ∷ 0 ∷ 0 ∷ 0 ∷ 0 ∷ 0 ∷ 4 ∷ 0 ∷ 0 ∷ []

abbrev metrics_t : Metrics
metrics_t = record { file = tfm_of metric_file; size = 655360 }

abbrev fonts : List FontState
fonts = null_state ∷ loaded_state (record { name = 116 ∷ []; font = metrics_t }) (pos 45) (negsuc 0) ∷ []

-- font t in the families 0 to 3, and none in the others; all parameters as INITEX begins with them, but \thinmuskip 2mu, \medmuskip 4mu
-- and \thickmuskip 5mu
abbrev some_fonts : List ℕ
some_fonts = 1 ∷ 1 ∷ 1 ∷ 1 ∷ replicate 12 0

abbrev mus : ℕ → GlueSpec
mus n = glue_of (pos (n * 65536)) (pos 0) 0 (pos 0) 0

abbrev params : MathParams
params = record {
  families = record { text = some_fonts; script = some_fonts; script_script = some_fonts };
  thin_mu_skip = mus 2;
  med_mu_skip = mus 4;
  thick_mu_skip = mus 5;
  delimiter_factor = pos 0;
  delimiter_shortfall = pos 0;
  null_delimiter_space = pos 0;
  script_space = pos 0;
  bin_op_penalty = pos 700;
  rel_penalty = pos 500;
  packing = record { badness = pos 0; fuzz = pos 0; overfull_rule = pos 0 };
}

-- a formula in a style, without penalties
abbrev set_in : ℕ → List MathItem → Result Formula MathError
set_in style list = hlist (math_with fonts params) style false list

abbrev gives : List Item → Result Formula MathError
gives nodes = Ok (record { nodes = nodes; report = [] })

-- a character of family 1 as an atom, with scripts or without
abbrev a : Part
a = letter (record { family = 1; code = 97 })

abbrev b : Part
b = letter (record { family = 1; code = 98 })

abbrev alone : AtomKind → Part → MathItem
alone kind nucleus = atom kind nucleus empty empty

-- the same in a horizontal list
abbrev character : ℕ → Item
character code = plain (horizontal.Character (record { font = 1; code = code; width = pos 327680; height = pos 163840; depth = pos 0 }))

-- a space of 36408sp, which is 1mu, so often
abbrev space : ℕ → Item
space n = plain (horizontal.Glue (glue_of (pos (n * 36408)) (pos 0) 0 (pos 0) 0))

-- $b\mathbin bb$: 3 times 5pt and twice 4mu of 36408sp, 1274304sp in all
one-operation : set_in 2 (alone Ord b ∷ alone Bin b ∷ alone Ord b ∷ []) ≡ gives (character 98 ∷ space 4 ∷ character 98 ∷ space 4 ∷ character 98 ∷ [])
unfolding word_at scaled command_of boundary_start boundary_code character_start found converted list_in entries_of composed composed_within most_steps step framed times_mu math_glue math_kern fetched_from subscript_item superscript_item even_boxes fraction_list fraction_box evened upper_limit lower_limit fetched_nucleus cleaned list_nucleus script_of script_box with_scripts remade_nucleus operator_by limits_box limited unlimited lined_up fraction_items first_lowered below_top first_raised above_bottom space_above space_below elastic_in_points glue_in_points fitting gap stacked stack_box shifted set_to centred centred_to above_operator below_operator widest reach_of limited_height limited_depth fraction_height fraction_depth limits_list scripted_operator scripted boxed_list stack_list moved_left moved_right upper_from lower_from script_shifts list_by_line limits_below
one-operation = refl

-- $-b$, with b for the sign: a Bin that is first is an Ord (The TeXbook, chapter 18)
sign : set_in 2 (alone Bin b ∷ alone Ord b ∷ []) ≡ gives (character 98 ∷ character 98 ∷ [])
unfolding word_at scaled command_of boundary_start boundary_code character_start found converted list_in entries_of composed composed_within most_steps step framed times_mu math_glue math_kern fetched_from subscript_item superscript_item even_boxes fraction_list fraction_box evened upper_limit lower_limit fetched_nucleus cleaned list_nucleus script_of script_box with_scripts remade_nucleus operator_by limits_box limited unlimited lined_up fraction_items first_lowered below_top first_raised above_bottom space_above space_below elastic_in_points glue_in_points fitting gap stacked stack_box shifted set_to centred centred_to above_operator below_operator widest reach_of limited_height limited_depth fraction_height fraction_depth limits_list scripted_operator scripted boxed_list stack_list moved_left moved_right upper_from lower_from script_shifts list_by_line limits_below
sign = refl

-- $b+=b$: a Bin before a Rel is an Ord
before-relation : set_in 2 (alone Ord b ∷ alone Bin b ∷ alone Rel b ∷ alone Ord b ∷ []) ≡ gives (character 98 ∷ character 98 ∷ space 5 ∷ character 98 ∷ space 5 ∷ character 98 ∷ [])
unfolding word_at scaled command_of boundary_start boundary_code character_start found converted list_in entries_of composed composed_within most_steps step framed times_mu math_glue math_kern fetched_from subscript_item superscript_item even_boxes fraction_list fraction_box evened upper_limit lower_limit fetched_nucleus cleaned list_nucleus script_of script_box with_scripts remade_nucleus operator_by limits_box limited unlimited lined_up fraction_items first_lowered below_top first_raised above_bottom space_above space_below elastic_in_points glue_in_points fitting gap stacked stack_box shifted set_to centred centred_to above_operator below_operator widest reach_of limited_height limited_depth fraction_height fraction_depth limits_list scripted_operator scripted boxed_list stack_list moved_left moved_right upper_from lower_from script_shifts list_by_line limits_below
before-relation = refl

-- $b=-b$: and one behind a Rel, between which and the Ord no space stands
behind-relation : set_in 2 (alone Ord b ∷ alone Rel b ∷ alone Bin b ∷ alone Ord b ∷ []) ≡ gives (character 98 ∷ space 5 ∷ character 98 ∷ space 5 ∷ character 98 ∷ character 98 ∷ [])
unfolding word_at scaled command_of boundary_start boundary_code character_start found converted list_in entries_of composed composed_within most_steps step framed times_mu math_glue math_kern fetched_from subscript_item superscript_item even_boxes fraction_list fraction_box evened upper_limit lower_limit fetched_nucleus cleaned list_nucleus script_of script_box with_scripts remade_nucleus operator_by limits_box limited unlimited lined_up fraction_items first_lowered below_top first_raised above_bottom space_above space_below elastic_in_points glue_in_points fitting gap stacked stack_box shifted set_to centred centred_to above_operator below_operator widest reach_of limited_height limited_depth fraction_height fraction_depth limits_list scripted_operator scripted boxed_list stack_list moved_left moved_right upper_from lower_from script_shifts list_by_line limits_below
behind-relation = refl

-- in script style these spaces are none
small-spaces : set_in 4 (alone Ord b ∷ alone Rel b ∷ alone Ord b ∷ []) ≡ gives (character 98 ∷ character 98 ∷ character 98 ∷ [])
unfolding word_at scaled command_of boundary_start boundary_code character_start found converted list_in entries_of composed composed_within most_steps step framed times_mu math_glue math_kern fetched_from subscript_item superscript_item even_boxes fraction_list fraction_box evened upper_limit lower_limit fetched_nucleus cleaned list_nucleus script_of script_box with_scripts remade_nucleus operator_by limits_box limited unlimited lined_up fraction_items first_lowered below_top first_raised above_bottom space_above space_below elastic_in_points glue_in_points fitting gap stacked stack_box shifted set_to centred centred_to above_operator below_operator widest reach_of limited_height limited_depth fraction_height fraction_depth limits_list scripted_operator scripted boxed_list stack_list moved_left moved_right upper_from lower_from script_shifts list_by_line limits_below
small-spaces = refl

-- two a that follow one another have their kern, and an operator's space stands before an a in all styles
kerned : set_in 2 (alone Ord a ∷ alone Ord a ∷ []) ≡ gives (character 97 ∷ kern (pos 40960) ∷ character 97 ∷ [])
unfolding word_at scaled command_of boundary_start boundary_code character_start found converted list_in entries_of composed composed_within most_steps step framed times_mu math_glue math_kern fetched_from subscript_item superscript_item even_boxes fraction_list fraction_box evened upper_limit lower_limit fetched_nucleus cleaned list_nucleus script_of script_box with_scripts remade_nucleus operator_by limits_box limited unlimited lined_up fraction_items first_lowered below_top first_raised above_bottom space_above space_below elastic_in_points glue_in_points fitting gap stacked stack_box shifted set_to centred centred_to above_operator below_operator widest reach_of limited_height limited_depth fraction_height fraction_depth limits_list scripted_operator scripted boxed_list stack_list moved_left moved_right upper_from lower_from script_shifts list_by_line limits_below
kerned = refl

-- \nonscript in script style: the glue behind it vanishes, and it is glue itself
hidden : set_in 4 (alone Ord b ∷ small Nonscript ∷ small (Glue (mus 4)) ∷ alone Ord b ∷ []) ≡ gives (character 98 ∷ plain (horizontal.Glue zero_glue) ∷ character 98 ∷ [])
unfolding word_at scaled command_of boundary_start boundary_code character_start found converted list_in entries_of composed composed_within most_steps step framed times_mu math_glue math_kern fetched_from subscript_item superscript_item even_boxes fraction_list fraction_box evened upper_limit lower_limit fetched_nucleus cleaned list_nucleus script_of script_box with_scripts remade_nucleus operator_by limits_box limited unlimited lined_up fraction_items first_lowered below_top first_raised above_bottom space_above space_below elastic_in_points glue_in_points fitting gap stacked stack_box shifted set_to centred centred_to above_operator below_operator widest reach_of limited_height limited_depth fraction_height fraction_depth limits_list scripted_operator scripted boxed_list stack_list moved_left moved_right upper_from lower_from script_shifts list_by_line limits_below
hidden = refl

shown : set_in 2 (alone Ord b ∷ small Nonscript ∷ small (Glue (mus 4)) ∷ alone Ord b ∷ []) ≡ gives (character 98 ∷ plain (horizontal.Glue zero_glue) ∷ space 4 ∷ character 98 ∷ [])
unfolding word_at scaled command_of boundary_start boundary_code character_start found converted list_in entries_of composed composed_within most_steps step framed times_mu math_glue math_kern fetched_from subscript_item superscript_item even_boxes fraction_list fraction_box evened upper_limit lower_limit fetched_nucleus cleaned list_nucleus script_of script_box with_scripts remade_nucleus operator_by limits_box limited unlimited lined_up fraction_items first_lowered below_top first_raised above_bottom space_above space_below elastic_in_points glue_in_points fitting gap stacked stack_box shifted set_to centred centred_to above_operator below_operator widest reach_of limited_height limited_depth fraction_height fraction_depth limits_list scripted_operator scripted boxed_list stack_list moved_left moved_right upper_from lower_from script_shifts list_by_line limits_below
shown = refl

-- \mathchoice takes the list of the style, and a style that is changed in it goes on behind it: the Rel and the Ord are set in script style
taken : set_in 2 (choice nothing (gathered (alone Ord b ∷ small (Style 4) ∷ [])) nothing nothing ∷ alone Rel b ∷ alone Ord b ∷ []) ≡ gives (character 98 ∷ character 98 ∷ character 98 ∷ [])
unfolding word_at scaled command_of boundary_start boundary_code character_start found converted list_in entries_of composed composed_within most_steps step framed times_mu math_glue math_kern fetched_from subscript_item superscript_item even_boxes fraction_list fraction_box evened upper_limit lower_limit fetched_nucleus cleaned list_nucleus script_of script_box with_scripts remade_nucleus operator_by limits_box limited unlimited lined_up fraction_items first_lowered below_top first_raised above_bottom space_above space_below elastic_in_points glue_in_points fitting gap stacked stack_box shifted set_to centred centred_to above_operator below_operator widest reach_of limited_height limited_depth fraction_height fraction_depth limits_list scripted_operator scripted boxed_list stack_list moved_left moved_right upper_from lower_from script_shifts list_by_line limits_below
taken = refl

-- a character that its font lacks is told, and nothing is set; a family without a font is an error
lacking : set_in 2 (alone Ord (letter (record { family = 0; code = 99 })) ∷ []) ≡ Ok (record { nodes = []; report = codes "missing character " ++ (decimal 99 ++ (codes " in " ++ (codes "t" ++ 10 ∷ []))) })
unfolding word_at scaled command_of boundary_start boundary_code character_start found converted list_in entries_of composed composed_within most_steps step missing framed times_mu math_glue math_kern fetched_from subscript_item superscript_item even_boxes fraction_list fraction_box evened upper_limit lower_limit fetched_nucleus cleaned list_nucleus script_of script_box with_scripts remade_nucleus operator_by limits_box limited unlimited lined_up fraction_items first_lowered below_top first_raised above_bottom space_above space_below elastic_in_points glue_in_points fitting gap stacked stack_box shifted set_to centred centred_to above_operator below_operator widest reach_of limited_height limited_depth fraction_height fraction_depth limits_list scripted_operator scripted boxed_list stack_list moved_left moved_right upper_from lower_from script_shifts list_by_line limits_below
lacking = refl

no-font : set_in 2 (alone Ord (letter (record { family = 4; code = 98 })) ∷ []) ≡ Err NoFont
unfolding word_at scaled command_of boundary_start boundary_code character_start found converted list_in entries_of composed composed_within most_steps step framed times_mu math_glue math_kern fetched_from subscript_item superscript_item even_boxes fraction_list fraction_box evened upper_limit lower_limit fetched_nucleus cleaned list_nucleus script_of script_box with_scripts remade_nucleus operator_by limits_box limited unlimited lined_up fraction_items first_lowered below_top first_raised above_bottom space_above space_below elastic_in_points glue_in_points fitting gap stacked stack_box shifted set_to centred centred_to above_operator below_operator widest reach_of limited_height limited_depth fraction_height fraction_depth limits_list scripted_operator scripted boxed_list stack_list moved_left moved_right upper_from lower_from script_shifts list_by_line limits_below
no-font = refl

-- without the fonts of all sizes no formula is set
few : hlist (math_with (null_state ∷ []) params) 2 false [] ≡ Err FewParameters
few = refl

-- the box of a character
abbrev hbox_of : ℤ → ℤ → ℤ → List Item → PackedBox
hbox_of width height depth list = record { head = record { direction = Horizontal; width = width; height = height; depth = depth; setting = Natural }; list = list }

abbrev vbox_of : ℤ → ℤ → ℤ → List Item → PackedBox
vbox_of width height depth list = record { head = record { direction = Vertical; width = width; height = height; depth = depth; setting = Natural }; list = list }

abbrev box_b : PackedBox
box_b = hbox_of (pos 327680) (pos 163840) (pos 0) (character 98 ∷ [])

-- $b_b^b$: the superscript is raised to a quarter of the x-height, 1.25pt; the two scripts overlap by as much, so the subscript is
-- lowered by that; then both are raised by 2.75pt, so that the superscript stands at four fifths of the x-height, 4pt
abbrev stack : PackedBox
stack = vbox_of (pos 327680) (pos 327680) (pos 0) (box_item (pos 0) box_b ∷ kern (pos 0) ∷ box_item (pos 0) box_b ∷ [])

both-scripts : set_in 2 (atom Ord b b b ∷ []) ≡ gives (character 98 ∷ box_item (negsuc 98303) stack ∷ [])
unfolding word_at scaled command_of boundary_start boundary_code character_start found converted list_in entries_of composed composed_within most_steps step cleaned_list scripts_item packed_box framed times_mu math_glue math_kern fetched_from subscript_item superscript_item even_boxes fraction_list fraction_box evened upper_limit lower_limit fetched_nucleus cleaned list_nucleus script_of script_box with_scripts remade_nucleus operator_by limits_box limited unlimited lined_up fraction_items first_lowered below_top first_raised above_bottom space_above space_below elastic_in_points glue_in_points fitting gap stacked stack_box shifted set_to centred centred_to above_operator below_operator widest reach_of limited_height limited_depth fraction_height fraction_depth limits_list scripted_operator scripted boxed_list stack_list moved_left moved_right upper_from lower_from script_shifts list_by_line limits_below
both-scripts = refl

-- $b^b$ and $b_b$: 1.25pt up, and down by as much as the subscript's top would be above four fifths of the x-height, which is nothing
superscript : set_in 2 (atom Ord b b empty ∷ []) ≡ gives (character 98 ∷ box_item (negsuc 81919) box_b ∷ [])
unfolding word_at scaled command_of boundary_start boundary_code character_start found converted list_in entries_of composed composed_within most_steps step cleaned_list packed_box framed times_mu math_glue math_kern fetched_from subscript_item superscript_item even_boxes fraction_list fraction_box evened upper_limit lower_limit fetched_nucleus cleaned list_nucleus script_of script_box with_scripts remade_nucleus operator_by limits_box limited unlimited lined_up fraction_items first_lowered below_top first_raised above_bottom space_above space_below elastic_in_points glue_in_points fitting gap stacked stack_box shifted set_to centred centred_to above_operator below_operator widest reach_of limited_height limited_depth fraction_height fraction_depth limits_list scripted_operator scripted boxed_list stack_list moved_left moved_right upper_from lower_from script_shifts list_by_line limits_below
superscript = refl

subscript : set_in 2 (atom Ord b empty b ∷ []) ≡ gives (character 98 ∷ box_item (pos 0) box_b ∷ [])
unfolding word_at scaled command_of boundary_start boundary_code character_start found converted list_in entries_of composed composed_within most_steps step cleaned_list packed_box framed times_mu math_glue math_kern fetched_from subscript_item superscript_item even_boxes fraction_list fraction_box evened upper_limit lower_limit fetched_nucleus cleaned list_nucleus script_of script_box with_scripts remade_nucleus operator_by limits_box limited unlimited lined_up fraction_items first_lowered below_top first_raised above_bottom space_above space_below elastic_in_points glue_in_points fitting gap stacked stack_box shifted set_to centred centred_to above_operator below_operator widest reach_of limited_height limited_depth fraction_height fraction_depth limits_list scripted_operator scripted boxed_list stack_list moved_left moved_right upper_from lower_from script_shifts list_by_line limits_below
subscript = refl

-- $\displaystyle\mathop b^b$: the operator is centred about the axis, so it stands 1.25pt higher, and its limit right above it
abbrev operator_b : PackedBox
operator_b = hbox_of (pos 327680) (pos 245760) (pos 0) (box_item (negsuc 81919) box_b ∷ [])

abbrev limited_b : PackedBox
limited_b = vbox_of (pos 327680) (pos 409600) (pos 0) (kern (pos 0) ∷ box_item (pos 0) box_b ∷ kern (pos 0) ∷ box_item (pos 0) operator_b ∷ [])

limits-above : set_in 0 (atom (Op Displayed) b b empty ∷ []) ≡ gives (box_item (pos 0) limited_b ∷ [])
unfolding word_at scaled command_of boundary_start boundary_code character_start found converted list_in entries_of composed composed_within most_steps step cleaned_list packed_box reboxed limits_of framed times_mu math_glue math_kern fetched_from subscript_item superscript_item even_boxes fraction_list fraction_box evened upper_limit lower_limit fetched_nucleus cleaned list_nucleus script_of script_box with_scripts remade_nucleus operator_by limits_box limited unlimited lined_up fraction_items first_lowered below_top first_raised above_bottom space_above space_below elastic_in_points glue_in_points fitting gap stacked stack_box shifted set_to centred centred_to above_operator below_operator widest reach_of limited_height limited_depth fraction_height fraction_depth limits_list scripted_operator scripted boxed_list stack_list moved_left moved_right upper_from lower_from script_shifts list_by_line limits_below
limits-above = refl

-- ${b\over b}$ where lines have no thickness: both are moved by 1.25pt until they touch; the empty boxes on both sides stand at the axis
abbrev side : Item
side = box_item (negsuc 163839) (hbox_of (pos 0) (pos 0) (pos 0) [])

abbrev quotient : PackedBox
quotient = vbox_of (pos 327680) (pos 245760) (pos 81920) (box_item (pos 0) box_b ∷ kern (pos 0) ∷ box_item (pos 0) box_b ∷ [])

abbrev between : PackedBox
between = hbox_of (pos 327680) (pos 245760) (pos 81920) (side ∷ box_item (pos 0) quotient ∷ side ∷ [])

abbrev no_delimiter : Delimiter
no_delimiter = record { small = record { family = 0; code = 0 }; large = record { family = 0; code = 0 } }

abbrev over : FractionHead
over = record { thickness = None; left = no_delimiter; right = no_delimiter }

one-fraction : set_in 2 (fraction over (gathered (alone Ord b ∷ [])) (gathered (alone Ord b ∷ [])) ∷ []) ≡ gives (box_item (pos 0) between ∷ [])
unfolding word_at scaled command_of boundary_start boundary_code character_start found converted list_in entries_of composed composed_within most_steps step cleaned_list packed_box reboxed fraction_of before_right between_delimiters delimiter_item sign_of sign_box framed times_mu math_glue math_kern fetched_from subscript_item superscript_item even_boxes fraction_list fraction_box evened upper_limit lower_limit fetched_nucleus cleaned list_nucleus script_of script_box with_scripts remade_nucleus operator_by limits_box limited unlimited lined_up fraction_items first_lowered below_top first_raised above_bottom space_above space_below elastic_in_points glue_in_points fitting gap stacked stack_box shifted set_to centred centred_to above_operator below_operator widest reach_of limited_height limited_depth fraction_height fraction_depth limits_list scripted_operator scripted boxed_list stack_list moved_left moved_right upper_from lower_from script_shifts list_by_line limits_below
one-fraction = refl

-- $\left.b\right.$: 5pt wide, since no delimiter has a width; it is an Inner
abbrev enclosed : PackedBox
enclosed = hbox_of (pos 327680) (pos 163840) (pos 0) (side ∷ character 98 ∷ side ∷ [])

left-right : set_in 2 (atom Inner (formula (gathered (fenced no_delimiter no_delimiter (alone Ord b ∷ [])))) empty empty ∷ []) ≡ gives (box_item (pos 0) enclosed ∷ [])
unfolding word_at scaled command_of boundary_start boundary_code character_start found converted list_in entries_of composed composed_within most_steps step cleaned_list packed_box reboxed fraction_of fences_of before_right between_delimiters delimiter_item sign_of sign_box framed times_mu math_glue math_kern fetched_from subscript_item superscript_item even_boxes fraction_list fraction_box evened upper_limit lower_limit fetched_nucleus cleaned list_nucleus script_of script_box with_scripts remade_nucleus operator_by limits_box limited unlimited lined_up fraction_items first_lowered below_top first_raised above_bottom space_above space_below elastic_in_points glue_in_points fitting gap stacked stack_box shifted set_to centred centred_to above_operator below_operator widest reach_of limited_height limited_depth fraction_height fraction_depth limits_list scripted_operator scripted boxed_list stack_list moved_left moved_right upper_from lower_from script_shifts list_by_line limits_below
left-right = refl

-- in a paragraph a penalty stands behind an operation and a relation, but not at the end
penalties : hlist (math_with fonts params) 2 true (alone Ord b ∷ alone Bin b ∷ alone Ord b ∷ alone Rel b ∷ [])
    ≡ gives (character 98 ∷ space 4 ∷ character 98 ∷ plain (horizontal.Penalty (pos 700)) ∷ space 4 ∷ character 98 ∷ space 5 ∷ character 98 ∷ [])
unfolding word_at scaled command_of boundary_start boundary_code character_start found converted list_in entries_of composed composed_within most_steps step framed times_mu math_glue math_kern fetched_from subscript_item superscript_item even_boxes fraction_list fraction_box evened upper_limit lower_limit fetched_nucleus cleaned list_nucleus script_of script_box with_scripts remade_nucleus operator_by limits_box limited unlimited lined_up fraction_items first_lowered below_top first_raised above_bottom space_above space_below elastic_in_points glue_in_points fitting gap stacked stack_box shifted set_to centred centred_to above_operator below_operator widest reach_of limited_height limited_depth fraction_height fraction_depth limits_list scripted_operator scripted boxed_list stack_list moved_left moved_right upper_from lower_from script_shifts list_by_line limits_below
penalties = refl
