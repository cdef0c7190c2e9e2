-- The definitions at paragraphs that were worked by hand. Knuth's TeX sets the first and the third so; of two chains with the same
-- demerits, of which the second has, it takes the other one.
use Rattle.std.proofs.Common.{◌≡◌, ℕ, ◌*◌, List, [], ◌∷◌, refl}
use Rattle.std.specs.Prelude.{ℤ, false, pos, negsuc, ◌++◌, codes, decimal, Some, Ok}
use Rattle.tx_num.specs.Decimals.{scaled_text_of}
use Rattle.tx_num.specs.Glue.{GlueSpec, glue_of}
use Rattle.tx_linebreak.specs.declared.answer.Chosen.{Chosen}
use Rattle.tx_linebreak.specs.declared.params.LineShape.{LineShape}
use Rattle.tx_linebreak.specs.Breaks.{penalty_at, start_of}
use Rattle.tx_linebreak.specs.Lines.{demerits_of, line_fit, line_totals}
use Rattle.tx_linebreak.specs.Chains.{chains_of, dies_at, ending_at, is_feasible, with_line, with_line_taken}
use Rattle.tx_linebreak.specs.Chosen.{answer_by_trial, answers, beats, is_preferred}
use Rattle.tx_node.specs.declared.head.BoxHead.{BoxHead}
use Rattle.tx_node.specs.declared.head.Change.TheVariants.{Stretch}
use Rattle.tx_node.specs.declared.head.Direction.TheVariants.{Horizontal}
use Rattle.tx_node.specs.declared.head.Setting.{Setting}
use Rattle.tx_node.specs.declared.head.Setting.TheVariants.{Natural, Set}
use Rattle.tx_node.specs.declared.plain.KernKind.TheVariants.{Explicit}
use Rattle.tx_node.specs.declared.plain.Plain.TheVariants.{Kern, Glue, Penalty}
use Rattle.tx_node.specs.declared.plain.Shared.TheVariants.{Rule}
use Rattle.tx_node.specs.Items.{Item, none, plain, shared, boxed, discretionary, adjustment, items_of}
use Rattle.tx_pack.specs.Packing.{packed}
use Rattle.tx_par.specs.declared.params.ParParams.{ParParams}
use Rattle.tx_par.specs.Ended.{ended}
use Rattle.tx_par.specs.LineLists.{empty_discretionary}
use Rattle.tx_par.specs.Paragraphs.{line_to, lines_of}
use Rattle.tx_par.specs.Pieces.{pieces_of}
use Rattle.tx_par.specs.Setting.{with_line as set_line}

-- so many points
abbrev pt : ℕ → ℤ
pt n = pos (n * 65536)

abbrev no_glue : GlueSpec
no_glue = glue_of (pos 0) (pos 0) 0 (pos 0) 0

abbrev rigid_glue : ℤ → Item
rigid_glue width = plain (Glue (glue_of width (pos 0) 0 (pos 0) 0))

-- the parameters as INITEX begins with them, and \parfillskip, where no leading is to come before the first line
abbrev initex : GlueSpec → ParParams
initex par_fill_skip = record {
  breaking = record {
    pretolerance = pos 0;
    tolerance = pos 10000;
    emergency_stretch = pos 0;
    line_penalty = pos 0;
    hyphen_penalty = pos 0;
    ex_hyphen_penalty = pos 0;
    adj_demerits = pos 0;
    double_hyphen_demerits = pos 0;
    final_hyphen_demerits = pos 0;
    looseness = pos 0;
    left_skip = no_glue;
    right_skip = no_glue;
  };
  packing = record { badness = pos 0; fuzz = pos 0; overfull_rule = pos 0 };
  leading = record { baseline_skip = no_glue; line_skip = no_glue; line_skip_limit = pos 0 };
  par_fill_skip = par_fill_skip;
  inter_line_penalty = pos 0;
  club_penalty = pos 0;
  widow_penalty = pos 0;
  broken_penalty = pos 0;
  prev_depth = negsuc 65535999;
}

-- lines of 90pt
abbrev wide : List LineShape
wide = record { indent = pos 0; width = pt 90 } ∷ []

abbrev answer_is : List ℕ → ℤ → ℕ → List ℕ → Chosen
answer_is chain total pass forced = record { chain = chain; total = total; pass = pass; forced = forced; looseness = pos 0 }

-- a horizontal box of this width and height
abbrev head : ℤ → ℤ → Setting → BoxHead
head width height setting = record { direction = Horizontal; width = width; height = height; depth = pos 0; setting = setting }

abbrev empty_box : ℤ → Item
empty_box width = boxed (pos 0) (head width (pos 0) Natural) none

-- what stands at the end of the last line, and at the end of the others
abbrev last_end : GlueSpec → List Item
last_end par_fill_skip = plain (Penalty (pos 10000)) ∷ plain (Glue par_fill_skip) ∷ plain (Glue no_glue) ∷ []

-- a rule of 40pt by 5pt, and \parfillskip that stretches: one line of 90pt, which is as high as the rule
abbrev fil : GlueSpec
fil = glue_of (pos 0) (pt 1) 1 (pos 0) 0

abbrev bar : Item
bar = shared (Rule (record { width = Some (pt 40); height = Some (pt 5); depth = Some (pos 0) }))

one-answer : answer_by_trial (pieces_of (ended fil (bar ∷ []))) wide (initex fil).breaking ≡ Some (answer_is (3 ∷ []) (pos 0) 1 [])
unfolding answer_by_trial answers is_preferred beats chains_of ending_at with_line with_line_taken is_feasible dies_at demerits_of line_fit line_totals start_of penalty_at
one-answer = refl

abbrev one_line : Item
one_line = boxed (pos 0) (head (pt 90) (pt 5) (Set (record { change = Stretch; order = 1; total = pt 1; excess = pt 50 }))) (items_of (bar ∷ last_end fil))

one-line : lines_of (ended fil (bar ∷ [])) wide (initex fil) (answer_is (3 ∷ []) (pos 0) 1 []) ≡ Ok (record { nodes = one_line ∷ []; last = 0; chosen = answer_is (3 ∷ []) (pos 0) 1 []; depth = pos 0; badness = pos 0; report = [] })
unfolding lines_of line_to set_line packed start_of
one-line = refl

abbrev underfull : List ℕ
underfull = codes "underfull hbox " ++ decimal 10000 ++ 10 ∷ []

-- three boxes of 40pt with glue of 10pt between them: two lines, of which the first is underfull
abbrev three_boxes : List Item
three_boxes = empty_box (pt 40) ∷ rigid_glue (pt 10) ∷ empty_box (pt 40) ∷ rigid_glue (pt 10) ∷ empty_box (pt 40) ∷ []

abbrev by_two : Chosen
by_two = answer_is (1 ∷ 7 ∷ []) (pos 100000000) 2 []

two-answer : answer_by_trial (pieces_of (ended no_glue three_boxes)) wide (initex no_glue).breaking ≡ Some by_two
unfolding answer_by_trial answers is_preferred beats chains_of ending_at with_line with_line_taken is_feasible dies_at demerits_of line_fit line_totals start_of penalty_at
two-answer = refl

abbrev first_line : Item
first_line = boxed (pos 0) (head (pt 90) (pos 0) Natural) (items_of (empty_box (pt 40) ∷ plain (Glue no_glue) ∷ []))

abbrev second_line : Item
second_line = boxed (pos 0) (head (pt 90) (pos 0) Natural) (items_of (empty_box (pt 40) ∷ rigid_glue (pt 10) ∷ empty_box (pt 40) ∷ last_end no_glue))

two-lines : lines_of (ended no_glue three_boxes) wide (initex no_glue) by_two ≡ Ok (record { nodes = first_line ∷ plain (Glue no_glue) ∷ second_line ∷ []; last = 2; chosen = by_two; depth = pos 0; badness = pos 0; report = underfull ++ [] })
unfolding lines_of line_to set_line packed start_of
two-lines = refl

-- one box of 100pt: a line that is forced, and overfull
abbrev by_force : Chosen
by_force = answer_is (3 ∷ []) (pos 0) 2 (3 ∷ [])

forced-answer : answer_by_trial (pieces_of (ended no_glue (empty_box (pt 100) ∷ []))) wide (initex no_glue).breaking ≡ Some by_force
unfolding answer_by_trial answers is_preferred beats chains_of ending_at with_line with_line_taken is_feasible dies_at demerits_of line_fit line_totals start_of penalty_at
forced-answer = refl

abbrev forced_line : Item
forced_line = boxed (pos 0) (head (pt 90) (pos 0) Natural) (items_of (empty_box (pt 100) ∷ last_end no_glue))

forced-line : lines_of (ended no_glue (empty_box (pt 100) ∷ [])) wide (initex no_glue) by_force ≡ Ok (record { nodes = forced_line ∷ []; last = 0; chosen = by_force; depth = pos 0; badness = pos 1000000; report = codes "overfull hbox " ++ (scaled_text_of (pt 10) ++ codes "pt") ++ 10 ∷ [] })
unfolding lines_of line_to set_line packed start_of
forced-line = refl

-- three lines, as Knuth's TeX sets them: the first ends at a discretionary and has an adjustment, the second at a kern; each but the
-- first has leading, and each but the last a penalty behind it
abbrev set_params : ParParams
set_params = record (initex no_glue) {
  breaking = record (initex no_glue).breaking { left_skip = glue_of (pt 1) (pos 0) 0 (pos 0) 0; right_skip = glue_of (pt 2) (pos 0) 0 (pos 0) 0 };
  leading = record { baseline_skip = glue_of (pt 12) (pos 0) 0 (pos 0) 0; line_skip = no_glue; line_skip_limit = pos 0 };
  inter_line_penalty = pos 1;
  club_penalty = pos 2;
  widow_penalty = pos 4;
  broken_penalty = pos 8;
}

abbrev shapes : List LineShape
shapes = record { indent = pt 3; width = pt 50 } ∷ record { indent = pt 4; width = pt 60 } ∷ []

abbrev penalty : ℤ → Item
penalty n = plain (Penalty n)

abbrev divided : List Item
divided =
    empty_box (pt 40) ∷ adjustment (items_of (penalty (pos 77) ∷ []))
    ∷ discretionary (record { replaced = 1; hyphenated = false }) (items_of (empty_box (pt 5) ∷ [])) (items_of (empty_box (pt 6) ∷ []))
    ∷ empty_box (pt 7)
    ∷ empty_box (pt 40)
    ∷ plain (Kern Explicit (pt 3))
    ∷ rigid_glue (pt 10)
    ∷ empty_box (pt 50)
    ∷ []

abbrev by_three : Chosen
by_three = answer_is (2 ∷ 5 ∷ 10 ∷ []) (pos 0) 2 []

abbrev broken_line : Item
broken_line =
    boxed (pt 3) (head (pt 50) (pos 0) Natural)
    (items_of (rigid_glue (pt 1) ∷ empty_box (pt 40) ∷ empty_discretionary ∷ empty_box (pt 5) ∷ rigid_glue (pt 2) ∷ []))

abbrev kern_line : Item
kern_line =
    boxed (pt 4) (head (pt 60) (pos 0) Natural)
    (items_of (rigid_glue (pt 1) ∷ empty_box (pt 6) ∷ empty_box (pt 40) ∷ plain (Kern Explicit (pos 0)) ∷ rigid_glue (pt 2) ∷ []))

abbrev end_line : Item
end_line =
    boxed (pt 4) (head (pt 60) (pos 0) Natural)
    (items_of (rigid_glue (pt 1) ∷ empty_box (pt 50) ∷ penalty (pos 10000) ∷ plain (Glue no_glue) ∷ rigid_glue (pt 2) ∷ []))

three-lines : lines_of (ended no_glue divided) shapes set_params by_three ≡ Ok (record {
  nodes = broken_line ∷ penalty (pos 77) ∷ penalty (pos 11) ∷ rigid_glue (pt 12) ∷ kern_line ∷ penalty (pos 5) ∷ rigid_glue (pt 12) ∷ end_line ∷ [];
  last = 7;
  chosen = by_three;
  depth = pos 0;
  badness = pos 10000;
  report = (underfull ++ underfull) ++ underfull;
})
unfolding lines_of line_to set_line packed start_of
three-lines = refl
