-- The definitions at paragraphs that were worked by hand and compared with Knuth's TeX.
use Rattle.std.proofs.Common.{◌≡◌, ℕ, ◌*◌, List, [], ◌∷◌, refl}
use Rattle.std.specs.Prelude.{ℤ, pos, negsuc, true, false, Option, Some, None}
use Rattle.tx_num.specs.Glue.{GlueSpec, glue_of}
use Rattle.tx_linebreak.specs.declared.params.BreakParams.{BreakParams}
use Rattle.tx_linebreak.specs.declared.params.LineShape.{LineShape}
use Rattle.tx_linebreak.specs.declared.piece.Piece.{Piece}
use Rattle.tx_linebreak.specs.declared.piece.Piece.TheVariants.{Solid, Kern, Glue, Penalty, Discretionary as Disc, MathOn, MathOff}
use Rattle.tx_linebreak.specs.Breaks.{penalty_at, start_of}
use Rattle.tx_linebreak.specs.Lines.{demerits_of, line_fit, line_totals}
use Rattle.tx_linebreak.specs.Chains.{chains_of, dies_at, ending_at, is_feasible, with_line, with_line_taken}
use Rattle.tx_linebreak.specs.Chosen.{answer_by_trial, answers, beats, is_preferred}

-- so many points
abbrev pt : ℕ → ℤ
pt n = pos (n * 65536)

abbrev no_glue : GlueSpec
no_glue = glue_of (pos 0) (pos 0) 0 (pos 0) 0

-- the parameters as INITEX begins with them
abbrev initex : BreakParams
initex = record {
  pretolerance = pos 0;
  tolerance = pos 10000;
  emergency_stretch = pos 0;
  line_penalty = pos 0;
  hyphen_penalty = pos 0;
  ex_hyphen_penalty = pos 0;
  adj_demerits = pos 0;
  double_hyphen_demerits = pos 0;
  final_hyphen_demerits = pos 0;
  looseness = pos 0;
  left_skip = no_glue;
  right_skip = no_glue;
}

-- lines of this width
abbrev wide : ℤ → List LineShape
wide width = record { indent = pos 0; width = width } ∷ []

-- how a paragraph ends where \parfillskip is 0
abbrev its_end : List Piece
its_end = Penalty (pos 10000) ∷ Glue no_glue ∷ Penalty (negsuc 9999) ∷ []

abbrev rigid_glue : ℤ → Piece
rigid_glue width = Glue (glue_of width (pos 0) 0 (pos 0) 0)

-- two chains have the same demerits: the one whose first line is short is the greater
pub of-equals-the-greatest : answer_by_trial (Solid (pt 40) ∷ rigid_glue (pt 10) ∷ Solid (pt 40) ∷ rigid_glue (pt 10) ∷ Solid (pt 40) ∷ its_end) (wide (pt 90)) initex ≡ Some (record { chain = 1 ∷ 7 ∷ []; total = pos 100000000; pass = 2; forced = []; looseness = pos 0 })
unfolding answer_by_trial answers is_preferred beats chains_of ending_at with_line with_line_taken is_feasible dies_at demerits_of line_fit line_totals start_of penalty_at
of-equals-the-greatest = refl

-- one box that is too wide
pub a-forced-line : answer_by_trial (Solid (pt 100) ∷ its_end) (wide (pt 90)) initex ≡ Some (record { chain = 3 ∷ []; total = pos 0; pass = 2; forced = 3 ∷ []; looseness = pos 0 })
unfolding answer_by_trial answers is_preferred beats chains_of ending_at with_line with_line_taken is_feasible dies_at demerits_of line_fit line_totals start_of penalty_at
a-forced-line = refl

-- an interword space
abbrev space : Piece
space = Glue (glue_of (pt 10) (pt 5) 0 (pt 3) 0)

-- 10pt plus so much, in an order
abbrev stretching : ℤ → ℕ → Piece
stretching stretch order = Glue (glue_of (pt 10) stretch order (pos 0) 0)

-- \parfillskip where it is 0pt plus 1fil, in the paragraph's end
abbrev filled_end : List Piece
filled_end = Penalty (pos 10000) ∷ Glue (glue_of (pos 0) (pt 1) 1 (pos 0) 0) ∷ Penalty (negsuc 9999) ∷ []

abbrev explicit : Option ℤ → Option ℤ → ℕ → Piece
explicit before behind replaced = Disc (record { before = before; behind = behind; replaced = replaced; hyphenated = false })

-- a hyphen of 10pt where hyphenation found a place
abbrev hyphen : Piece
hyphen = Disc (record { before = Some (pt 10); behind = None; replaced = 0; hyphenated = true })

-- a tight line and a tight one, though each break is near a loose line
pub tight-lines : answer_by_trial (Solid (pt 30) ∷ space ∷ Solid (pt 30) ∷ space ∷ Solid (pt 25) ∷ space ∷ Solid (pt 35) ∷ space ∷ Solid (pt 30) ∷ space ∷ Solid (pt 20) ∷ filled_end) (wide (pt 100)) (record initex { pretolerance = negsuc 0; line_penalty = pos 10; adj_demerits = pos 10000 }) ≡ Some (record { chain = 5 ∷ 13 ∷ []; total = pos 8978; pass = 2; forced = []; looseness = pos 0 })
unfolding answer_by_trial answers is_preferred beats chains_of ending_at with_line with_line_taken is_feasible dies_at demerits_of line_fit line_totals start_of penalty_at
tight-lines = refl

-- three lines end at discretionaries, and one before the last
pub hyphens-in-a-row : answer_by_trial (Solid (pt 40) ∷ explicit (Some (pt 10)) None 1 ∷ Solid (pt 3) ∷ Solid (pt 20) ∷ stretching (pt 1) 0 ∷ Solid (pt 15) ∷ explicit (Some (pt 5)) (Some (pt 10)) 0 ∷ Solid (pt 40) ∷ explicit None None 0 ∷ Solid (pt 50) ∷ its_end) (wide (pt 50)) (record initex { pretolerance = negsuc 0; line_penalty = pos 10; hyphen_penalty = pos 50; ex_hyphen_penalty = pos 60; double_hyphen_demerits = pos 10000; final_hyphen_demerits = pos 5000 }) ≡ Some (record { chain = 1 ∷ 6 ∷ 8 ∷ 12 ∷ []; total = pos 34000; pass = 2; forced = []; looseness = pos 0 })
unfolding answer_by_trial answers is_preferred beats chains_of ending_at with_line with_line_taken is_feasible dies_at demerits_of line_fit line_totals start_of penalty_at
hyphens-in-a-row = refl

-- glue, penalties and a kern vanish behind a break, and the first pass finds a chain
pub what-vanishes : answer_by_trial (Solid (pt 60) ∷ space ∷ Penalty (negsuc 49) ∷ space ∷ Kern (pt 7) ∷ Solid (pt 60) ∷ Penalty (negsuc 9999) ∷ space ∷ Penalty (pos 0) ∷ Solid (pt 20) ∷ Glue (glue_of (pos 0) (pt 1) 1 (pos 0) 0) ∷ Solid (pt 40) ∷ its_end) (wide (pt 60)) (record initex { pretolerance = pos 100; tolerance = pos 200 }) ≡ Some (record { chain = 1 ∷ 6 ∷ 14 ∷ []; total = pos 0; pass = 1; forced = []; looseness = pos 0 })
unfolding answer_by_trial answers is_preferred beats chains_of ending_at with_line with_line_taken is_feasible dies_at demerits_of line_fit line_totals start_of penalty_at
what-vanishes = refl

-- only a third pass finds a chain
pub emergency-stretch : answer_by_trial (Solid (pt 40) ∷ space ∷ Solid (pt 40) ∷ space ∷ Solid (pt 60) ∷ space ∷ Solid (pt 70) ∷ stretching (pt 1) 2 ∷ Solid (pt 10) ∷ its_end) (wide (pt 100)) (record initex { tolerance = pos 100; emergency_stretch = pt 40; line_penalty = pos 5 }) ≡ Some (record { chain = 3 ∷ 5 ∷ 11 ∷ []; total = pos 11086; pass = 3; forced = []; looseness = pos 0 })
unfolding answer_by_trial answers is_preferred beats chains_of ending_at with_line with_line_taken is_feasible dies_at demerits_of line_fit line_totals start_of penalty_at
emergency-stretch = refl

-- a kern before glue is a break, and the glue behind it is none
pub kern-before-glue : answer_by_trial (Solid (pt 80) ∷ Kern (pt 10) ∷ stretching (pt 10) 0 ∷ Solid (pt 40) ∷ Glue (glue_of (pt 5) (pos 0) 0 (pos 0) 0) ∷ Solid (pt 50) ∷ Kern (pt 5) ∷ Solid (pt 10) ∷ its_end) (wide (pt 100)) (record initex { pretolerance = negsuc 0 }) ≡ Some (record { chain = 1 ∷ 4 ∷ 10 ∷ []; total = pos 300000000; pass = 2; forced = []; looseness = pos 0 })
unfolding answer_by_trial answers is_preferred beats chains_of ending_at with_line with_line_taken is_feasible dies_at demerits_of line_fit line_totals start_of penalty_at
kern-before-glue = refl

-- the first line is 100pt wide, the others 60pt
pub two-widths : answer_by_trial (Solid (pt 40) ∷ space ∷ Solid (pt 45) ∷ space ∷ Solid (pt 25) ∷ space ∷ Solid (pt 28) ∷ Penalty (pos 150) ∷ space ∷ Solid (pt 60) ∷ its_end) (record { indent = pos 0; width = pt 100 } ∷ wide (pt 60)) (record initex { pretolerance = pos 200; line_penalty = pos 10 }) ≡ Some (record { chain = 3 ∷ 7 ∷ 12 ∷ []; total = pos 46800; pass = 1; forced = []; looseness = pos 0 })
unfolding answer_by_trial answers is_preferred beats chains_of ending_at with_line with_line_taken is_feasible dies_at demerits_of line_fit line_totals start_of penalty_at
two-widths = refl

-- glue in mathematics is no break, its end before glue is one
pub mathematics : answer_by_trial (Solid (pt 30) ∷ space ∷ MathOn (pt 5) ∷ Solid (pt 30) ∷ space ∷ Solid (pt 5) ∷ MathOff (pt 5) ∷ Glue (glue_of (pt 12) (pt 8) 0 (pos 0) 0) ∷ Solid (pt 40) ∷ space ∷ Solid (pt 40) ∷ MathOn (pt 5) ∷ Kern (pt 3) ∷ Solid (pt 5) ∷ MathOff (pt 5) ∷ Solid (pt 10) ∷ its_end) (wide (pt 100)) (record initex { pretolerance = negsuc 0; line_penalty = pos 10 }) ≡ Some (record { chain = 1 ∷ 9 ∷ 18 ∷ []; total = pos 200001600; pass = 2; forced = []; looseness = pos 0 })
unfolding answer_by_trial answers is_preferred beats chains_of ending_at with_line with_line_taken is_feasible dies_at demerits_of line_fit line_totals start_of penalty_at
mathematics = refl

-- less than no demerits, and then nothing fits
pub forced-after-a-good-line : answer_by_trial (Solid (pt 60) ∷ Penalty (negsuc 99) ∷ space ∷ Penalty (negsuc 199) ∷ Solid (pt 55) ∷ space ∷ Solid (pt 62) ∷ its_end) (wide (pt 60)) (record initex { pretolerance = pos 100; tolerance = pos 200; line_penalty = pos 3 }) ≡ Some (record { chain = 1 ∷ 9 ∷ []; total = negsuc 9990; pass = 2; forced = 9 ∷ []; looseness = pos 0 })
unfolding answer_by_trial answers is_preferred beats chains_of ending_at with_line with_line_taken is_feasible dies_at demerits_of line_fit line_totals start_of penalty_at
forced-after-a-good-line = refl

-- the first pass doesn't hyphenate
pub unhyphenated : answer_by_trial (Solid (pt 40) ∷ hyphen ∷ Solid (pt 5) ∷ stretching (pt 1) 0 ∷ Solid (pt 50) ∷ its_end) (wide (pt 50)) (record initex { pretolerance = pos 10000 }) ≡ Some (record { chain = 3 ∷ 7 ∷ []; total = pos 100000000; pass = 1; forced = []; looseness = pos 0 })
unfolding answer_by_trial answers is_preferred beats chains_of ending_at with_line with_line_taken is_feasible dies_at demerits_of line_fit line_totals start_of penalty_at
unhyphenated = refl

-- the second pass does, and of chains with equal demerits that of more lines is the greater
pub hyphenated : answer_by_trial (Solid (pt 40) ∷ hyphen ∷ Solid (pt 5) ∷ stretching (pt 1) 0 ∷ Solid (pt 50) ∷ its_end) (wide (pt 50)) (record initex { pretolerance = negsuc 0 }) ≡ Some (record { chain = 1 ∷ 3 ∷ 7 ∷ []; total = pos 100000000; pass = 2; forced = []; looseness = pos 0 })
unfolding answer_by_trial answers is_preferred beats chains_of ending_at with_line with_line_taken is_feasible dies_at demerits_of line_fit line_totals start_of penalty_at
hyphenated = refl

-- \looseness is 1: the best chain of three lines; 2: there is none of four; -1: there is none of one
pub one-line-more : answer_by_trial (Solid (pt 40) ∷ rigid_glue (pt 10) ∷ Solid (pt 40) ∷ rigid_glue (pt 10) ∷ Solid (pt 40) ∷ its_end) (wide (pt 90)) (record initex { looseness = pos 1 }) ≡ Some (record { chain = 1 ∷ 3 ∷ 7 ∷ []; total = pos 300000000; pass = 2; forced = []; looseness = pos 1 })
unfolding answer_by_trial answers is_preferred beats chains_of ending_at with_line with_line_taken is_feasible dies_at demerits_of line_fit line_totals start_of penalty_at
one-line-more = refl

pub two-lines-more : answer_by_trial (Solid (pt 40) ∷ rigid_glue (pt 10) ∷ Solid (pt 40) ∷ rigid_glue (pt 10) ∷ Solid (pt 40) ∷ its_end) (wide (pt 90)) (record initex { looseness = pos 2 }) ≡ Some (record { chain = 1 ∷ 3 ∷ 7 ∷ []; total = pos 300000000; pass = 2; forced = []; looseness = pos 1 })
unfolding answer_by_trial answers is_preferred beats chains_of ending_at with_line with_line_taken is_feasible dies_at demerits_of line_fit line_totals start_of penalty_at
two-lines-more = refl

pub one-line-fewer : answer_by_trial (Solid (pt 40) ∷ rigid_glue (pt 10) ∷ Solid (pt 40) ∷ rigid_glue (pt 10) ∷ Solid (pt 40) ∷ its_end) (wide (pt 90)) (record initex { looseness = negsuc 0 }) ≡ Some (record { chain = 1 ∷ 7 ∷ []; total = pos 100000000; pass = 2; forced = []; looseness = pos 0 })
unfolding answer_by_trial answers is_preferred beats chains_of ending_at with_line with_line_taken is_feasible dies_at demerits_of line_fit line_totals start_of penalty_at
one-line-fewer = refl

-- the first two passes have a chain, of one line; a third is made since none of theirs has two
pub a-pass-for-one-line-more : answer_by_trial (Solid (pt 40) ∷ rigid_glue (pt 10) ∷ Solid (pt 40) ∷ filled_end) (wide (pt 90)) (record initex { pretolerance = pos 200; tolerance = pos 2000; emergency_stretch = pt 20; looseness = pos 1 }) ≡ Some (record { chain = 1 ∷ 5 ∷ []; total = pos 2427364; pass = 3; forced = []; looseness = pos 1 })
unfolding answer_by_trial answers is_preferred beats chains_of ending_at with_line with_line_taken is_feasible dies_at demerits_of line_fit line_totals start_of penalty_at
a-pass-for-one-line-more = refl
