-- A line from one break to another: how it fits, and its demerits (TeX: The Program, sections 851 to 859).
use Rattle.std.specs.Prelude.{ℕ, zero, suc, ◌==◌, nat_lt, nat_le, ℤ, pos, negsuc, ◌+ℤ◌, ◌-ℤ◌, ◌*ℤ◌, neg_ℤ, int_lt, unsigned_abs, Bool, false, not, ◌&&◌, ◌||◌, if◌then◌else◌, List, [], ◌∷◌, length, slice_range, Option, None, Some, is_some}
use Rattle.tx_num.specs.Badness.{badness_of}
use Rattle.tx_linebreak.specs.declared.line.Candidate.{Candidate}
use Rattle.tx_linebreak.specs.declared.line.Fit.{Fit}
use Rattle.tx_linebreak.specs.declared.line.Fit.TheVariants.{Overfull, Set}
use Rattle.tx_linebreak.specs.declared.params.BreakParams.{BreakParams}
use Rattle.tx_linebreak.specs.declared.params.LineShape.{LineShape}
use Rattle.tx_linebreak.specs.declared.params.Pass.{Pass}
use Rattle.tx_linebreak.specs.declared.params.Pass.TheVariants.{First, Second, Emergency}
use Rattle.tx_linebreak.specs.declared.piece.Class.{Class}
use Rattle.tx_linebreak.specs.declared.piece.Class.TheVariants.{VeryLoose, Loose, Decent, Tight}
use Rattle.tx_linebreak.specs.declared.piece.Piece.{Piece}
use Rattle.tx_linebreak.specs.declared.totals.Totals.{Totals}
use Rattle.tx_linebreak.specs.Breaks.{discretionary_at, start_of, width_before, width_behind}
use Rattle.tx_linebreak.specs.Classes.{class_number}
use Rattle.tx_linebreak.specs.Totals.{both, glue_totals, rigid, totals_of}

-- a pass over a list
pub record Attempt : Type 0 where
  pub pieces : List Piece
  pub shape : List LineShape
  pub params : BreakParams
  pub pass : Pass

-- the width of a line, by the number of lines before it
abbrev pub line_width : List LineShape → ℕ → ℤ
line_width [] lines = pos 0
line_width (shape ∷ []) lines = shape.width
line_width (shape ∷ next ∷ shapes) zero = shape.width
line_width (shape ∷ next ∷ shapes) (suc lines) = line_width (next ∷ shapes) lines

-- what stands at both ends of each line
abbrev pub skips : BreakParams → Totals
skips params = both (glue_totals params.left_skip) (glue_totals params.right_skip)

-- what a pass adds to each line
abbrev pub background : BreakParams → Pass → Totals
background params First = skips params
background params Second = skips params
background params Emergency = both (skips params) (record (rigid (pos 0)) { stretch = params.emergency_stretch })

-- the place of a line's first piece
abbrev pub first_place : List Piece → Option ℕ → ℕ
first_place pieces None = 0
first_place pieces (Some place) = start_of pieces place

-- the width of the text that stands at a line's beginning behind a discretionary
abbrev pub begin_width : List Piece → Option ℕ → ℤ
begin_width pieces None = pos 0
begin_width pieces (Some place) = width_behind (discretionary_at pieces place)

-- the width of the text that stands at a line's end at a discretionary
abbrev pub end_width : List Piece → ℕ → ℤ
end_width pieces place = width_before (discretionary_at pieces place)

-- what the line from a break to a place has
unfoldable pub line_totals : Attempt → Option ℕ → ℕ → Totals
line_totals a from place =
    both (both (background a.params a.pass) (rigid (begin_width a.pieces from +ℤ end_width a.pieces place)))
    (totals_of (slice_range a.pieces (first_place a.pieces from) place))

-- the class of a line that is stretched, and of one that is shrunk
abbrev pub stretched_class : ℕ → Class
stretched_class badness = if nat_lt 99 badness then VeryLoose else if nat_lt 12 badness then Loose else Decent

abbrev pub shrunk_class : ℕ → Class
shrunk_class badness = if nat_lt 12 badness then Tight else Decent

-- a line stretches without end
abbrev pub is_endless : Totals → Bool
is_endless t = not (unsigned_abs t.fil == 0 && unsigned_abs t.fill == 0 && unsigned_abs t.filll == 0)

-- how a line with these totals fits that is too short by so much
abbrev pub stretched : Totals → ℤ → Fit
stretched t excess =
    if is_endless t then Set 0 Decent
    else let badness = badness_of excess t.stretch in Set badness (stretched_class badness)

-- and one that is too long by so much, or just fits
abbrev pub shrunk : Totals → ℤ → Fit
shrunk t excess =
    if int_lt t.shrink excess then Overfull
    else let badness = badness_of excess t.shrink in Set badness (shrunk_class badness)

-- how a line with these totals fits into a width
abbrev pub fit_of : ℤ → Totals → Fit
fit_of width t = if int_lt t.width width then stretched t (width -ℤ t.width) else shrunk t (t.width -ℤ width)

-- how the line from a candidate to a place fits
unfoldable pub line_fit : Attempt → Candidate → ℕ → Fit
line_fit a c place = fit_of (line_width a.shape c.lines) (line_totals a c.place place)

-- two classes aren't next to each other
abbrev pub are_apart : Class → Class → Bool
are_apart c d = nat_lt (suc (class_number c)) (class_number d) || nat_lt (suc (class_number d)) (class_number c)

-- what badness costs, at least 10000 as much as can be
abbrev pub badness_cost : ℤ → ℤ
badness_cost l = if nat_le 10000 (unsigned_abs l) then pos 100000000 else l *ℤ l

-- what the penalty of a line's break costs; less than nothing where it is negative, unless it forces the break
abbrev pub penalty_cost : ℤ → ℤ
penalty_cost penalty =
    if int_lt (pos 0) penalty then penalty *ℤ penalty
    else if int_lt (negsuc 9999) penalty then neg_ℤ (penalty *ℤ penalty)
    else pos 0

-- so much where this holds
abbrev pub where_so : Bool → ℤ → ℤ
where_so holds cost = if holds then cost else pos 0

-- a line begins behind a discretionary
abbrev pub begins_hyphened : List Piece → Option ℕ → Bool
begins_hyphened pieces None = false
begins_hyphened pieces (Some place) = is_some (discretionary_at pieces place)

-- a place is the last one
abbrev pub is_last : List Piece → ℕ → Bool
is_last pieces place = suc place == length pieces

-- what a line costs, by its penalty and badness, where its class is apart from that before, where two hyphens come in a row,
-- and one before the last line
abbrev pub cost_of : BreakParams → ℤ → ℕ → Bool → Bool → Bool → ℤ
cost_of params penalty badness apart double last =
    badness_cost (params.line_penalty +ℤ pos badness) +ℤ penalty_cost penalty +ℤ where_so apart params.adj_demerits
    +ℤ where_so double params.double_hyphen_demerits
    +ℤ where_so last params.final_hyphen_demerits

-- the demerits of the line from a candidate to a break, of this badness and class
unfoldable pub demerits_of : Attempt → Candidate → ℕ → ℤ → ℕ → Class → ℤ
demerits_of a c place penalty badness class =
    let begins = begins_hyphened a.pieces c.place in
    cost_of a.params penalty badness (are_apart class c.class)
    (begins && is_some (discretionary_at a.pieces place)) (begins && is_last a.pieces place)
