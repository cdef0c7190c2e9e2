-- A paragraph's lines (TeX: The Program, sections 876 and 877).
use Rattle.std.specs.Prelude.{◌≡◌, ℕ, suc, ◌==◌, pos, Bool, true, false, is_some, List, [], ◌∷◌, length, Option, None, Some, unwrap_or, Result, Ok, Err, if◌then◌else◌}
use Rattle.tx_linebreak.specs.declared.answer.Chosen.{Chosen}
use Rattle.tx_linebreak.specs.declared.error.BreakError.{BreakError}
use Rattle.tx_linebreak.specs.declared.error.BreakError.TheVariants as breaking
use Rattle.tx_linebreak.specs.declared.params.LineShape.{LineShape}
use Rattle.tx_linebreak.specs.declared.piece.Piece.{Piece}
use Rattle.tx_linebreak.specs.Breaks.{discretionary_at}
use Rattle.tx_linebreak.specs.Chosen.{IsAnswer, answer_by_trial, first_succeeds, has_endless_shrink}
use Rattle.tx_node.specs.Items.{Item}
use Rattle.tx_nest.specs.declared.state.ModeState.TheVariants.{InternalVertical}
use Rattle.tx_nest.specs.States.{prev_depth}
use Rattle.tx_par.specs.declared.error.ParError.{ParError}
use Rattle.tx_par.specs.declared.error.ParError.TheVariants.{SizeOutOfRange, TooDeep, EndlessShrink, OutOfMemory}
use Rattle.tx_par.specs.declared.line.Line.{Line}
use Rattle.tx_par.specs.declared.lines.Lines.{Lines}
use Rattle.tx_par.specs.declared.params.ParParams.{ParParams}
use Rattle.tx_par.specs.declared.so_far.SoFar.{SoFar}
use Rattle.tx_par.specs.Ended.{ended}
use Rattle.tx_par.specs.LineLists.{line_items, line_of}
use Rattle.tx_par.specs.Pieces.{pieces_of}
use Rattle.tx_par.specs.Setting.{with_line}

-- what errors of line breaking are to a paragraph
abbrev pub of_breaking : BreakError → ParError
of_breaking breaking.InfiniteShrink = EndlessShrink
of_breaking breaking.OutOfMemory = OutOfMemory

-- an ended list that is to be set in lines, so many of them, by a chain of the first pass or of another one
pub record Task : Type 0 where
  pub items : List Item
  pub pieces : List Piece
  pub shape : List LineShape
  pub params : ParParams
  pub first_pass : Bool
  pub count : ℕ

-- the line from a break, or from the list's beginning, to a break
unfoldable pub line_to : Task → Option ℕ → ℕ → Line
line_to t from place =
    line_of (line_items t.first_pass t.params.breaking.left_skip t.params.breaking.right_skip t.items t.pieces from place)

-- the same in the vertical list, behind so many lines
abbrev pub with_line_to : Task → Option ℕ → ℕ → ℕ → SoFar → Result SoFar ParError
with_line_to t from lines place so_far =
    with_line t.params t.shape lines t.count (is_some (discretionary_at t.pieces place)) (line_to t from place) so_far

-- the lines to breaks in order, up to the first error
abbrev pub and_then : Result SoFar ParError → (SoFar → Result SoFar ParError) → Result SoFar ParError
and_then (Err e) more = Err e
and_then (Ok so_far) more = more so_far

abbrev pub with_lines : Task → Option ℕ → ℕ → List ℕ → SoFar → Result SoFar ParError
with_lines t from lines [] so_far = Ok so_far
with_lines t from lines (place ∷ places) so_far =
    and_then (with_line_to t from lines place so_far) (λ more. with_lines t (Some place) (suc lines) places more)

-- before the first line
abbrev pub none_so_far : ParParams → SoFar
none_so_far params = record {
  list = record { state = InternalVertical params.prev_depth; nodes = []; prev_graf = 0 };
  last = 0;
  badness = pos 0;
  report = [];
}

abbrev pub task_of : List Item → List LineShape → ParParams → Chosen → Task
task_of items shape params chosen = record {
  items = items;
  pieces = pieces_of items;
  shape = shape;
  params = params;
  first_pass = chosen.pass == 1;
  count = length chosen.chain;
}

-- the lines of an ended list that is broken so
abbrev pub lines_told : Chosen → Result SoFar ParError → Result Lines ParError
lines_told chosen (Err e) = Err e
lines_told chosen (Ok so_far) = Ok (record {
  nodes = so_far.list.nodes;
  last = so_far.last;
  chosen = chosen;
  depth = unwrap_or (prev_depth so_far.list.state) (pos 0);
  badness = so_far.badness;
  report = so_far.report;
})

unfoldable pub lines_of : List Item → List LineShape → ParParams → Chosen → Result Lines ParError
lines_of items shape params chosen =
    lines_told chosen (with_lines (task_of items shape params chosen) None 0 chosen.chain (none_so_far params))

-- glue of the list as it is ended, or at the ends of its lines, shrinks infinitely
abbrev pub shrinks_endlessly : List Item → ParParams → Bool
shrinks_endlessly list params = has_endless_shrink (pieces_of (ended params.par_fill_skip list)) params.breaking

-- the same as one answer, the chain being found by looking at every one; an ended list has one
abbrev pub lines_by : List Item → List LineShape → ParParams → Option Chosen → Result Lines ParError
lines_by items shape params None = Err EndlessShrink
lines_by items shape params (Some chosen) = lines_of items shape params chosen

unfoldable pub lines_by_trial : List Item → List LineShape → ParParams → Result Lines ParError
lines_by_trial items shape params = lines_by items shape params (answer_by_trial (pieces_of items) shape params.breaking)

abbrev pub paragraph : List Item → List LineShape → ParParams → Result Lines ParError
paragraph list shape params =
    if shrinks_endlessly list params then Err EndlessShrink else lines_by_trial (ended params.par_fill_skip list) shape params

-- what the first pass makes of a list where it is made and gives the answer (TeX: The Program, section 863); glue that shrinks
-- infinitely is looked for before
abbrev pub if_first : Bool → Result Lines ParError → Option (Result Lines ParError)
if_first succeeds outcome = if succeeds then Some outcome else None

abbrev pub first_lines : List Item → List LineShape → ParParams → Option (Result Lines ParError)
first_lines list shape params =
    if shrinks_endlessly list params then Some (Err EndlessShrink)
    else if_first (first_succeeds (pieces_of (ended params.par_fill_skip list)) shape params.breaking) (lines_by_trial (ended params.par_fill_skip list) shape params)

-- no glue does, and a list, ended and broken as line breaking chooses, gives these lines, or this error in one of them
pub record Gives (list : List Item) (shape : List LineShape) (params : ParParams) (outcome : Result Lines ParError) : Type 0 where
  pub finite : shrinks_endlessly list params ≡ false
  pub chosen : Chosen
  pub is_answer : IsAnswer (pieces_of (ended params.par_fill_skip list)) shape params.breaking chosen
  pub lines_are : lines_of (ended params.par_fill_skip list) shape params chosen ≡ outcome

-- what may come of a list: its lines, an error in one of them, or glue that shrinks infinitely, where there is such; want of memory
-- has no cause
abbrev pub IsOutcome : List Item → List LineShape → ParParams → Result Lines ParError → Type 0
IsOutcome list shape params (Ok lines) = Gives list shape params (Ok lines)
IsOutcome list shape params (Err SizeOutOfRange) = Gives list shape params (Err SizeOutOfRange)
IsOutcome list shape params (Err TooDeep) = Gives list shape params (Err TooDeep)
IsOutcome list shape params (Err EndlessShrink) = shrinks_endlessly list params ≡ true
IsOutcome list shape params (Err OutOfMemory) = Unit {0}
