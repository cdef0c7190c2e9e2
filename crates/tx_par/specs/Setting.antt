-- A line in the vertical list (TeX: The Program, sections 888 to 890).
use Rattle.std.specs.Prelude.{ℕ, zero, suc, ◌-◌, ◌==◌, nat_le, ℤ, pos, ◌+ℤ◌, unsigned_abs, Bool, ◌&&◌, if◌then◌else◌, List, [], ◌∷◌, ◌++◌, length, Result, Ok, Err}
use Rattle.tx_num.specs.Limits.{limit}
use Rattle.tx_num.specs.declared.limits.Range.TheVariants.{Integer}
use Rattle.tx_linebreak.specs.declared.params.LineShape.{LineShape}
use Rattle.tx_linebreak.specs.Lines.{line_width}
use Rattle.tx_node.specs.declared.plain.Plain.TheVariants.{Penalty}
use Rattle.tx_node.specs.Items.{Item, plain}
use Rattle.tx_pack.specs.declared.types.Goal.TheVariants.{To}
use Rattle.tx_pack.specs.declared.types.PackParams.{PackParams}
use Rattle.tx_pack.specs.declared.types.Packed.{Packed}
use Rattle.tx_pack.specs.declared.types.PackError.{PackError}
use Rattle.tx_pack.specs.declared.types.PackError.TheVariants as packing
use Rattle.tx_pack.specs.Packing.{hpacked}
use Rattle.tx_num.specs.Limits.{fits}
use Rattle.tx_nest.specs.declared.leading.NestError.{NestError}
use Rattle.tx_nest.specs.declared.leading.NestError.TheVariants as leading
use Rattle.tx_nest.specs.declared.list.ModeList.{ModeList}
use Rattle.tx_nest.specs.Appended.{box_appended}
use Rattle.tx_nest.specs.Changed.{with_items}
use Rattle.tx_par.specs.declared.error.ParError.{ParError}
use Rattle.tx_par.specs.declared.error.ParError.TheVariants.{SizeOutOfRange, TooDeep, EndlessShrink, OutOfMemory}
use Rattle.tx_par.specs.declared.line.Line.{Line}
use Rattle.tx_par.specs.declared.params.ParParams.{ParParams}
use Rattle.tx_par.specs.declared.so_far.SoFar.{SoFar}

-- what errors of packing and of leading are to a paragraph
abbrev pub of_packing : PackError → ParError
of_packing packing.SizeOutOfRange = SizeOutOfRange
of_packing packing.TooDeep = TooDeep
of_packing packing.OutOfMemory = OutOfMemory

abbrev pub of_leading : NestError → ParError
of_leading leading.SizeOutOfRange = SizeOutOfRange
of_leading leading.OutOfMemory = OutOfMemory

-- an error that lines may have
abbrev pub IsOfLines : ParError → Type 0
IsOfLines SizeOutOfRange = Unit {0}
IsOfLines TooDeep = Unit {0}
IsOfLines EndlessShrink = ⊥
IsOfLines OutOfMemory = Unit {0}

-- how far a line is indented, by the number of lines before it
abbrev pub line_indent : List LineShape → ℕ → ℤ
line_indent [] lines = pos 0
line_indent (shape ∷ []) lines = shape.indent
line_indent (shape ∷ next ∷ shapes) zero = shape.indent
line_indent (shape ∷ next ∷ shapes) (suc lines) = line_indent (next ∷ shapes) lines

-- a line's box has the width of the line, which is a dimension, as its indent is
abbrev pub line_box : PackParams → ℤ → ℤ → List Item → Result Packed PackError
line_box params indent width own = if fits indent && fits width then hpacked own (To width) params else Err packing.SizeOutOfRange

-- behind the box, which is the last line so far, stands the vertical material of the line
abbrev pub told_of : SoFar → Packed → List Item → Result ModeList NestError → Result SoFar ParError
told_of so_far packed behind (Err e) = Err (of_leading e)
told_of so_far packed behind (Ok list) =
    Ok (record { list = with_items list behind; last = length list.nodes - 1; badness = packed.badness; report = so_far.report ++ packed.report })

-- the box is shifted by the line's indent, and stands behind its leading
abbrev pub placed : ParParams → SoFar → ℤ → List Item → Result Packed PackError → Result SoFar ParError
placed params so_far indent behind (Err e) = Err (of_packing e)
placed params so_far indent behind (Ok packed) = told_of so_far packed behind (box_appended params.leading so_far.list indent packed.node)

-- so much where this holds
abbrev pub where_so : Bool → ℤ → ℤ
where_so holds penalty = if holds then penalty else pos 0

-- the penalty behind a line, given how many lines come before it, how many there are, and whether it ends at a discretionary
abbrev pub penalty_behind : ParParams → ℕ → ℕ → Bool → ℤ
penalty_behind params lines count broken =
    params.inter_line_penalty +ℤ where_so (lines == 0) params.club_penalty
    +ℤ where_so (suc (suc lines) == count) params.widow_penalty
    +ℤ where_so broken params.broken_penalty

-- a penalty stands in the list unless it is 0; it is an integer
abbrev pub with_penalty : ℤ → SoFar → Result SoFar ParError
with_penalty penalty so_far =
    if unsigned_abs penalty == 0 then Ok so_far
    else if nat_le (unsigned_abs penalty) (limit Integer) then Ok (record so_far { list = with_items so_far.list (plain (Penalty penalty) ∷ []) })
    else Err SizeOutOfRange

-- no penalty stands behind the last line
abbrev pub parted : ParParams → ℕ → ℕ → Bool → SoFar → Result SoFar ParError
parted params lines count broken so_far =
    if suc lines == count then Ok so_far else with_penalty (penalty_behind params lines count broken) so_far

abbrev pub parted_by : ParParams → ℕ → ℕ → Bool → Result SoFar ParError → Result SoFar ParError
parted_by params lines count broken (Err e) = Err e
parted_by params lines count broken (Ok so_far) = parted params lines count broken so_far

-- one more line, given how many come before it and how many there are, and whether it ends at a discretionary
unfoldable pub with_line : ParParams → List LineShape → ℕ → ℕ → Bool → Line → SoFar → Result SoFar ParError
with_line params shape lines count broken line so_far =
    let indent = line_indent shape lines in
    parted_by params lines count broken
    (placed params so_far indent line.behind (line_box params.packing indent (line_width shape lines) line.own))
