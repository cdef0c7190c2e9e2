-- The shapes of a paragraph's lines (TeX: The Program, sections 847 to 849; The TeXbook, chapter 14).
use Rattle.std.specs.Prelude.{ℕ, ◌+◌, ◌-◌, min, nat_lt, nat_le, ℤ, pos, ◌-ℤ◌, ◌==◌, int_lt, int_le, unsigned_abs, Bool, if◌then◌else◌, List, [], ◌∷◌, ◌++◌, drop, length, replicate, slice_get, unwrap_or}
use Rattle.tx_eqtb.specs.declared.table.Table.{Table}
use Rattle.tx_eqtb.specs.Table.{number_at}
use Rattle.tx_linebreak.specs.declared.params.LineShape.{LineShape}
use Rattle.tx_node.specs.Items.{Item}
use Rattle.tx_prim.specs.declared.dimension.DimensionParameter.TheVariants.{Hangindent, Hsize}
use Rattle.tx_prim.specs.declared.integer.IntegerParameter.TheVariants.{Hangafter}
use Rattle.tx_seen.specs.declared.place.Place.TheVariants.{Dimension, Integer}

-- a line as wide as \hsize, and one that hangs: in from the left, or from the right where \hangindent is negative
abbrev pub plain_line : ℤ → LineShape
plain_line size = record { indent = pos 0; width = size }

abbrev pub hanging_line : ℤ → ℤ → LineShape
hanging_line size hang = record {
  indent = if int_lt (pos 0) hang then hang else pos 0;
  width = size -ℤ pos (unsigned_abs hang);
}

-- so many lines of one shape, then the shape of all further ones
abbrev pub lines_then : ℕ → LineShape → LineShape → List LineShape
lines_then count first further = replicate count first ++ further ∷ []

-- how many lines \hangafter still counts behind so many that have passed: it may be far more than there are lines, but a list is
-- ended by two items, and has a line less than items then, or fewer, and one more at its end; so lines past this count are never
-- asked for
abbrev pub first_lines : ℤ → ℕ → List Item → ℕ
first_lines after passed list = min (unsigned_abs after - passed) (length list + 2)

-- the first lines are plain and all others hang, or the other way round where \hangafter is negative
abbrev pub hanging : ℤ → ℤ → ℤ → ℕ → List Item → List LineShape
hanging size hang after passed list =
    if int_le (pos 0) after
    then lines_then (first_lines after passed list) (plain_line size) (hanging_line size hang)
    else lines_then (first_lines after passed list) (hanging_line size hang) (plain_line size)

-- the shapes of the lines of a list by \hsize, \hangindent and \hangafter, the first of them behind so many lines that have passed:
-- all are plain where nothing hangs
abbrev pub shape_by : ℤ → ℤ → ℤ → ℕ → List Item → List LineShape
shape_by size hang after passed list =
    if unsigned_abs hang == 0 then plain_line size ∷ [] else hanging size hang after passed list

-- the lines that \parshape tells one by one, by their sizes: how far each is indented, then how wide it is
abbrev pub told_lines : List ℤ → List LineShape
told_lines [] = []
told_lines (indent ∷ []) = []
told_lines (indent ∷ width ∷ sizes) = record { indent = indent; width = width } ∷ told_lines sizes

-- those behind so many that have passed; the last one is that of all further lines
abbrev pub lines_behind : ℕ → List LineShape → List LineShape
lines_behind passed lines = drop (min passed (length lines - 1)) lines

-- \parshape comes before \hangindent
abbrev pub hung_lines : Table → ℕ → List Item → List LineShape
hung_lines table passed list =
    shape_by (number_at table (Dimension Hsize)) (number_at table (Dimension Hangindent)) (number_at table (Integer Hangafter)) passed list

abbrev pub shape_told : Table → ℕ → List Item → List LineShape → List LineShape
shape_told table passed list lines = if length lines == 0 then hung_lines table passed list else lines_behind passed lines

-- the shapes of a list's lines behind so many that have passed
abbrev pub shape_of : Table → ℕ → List Item → List LineShape
shape_of table passed list = shape_told table passed list (told_lines table.par_shape)

-- one line of a paragraph by its number, counted from 1, as a display asks for it (section 1149): the first one that hangs is the one
-- behind \hangafter, or the first of all where that is negative
abbrev pub is_hung : ℤ → ℕ → Bool
is_hung after line = if int_le (pos 0) after then nat_lt (unsigned_abs after) line else nat_le line (unsigned_abs after)

abbrev pub line_by : ℤ → ℤ → ℤ → ℕ → LineShape
line_by size hang after line =
    if unsigned_abs hang == 0 then plain_line size
    else if is_hung after line then hanging_line size hang
    else plain_line size

abbrev pub hung_line : Table → ℕ → LineShape
hung_line table line =
    line_by (number_at table (Dimension Hsize)) (number_at table (Dimension Hangindent)) (number_at table (Integer Hangafter)) line

abbrev pub told_line : List LineShape → ℕ → LineShape → LineShape
told_line lines line other = unwrap_or (slice_get lines (min (line - 1) (length lines - 1))) other

abbrev pub line_at : Table → ℕ → LineShape
line_at table line = told_line (told_lines table.par_shape) line (hung_line table line)
