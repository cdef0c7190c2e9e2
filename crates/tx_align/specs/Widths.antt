-- How wide columns are (TeX: The Program, sections 801 to 803; The TeXbook, chapter 22).
use Rattle.std.specs.Prelude.{ℤ, pos, ◌+ℤ◌, ◌-ℤ◌, List, [], ◌∷◌, ◌++◌, fold, length, slice_get, Option, Some, None, Result, Ok, Err}
use Rattle.std.specs.Int.{int_max}
use Rattle.tx_num.specs.Glue.{GlueSpec, zero_glue}
use Rattle.tx_pack.specs.Packing.{if_fits}
use Rattle.tx_align.specs.declared.entry.Entry.{Entry}
use Rattle.tx_align.specs.declared.entry.Met.{Met}
use Rattle.tx_align.specs.declared.error.AlignError.{AlignError}
use Rattle.tx_align.specs.declared.error.AlignError.TheVariants.{SizeOutOfRange}
use Rattle.tx_align.specs.declared.sized.SizedColumn.{SizedColumn}
use Rattle.tx_align.specs.declared.sized.Sizing.{Sizing}
use Rattle.tx_align.specs.Preambles.{Forming}
use Rattle.tx_align.specs.Columns.{skip_behind}
use Rattle.tx_align.specs.Entries.{count_of, endings}

-- where a column begins naturally: behind the columns before it, their skips and the glue before the first; the one whose width is
-- looked for, which isn't among these, begins behind them all
abbrev pub begin_of : Option SizedColumn → ℤ → ℤ
begin_of None begins = begins
begin_of (Some c) begins = c.begins

-- what an entry leaves to the column in which it ends: its width, less the widths of the columns before that which it spans and the skips
-- between, which is how far this column begins behind the entry's first one
abbrev pub left_over : Sizing → Entry → ℤ
left_over s entry = entry.width -ℤ (s.begins -ℤ begin_of (slice_get s.columns entry.first) s.begins)

-- the greatest that an entry leaves to it, None where no entry ends there
abbrev pub greater : Option ℤ → ℤ → ℤ
greater None width = width
greater (Some most) width = int_max most width

abbrev pub widened : Sizing → Option ℤ → Entry → Option ℤ
widened s most entry = Some (greater most (left_over s entry))

abbrev pub widest : Sizing → List Entry → Option ℤ
widest s entries = fold (widened s) None entries

-- a column of this width with this skip behind it, where both leave the sum a dimension
abbrev pub next_begins : Sizing → ℤ → GlueSpec → ℤ
next_begins s width skip = s.begins +ℤ width +ℤ skip.width

abbrev pub with_next : Sizing → ℤ → GlueSpec → Option ℤ → Result Sizing AlignError
with_next s width skip None = Err SizeOutOfRange
with_next s width skip (Some begins) = Ok (record { columns = s.columns ++ record { begins = s.begins; width = width; skip = skip } ∷ []; begins = begins })

abbrev pub with_narrow : Sizing → GlueSpec → Option ℤ → Result Sizing AlignError
with_narrow s skip None = Err SizeOutOfRange
with_narrow s skip (Some width) = with_next s width skip (if_fits (next_begins s width skip))

abbrev pub with_sized : Sizing → ℤ → GlueSpec → Result Sizing AlignError
with_sized s width skip = with_narrow s skip (if_fits width)

-- a column in which no entry ends has no width, and no skip behind it (section 802)
abbrev pub with_width : Sizing → GlueSpec → Option ℤ → Result Sizing AlignError
with_width s skip None = with_sized s (pos 0) zero_glue
with_width s skip (Some width) = with_sized s width skip

-- the next column, in which these entries end
abbrev pub with_ending : Forming → Sizing → List Entry → Result Sizing AlignError
with_ending p s ending = with_width s (skip_behind p (length s.columns)) (widest s ending)

-- all columns, from the left
abbrev pub sizing_next : (Sizing → Result Sizing AlignError) → Result Sizing AlignError → Result Sizing AlignError
sizing_next more (Err e) = Err e
sizing_next more (Ok s) = more s

abbrev pub sized_from : Forming → Sizing → List (List Entry) → Result Sizing AlignError
sized_from p s [] = Ok s
sized_from p s (ending ∷ rest) = sizing_next (λ more. sized_from p more rest) (with_ending p s ending)

abbrev pub none_sized : Forming → Sizing
none_sized p = record { columns = []; begins = p.first.width }

abbrev pub sized : Forming → List Entry → Result Sizing AlignError
sized p entries = sized_from p (none_sized p) (endings 0 (count_of (length p.columns) entries) entries)

-- those of rows
abbrev pub sized_by : Forming → Result Met AlignError → Result Sizing AlignError
sized_by p (Err e) = Err e
sized_by p (Ok met) = sized p met.entries
