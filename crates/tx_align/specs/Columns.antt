-- The columns of a preamble, those counted that repeat (TeX: The Program, sections 792 to 794).
use Rattle.std.specs.Prelude.{ℕ, ◌+◌, ◌-◌, ◌%◌, ◌&&◌, nat_lt, nat_le, Bool, is_some, List, length, slice_get, Option, Some, None, option_map, if◌then◌else◌}
use Rattle.tx_char.specs.declared.tokens.Token.{Token}
use Rattle.tx_num.specs.Glue.{GlueSpec, zero_glue}
use Rattle.tx_align.specs.declared.column.Column.{Column}
use Rattle.tx_align.specs.Preambles.{Forming}

-- which of so many columns a column is like, counted from 0: where they repeat from one on, those from there on come again and again
-- (section 793); where none do, a column past the last is like none
abbrev pub source : Option ℕ → ℕ → ℕ → ℕ
source None count column = column
source (Some from) count column = if nat_lt from count && nat_le count column then from + (column - from) % (count - from) else column

-- the column of a preamble that a column is like
abbrev pub column_of : Forming → ℕ → Option Column
column_of p column = slice_get p.columns (source p.repeats (length p.columns) column)

-- its u- and its v-part
abbrev pub parts_of : Column → List Token × List Token
parts_of c = (c.u_part, c.v_part)

abbrev pub parts : Forming → ℕ → Option (List Token × List Token)
parts p column = option_map parts_of (column_of p column)

-- the glue behind it
abbrev pub skip_of : Option Column → GlueSpec
skip_of None = zero_glue
skip_of (Some c) = c.skip

abbrev pub skip_behind : Forming → ℕ → GlueSpec
skip_behind p column = skip_of (column_of p column)

-- whether the preamble has so many columns
abbrev pub has_columns : Forming → ℕ → Bool
has_columns p count = is_some (column_of p (count - 1))
