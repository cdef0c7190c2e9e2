-- When a run began, and what reading a line takes from the table (TeX: The Program, sections 241 and 362).
use Rattle.std.specs.Prelude.{ℕ, pos, Option}
use Rattle.tx_machine.specs.declared.types.Date.{Date}
use Rattle.tx_prim.specs.declared.integer.Moment.{Moment}
use Rattle.tx_prim.specs.declared.integer.IntegerParameter.TheVariants.{Endlinechar}
use Rattle.tx_eqtb.specs.declared.table.Table.{Table}
use Rattle.tx_scan.specs.Integers.{byte_of}
use Rattle.tx_state.specs.Ended.{integer}

-- when a run began, as the date parameters say it
abbrev pub moment_of : Date → Moment
moment_of date = record { year = pos date.year; month = pos date.month; day = pos date.day; time = pos date.minutes }

-- the character at the end of each line that is read, if there is one (TeX: The Program, section 362)
abbrev pub line_end : Table → Option ℕ
line_end table = byte_of (integer table Endlinechar)
