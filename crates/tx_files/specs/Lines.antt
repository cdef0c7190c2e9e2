-- The lines of a file: LF ends a line, and what follows the last LF is a line if there is any of it.
use Rattle.std.specs.Prelude.{ℕ, ◌<◌, ◌≤◌, ◌+◌, ◌-◌, ◌==◌, Bool, true, false, List, length, drop, Option, Some, None, position, nat_le, if◌then◌else◌, count_by, slice_get}
use Rattle.tx_files.specs.declared.line.NextLine.{NextLine}
use Rattle.tx_files.specs.declared.line.NextLine.TheVariants.{Line, End}

-- LF
abbrev pub is_line_feed : ℕ → Bool
is_line_feed byte = byte == 10

-- a line that begins at a place of a file of this length, by how far behind the place its LF stands
abbrev pub line_ending : ℕ → ℕ → Option ℕ → NextLine
line_ending from size (Some at) = Line (from + at + 1) true
line_ending from size None = Line size false

-- the line that begins at a place, none at the end or past it: up to and with the next LF, or to the end where there is none
abbrev pub next_line_at : List ℕ → ℕ → NextLine
next_line_at bytes from =
    if nat_le (length bytes) from then End else line_ending from (length bytes) (position is_line_feed (drop from bytes))

-- one if the last byte isn't LF
abbrev pub unfinished_line : Option ℕ → ℕ
unfinished_line None = 0
unfinished_line (Some last) = if is_line_feed last then 0 else 1

-- how many lines the bytes make up: one for each LF, and one for what follows the last of them
abbrev pub line_count : List ℕ → ℕ
line_count bytes = count_by is_line_feed bytes + unfinished_line (slice_get bytes (length bytes - 1))

-- a line has at least one byte, and lies within the file
abbrev pub IsLineWithin : List ℕ → ℕ → NextLine → Type 0
IsLineWithin bytes from (Line end has_lf) = (from < end) × (end ≤ length bytes)
IsLineWithin bytes from End = Unit {0}
