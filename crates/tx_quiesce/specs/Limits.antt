-- How a run that is known up to one page limit goes on to another.
use Rattle.std.specs.Prelude.{ℕ, ◌-◌, Bool, true, false, nat_le, length, take, if◌then◌else◌}
use Rattle.tx_bytes.specs.Files.{Files}
use Rattle.tx_machine.specs.declared.types.End.{End as RunEnd}
use Rattle.tx_machine.specs.declared.types.End.TheVariants.{End, Error, Budget, PageLimit}
use Rattle.tx_machine.specs.Machine.{Formatter}
use Rattle.tx_checkpoint.specs.Resume.{Begun, after_rows}
use Rattle.tx_checkpoint.specs.Rows.{History, rows_in, at_limit, behind, rows_from}

abbrev pub is_page_limit : RunEnd → Bool
is_page_limit End = false
is_page_limit (Error code name line) = false
is_page_limit Budget = false
is_page_limit PageLimit = true

-- the first pages of a run, which then has as many as it may
abbrev pub cut : {S : Type 0} → ℕ → Begun S → History S → History S
cut most begun h = let kept = take most h.pages in record { pages = kept; last = at_limit (after_rows begun (rows_in kept)).opens }

-- a run with all these pages, and what comes from the state and the open files after them
abbrev pub gone_on : {S : Type 0} → Formatter S → Files → ℕ → ℕ → Begun S → History S → History S
gone_on m files budget most begun h =
    let last = after_rows begun (rows_in h.pages) in
    behind h.pages (rows_from m files budget (most - length h.pages) last.state last.opens)

-- a run from a place on that is known for some number of pages, for so many at most: what is too much is cut, and where it was
-- cut off too early it goes on
abbrev pub up_to : {S : Type 0} → Formatter S → Files → ℕ → ℕ → Begun S → History S → History S
up_to m files budget most begun h =
    if nat_le most (length h.pages) then cut most begun h
    else if is_page_limit h.last.end then gone_on m files budget most begun h
    else h
