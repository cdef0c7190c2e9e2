-- What stands behind an edit moves with it: places, and what was read up to such a place.
use Rattle.std.specs.Prelude.{ℕ, ◌+◌, ◌-◌, ◌≤◌, ◌<◌, ◌^◌, length, Option, Some, None}
use Rattle.std.specs.FinMap.{get, insert}
use Rattle.tx_files.specs.declared.edit.Edit.{Edit}
use Rattle.tx_files.specs.declared.reads.Extent.{Extent}
use Rattle.tx_files.specs.declared.reads.Extent.TheVariants.{Absent, Upto, Whole}
use Rattle.tx_files.specs.declared.reads.FileReads.{FileReads}
use Rattle.tx_files.specs.Reads.{Reads}

-- where a place behind the bytes that an edit takes out stands after it
abbrev pub shifted : Edit → ℕ → ℕ
shifted e offset = offset - e.removed + length e.put

-- a place behind the bytes that an edit takes out
abbrev pub IsBehind : Edit → ℕ → Type 0
IsBehind e offset = e.place + e.removed ≤ offset

-- such a place, of which an offset still tells after the edit
abbrev pub CanShift : Edit → ℕ → Type 0
CanShift e offset = IsBehind e offset × (shifted e offset < 2 ^ 64)

-- how much was read of the edited file, up to a place behind the edit
abbrev pub shifted_extent : Edit → Extent → Extent
shifted_extent e Absent = Absent
shifted_extent e (Upto n) = Upto (shifted e n)
shifted_extent e Whole = Whole

abbrev pub CanShiftExtent : Edit → Extent → Type 0
CanShiftExtent e Absent = Unit {0}
CanShiftExtent e (Upto n) = CanShift e n
CanShiftExtent e Whole = Unit {0}

abbrev pub CanShiftReads : Edit → Option FileReads → Type 0
CanShiftReads e None = Unit {0}
CanShiftReads e (Some reads) = CanShiftExtent e reads.extent

-- the reads with this one of the edited file
abbrev pub shifted_by : Edit → Reads → Option FileReads → Reads
shifted_by e reads None = reads
shifted_by e reads (Some held) = insert reads e.name (record held { extent = shifted_extent e held.extent })

-- the reads of turns that stand behind an edit: those of the edited file move with it, all others stay
abbrev pub shifted_reads : Edit → Reads → Reads
shifted_reads e reads = shifted_by e reads (get reads e.name)
