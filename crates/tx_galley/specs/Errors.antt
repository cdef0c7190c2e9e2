-- What ends a run where pages are built (TeX: The Program, sections 993, 1009, 1015, 1024, 1027 and 1028).
use Rattle.tx_insert.specs.declared.error.SplitError.{SplitError}
use Rattle.tx_insert.specs.declared.error.SplitError.TheVariants as splitting
use Rattle.tx_output.specs.declared.error.OutputError.{OutputError}
use Rattle.tx_output.specs.declared.error.OutputError.TheVariants as output
use Rattle.tx_pack.specs.declared.types.PackError.{PackError}
use Rattle.tx_pack.specs.declared.types.PackError.TheVariants as packing
use Rattle.tx_pagebuilder.specs.declared.error.PageError.{PageError}
use Rattle.tx_pagebuilder.specs.declared.error.PageError.TheVariants as page
use Rattle.tx_seen.specs.declared.error.TexError.{TexError}
use Rattle.tx_seen.specs.declared.error.TexError.TheVariants.{InfiniteShrink, MissingBox, NumberOutOfRange, OccupiedPageBox, SizeOutOfRange, TooDeep, TooManyDeadCycles, UnbalancedOutput}
use Rattle.tx_galley.specs.declared.errors.GalleyError.{GalleyError}
use Rattle.tx_galley.specs.declared.errors.GalleyError.TheVariants.{Refused, OutOfMemory}

abbrev pub of_page : PageError → GalleyError
of_page page.ClassOutOfRange = Refused NumberOutOfRange
of_page page.SizeOutOfRange = Refused SizeOutOfRange
of_page page.TooDeep = Refused TooDeep
of_page page.EndlessShrink = Refused InfiniteShrink
of_page page.WrongBox = Refused MissingBox
of_page page.OutOfMemory = OutOfMemory

abbrev pub of_output : OutputError → GalleyError
of_output output.OccupiedPageBox = Refused OccupiedPageBox
of_output output.SizeOutOfRange = Refused SizeOutOfRange
of_output output.TooDeep = Refused TooDeep
of_output output.TooManyDeadCycles = Refused TooManyDeadCycles
of_output output.UnbalancedOutput = Refused UnbalancedOutput
of_output output.OutOfMemory = OutOfMemory

abbrev pub of_split : SplitError → GalleyError
of_split splitting.SizeOutOfRange = Refused SizeOutOfRange
of_split splitting.EndlessShrink = Refused InfiniteShrink
of_split splitting.OutOfMemory = OutOfMemory

abbrev pub of_pack : PackError → GalleyError
of_pack packing.SizeOutOfRange = Refused SizeOutOfRange
of_pack packing.TooDeep = Refused TooDeep
of_pack packing.OutOfMemory = OutOfMemory

-- the error that ends the run; building pages never ends by want of memory
abbrev pub error_of : GalleyError → TexError
error_of (Refused error) = error
error_of OutOfMemory = SizeOutOfRange
