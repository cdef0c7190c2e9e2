-- The numbers of the errors.
use Rattle.std.specs.Prelude.{ℕ}
use Rattle.line_machine.specs.declared.error.LineError.{LineError}
use Rattle.line_machine.specs.declared.error.LineError.TheVariants.{TooLong, FileAbsent, NoEnd}

abbrev pub number_of : LineError → ℕ
number_of TooLong = 1
number_of FileAbsent = 2
number_of NoEnd = 3
