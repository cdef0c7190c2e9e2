-- What errors of packing and of leading are to a display, and what comes of one part after the other.
use Rattle.std.specs.Prelude.{Result, Ok, Err}
use Rattle.tx_nest.specs.declared.leading.NestError.{NestError}
use Rattle.tx_nest.specs.declared.leading.NestError.TheVariants as leading
use Rattle.tx_nest.specs.declared.list.ModeList.{ModeList}
use Rattle.tx_pack.specs.declared.types.Packed.{Packed}
use Rattle.tx_pack.specs.declared.types.PackError.{PackError}
use Rattle.tx_pack.specs.declared.types.PackError.TheVariants as packing
use Rattle.tx_display.specs.declared.error.DisplayError.{DisplayError}
use Rattle.tx_display.specs.declared.error.DisplayError.TheVariants.{SizeOutOfRange, TooDeep, OutOfMemory}

abbrev pub of_packing : PackError → DisplayError
of_packing packing.SizeOutOfRange = SizeOutOfRange
of_packing packing.TooDeep = TooDeep
of_packing packing.OutOfMemory = OutOfMemory

abbrev pub of_leading : NestError → DisplayError
of_leading leading.SizeOutOfRange = SizeOutOfRange
of_leading leading.OutOfMemory = OutOfMemory

-- what packing gives, and a list behind a box with its leading
abbrev pub packed : Result Packed PackError → Result Packed DisplayError
packed (Err error) = Err (of_packing error)
packed (Ok made) = Ok made

abbrev pub led : Result ModeList NestError → Result ModeList DisplayError
led (Err error) = Err (of_leading error)
led (Ok list) = Ok list

-- one part after the other, up to the first error
abbrev pub passed : {A B : Type 0} → Result A DisplayError → (A → Result B DisplayError) → Result B DisplayError
passed (Err error) more = Err error
passed (Ok value) more = more value
