-- Sizes in a display.
use Rattle.std.specs.Prelude.{suc, ◌/◌, ℤ, pos, neg_ℤ, int_lt, unsigned_abs, Result, Ok, Err, if◌then◌else◌}
use Rattle.tx_num.specs.Limits.{fits}
use Rattle.tx_display.specs.declared.error.DisplayError.{DisplayError}
use Rattle.tx_display.specs.declared.error.DisplayError.TheVariants.{SizeOutOfRange}

-- a size that is stored has to be a dimension
abbrev pub stored : ℤ → Result ℤ DisplayError
stored size = if fits size then Ok size else Err SizeOutOfRange

-- half of a size; an odd one is made greater by 1 first (section 100)
abbrev pub half : ℤ → ℤ
half size = if int_lt size (pos 0) then neg_ℤ (pos (unsigned_abs size / 2)) else pos (suc (unsigned_abs size) / 2)
