-- What can become of a part of an integer.
use Rattle.std.specs.Prelude.{◌≡◌, ◌⊎◌, ℤ, []}
use Rattle.tx_seen.specs.declared.error.TexError.TheVariants.{NumberOutOfRange}
use Rattle.tx_seen.specs.Readings.{Reading, Done, Wrong}

-- a whole integer, or the number of a register or a character that is out of its range
abbrev pub HasEnded : Reading ℤ → Type 0
HasEnded reading = ((n : ℤ) × (reading ≡ Done n [])) ⊎ (reading ≡ Wrong NumberOutOfRange)
