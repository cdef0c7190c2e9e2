-- The count of turns, which stands still at its greatest value.
use Rattle.std.specs.Prelude.{ℕ, ◌+◌, ◌-◌, ◌^◌, min}

-- a count that was raised by so many
abbrev pub raised : ℕ → ℕ → ℕ
raised count by = count + min by (2 ^ 64 - 1 - count)
