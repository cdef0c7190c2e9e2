-- Counts of faults. A count never falls, and stands still once it is at its greatest value.
use Rattle.std.specs.Prelude.{ℕ, ◌+◌, ◌-◌, ◌^◌, ◌≤◌, min}

-- the count went up by at least one, or stands at 2^64 - 1
abbrev pub Rose : ℕ → ℕ → Type 0
Rose before now = min (before + 1) (2 ^ 64 - 1) ≤ now

-- a fault was counted
pub record CountsFault (before now : ℕ) : Type 0 where
  pub later : before ≤ now
  pub rose : Rose before now
