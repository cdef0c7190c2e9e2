-- The space factor (TeX: The Program, sections 1034 and 1043; The TeXbook, chapter 12).
use Rattle.std.specs.Prelude.{ℕ, nat_lt, ◌==◌, ◌&&◌, if◌then◌else◌, ℤ, pos, ◌≤ℤ◌, int_le, Bool}

-- a space factor: 1000 is the plain one, at which a space stretches and shrinks as its glue says
pub record IsFactor (factor : ℤ) : Type 0 where
  pub least : pos 1 ≤ℤ factor
  pub most : factor ≤ℤ pos 32767

-- from 2000 on a space is one behind a sentence
abbrev pub ends_sentence : ℤ → Bool
ends_sentence factor = int_le (pos 2000) factor

-- the space factor behind a character of this \sfcode: that code, but a code of 0 leaves the factor as it is, and the factor goes
-- from below 1000 to above 1000 by way of 1000, so that the full stop in `A.' doesn't end a sentence
abbrev pub factor_behind : ℕ → ℕ → ℕ
factor_behind factor code =
    if code == 0 then factor
    else if nat_lt factor 1000 && nat_lt 1000 code then 1000
    else code
