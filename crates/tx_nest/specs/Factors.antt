-- Space factors (TeX: The Program, sections 212 and 1243; The TeXbook, chapter 12).
use Rattle.std.specs.Prelude.{ℕ, zero, suc, ◌≤◌, ℤ, pos, negsuc, nat_lt, Option, Some, None, if◌then◌else◌}

-- a space factor: 1000 is the plain one, at which a space stretches and shrinks as its glue says
pub record IsFactor (factor : ℕ) : Type 0 where
  pub least : 1 ≤ factor
  pub most : factor ≤ 32767

-- that of a new list, and behind a box or a rule
abbrev pub plain_factor : ℕ
plain_factor = 1000

-- a number as a space factor, if it is one
abbrev pub factor_of : ℤ → Option ℕ
factor_of (negsuc n) = None
factor_of (pos zero) = None
factor_of (pos (suc n)) = if nat_lt (suc n) 32768 then Some (suc n) else None
