-- How large TeX's numbers may be (TeX: The Program, sections 100, 104 and 421).
use Rattle.std.specs.Prelude.{ℕ, ◌-◌, ◌^◌, nat_lt, ℤ, unsigned_abs, Bool}
use Rattle.tx_num.specs.declared.limits.Range.{Range}
use Rattle.tx_num.specs.declared.limits.Range.TheVariants.{Integer, Dimen}

-- the greatest magnitude of a number of this use
abbrev pub limit : Range → ℕ
limit Integer = 2 ^ 31 - 1
limit Dimen = 2 ^ 30 - 1

-- whether a size is a dimension
abbrev pub fits : ℤ → Bool
fits size = nat_lt (unsigned_abs size) (2 ^ 30)
