-- The parameters of a font as they are now, from 1 on (TeX: The Program, sections 576 to 579); those past the last one are 0.
use Rattle.std.specs.Prelude.{ℕ, zero, suc, ◌-◌, ℤ, pos, List, [], ◌∷◌, ◌++◌, length, replicate, get_or, slice_set}
use Rattle.tx_tfm.specs.declared.metrics.Metrics.{Metrics}
use Rattle.tx_tfm.specs.Metrics.{parameter_of}

-- parameter n, from 1 on
abbrev pub parameter_at : List ℤ → ℕ → ℤ
parameter_at parameters n = get_or parameters (n - 1) (pos 0)

-- so many parameters at least, those behind the last one being 0
abbrev pub lengthened : ℕ → List ℤ → List ℤ
lengthened count parameters = parameters ++ replicate (count - length parameters) (pos 0)

-- another parameter n; those between it and the last one are 0 from now on
abbrev pub with_value : ℕ → ℤ → List ℤ → List ℤ
with_value zero value parameters = parameters
with_value (suc n) value parameters = slice_set (lengthened (suc n) parameters) n value

-- the first n that a font's file has
abbrev pub first_parameters : Metrics → ℕ → List ℤ
first_parameters m zero = []
first_parameters m (suc n) = first_parameters m n ++ parameter_of m (suc n) ∷ []
