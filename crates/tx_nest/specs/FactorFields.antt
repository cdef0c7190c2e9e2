-- The field of the type `SpaceFactor`, as the number that it stands for.
use Rattle.std.specs.Prelude.{ℕ}
use Rattle.tx_nest.specs.declared.factor.SpaceFactor.TheInside.{Inside}

abbrev pub factor_in : Inside → ℕ
factor_in f = f.factor

abbrev pub field_of : ℕ → Inside
field_of n = record { factor = n }
