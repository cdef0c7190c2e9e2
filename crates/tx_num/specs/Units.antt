-- Units of length (The TeXbook, chapter 10; TeX: The Program, section 458).
use Rattle.std.specs.Prelude.{ℕ, ◌+◌, ◌*◌, ◌/◌}
use Rattle.tx_num.specs.declared.units.PhysicalUnit.{PhysicalUnit}
use Rattle.tx_num.specs.declared.units.PhysicalUnit.TheVariants.{Point, Pica, Inch, BigPoint, Centimetre, Millimetre, DidotPoint, Cicero, ScaledPoint}

-- a unit in points, as numerator and denominator
abbrev pub points_in : PhysicalUnit → ℕ × ℕ
points_in Point = (1, 1)
points_in Pica = (12, 1)
points_in Inch = (7227, 100)
points_in BigPoint = (7227, 7200)
points_in Centimetre = (7227, 254)
points_in Millimetre = (7227, 2540)
points_in DidotPoint = (1238, 1157)
points_in Cicero = (14856, 1157)
points_in ScaledPoint = (1, 65536)

-- so many whole units and f 65536ths of one, in sp, rounded down; a fraction of a scaled point is dropped
abbrev pub size_of : PhysicalUnit → ℕ → ℕ → ℕ
size_of ScaledPoint whole f = whole
size_of unit whole f = (points_in unit).0 * (65536 * whole + f) / (points_in unit).1
