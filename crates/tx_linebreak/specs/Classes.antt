-- How tightly lines are set (TeX: The Program, section 817).
use Rattle.std.specs.Prelude.{ℕ}
use Rattle.tx_linebreak.specs.declared.piece.Class.{Class}
use Rattle.tx_linebreak.specs.declared.piece.Class.TheVariants.{VeryLoose, Loose, Decent, Tight}

-- the classes by their numbers
abbrev pub class_number : Class → ℕ
class_number VeryLoose = 0
class_number Loose = 1
class_number Decent = 2
class_number Tight = 3
