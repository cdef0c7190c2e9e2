-- What all of a formula is set by, as the code has it. No public clause speaks of it.
use Rattle.std.specs.Prelude.{◌≤◌, ◌^◌, ℤ, unsigned_abs, Option, Some, None}
use Rattle.tx_num.specs.Glue.{IsDimension}
use Rattle.tx_math.specs.declared.nucleus.Nucleus.{Nucleus}
use Rattle.tx_math.specs.declared.piece.Reach.{Reach}
use Rattle.tx_math.specs.declared.setter.Setter.{Setter}
use Rattle.tx_math.specs.declared.shifts.Shifts.{Shifts}
use Rattle.tx_math.specs.Parameters.{Math}

abbrev pub math_in : Setter → Math
math_in s = record { fonts = s.fonts.now; params = s.params.now }

-- \overfullrule is a dimension
abbrev pub IsSetter : Setter → Type 0
IsSetter s = IsDimension s.params.now.packing.overfull_rule

-- a size that sums of sizes don't come near to the end of 64 bits with
abbrev pub IsNear : ℤ → Type 0
IsNear size = unsigned_abs size ≤ 2 ^ 40

abbrev pub AreNear : Shifts → Type 0
AreNear s = IsNear s.up × IsNear s.down

-- how far items reach, each of which is a dimension and may be shifted by one
abbrev pub IsReach : Reach → Type 0
IsReach r = (unsigned_abs r.height ≤ 2 ^ 32) × (unsigned_abs r.depth ≤ 2 ^ 32)

-- what holds of a nucleus that is made
abbrev pub AreEdges : Option (ℤ × ℤ) → Type 0
AreEdges None = Unit {0}
AreEdges (Some edges) = (unsigned_abs edges.0 ≤ 2 ^ 33) × (unsigned_abs edges.1 ≤ 2 ^ 33)

pub record IsNucleus (n : Nucleus) : Type 0 where
  pub edges_near : AreEdges n.edges
  pub offset_near : unsigned_abs n.offset ≤ 2 ^ 33
