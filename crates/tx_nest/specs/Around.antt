-- The list around the one that is being built (TeX: The Program, section 213).
use Rattle.std.specs.Prelude.{List, [], ◌∷◌, Option, Some, None}
use Rattle.tx_prim.specs.declared.modes.Mode.{Mode}
use Rattle.tx_nest.specs.declared.list.ModeList.{ModeList}
use Rattle.tx_nest.specs.States.{mode_of}

-- its mode; None where the pages' list is being built
abbrev pub mode_around : List ModeList → Option Mode
mode_around [] = None
mode_around (outer ∷ around) = Some (mode_of outer.state)
