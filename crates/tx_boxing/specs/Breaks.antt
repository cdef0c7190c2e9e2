-- The texts of \discretionary begin (TeX: The Program, section 1117).
use Rattle.tx_box.specs.Breaks.{breaking as begun_break}
use Rattle.tx_building.specs.Carrying.{carried}
use Rattle.tx_command.specs.declared.types.Head.TheVariants.{Fresh}
use Rattle.tx_prim.specs.declared.family.BreakText.{BreakText}
use Rattle.tx_state.specs.Outcomes.{Outcome}
use Rattle.tx_state.specs.State.{TexState}

-- a text of \discretionary begins behind its begin-group token (section 1117)
abbrev pub beginning_break : TexState → BreakText → Outcome
beginning_break s text = carried (record s { head = Fresh }) (begun_break text s.lists s.table)
