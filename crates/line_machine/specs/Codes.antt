-- The machine's state is plain data: a code by which two states are told apart.
use Rattle.std.specs.Prelude.{refl}
use Rattle.std.specs.Coded.{Coded, code_by, coded×}
use Rattle.tx_dvi.specs.declared.page.DateParameters.{DateParameters}
use Rattle.tx_dvi.specs.contracts.page.DateParameters as date_parameters
use Rattle.line_machine.specs.declared.state.Phase.{Phase}
use Rattle.line_machine.specs.contracts.state.Phase as phase
use Rattle.line_machine.specs.State.{Meaning}

abbrev pub meaning_code : Coded Meaning
meaning_code = code_by (DateParameters × Phase) (coded× date_parameters.the_row.coded phase.the_row.coded) (λ s. (s.date, s.phase)) (λ p. record { date = p.0; phase = p.1 }) (λ _. refl)
