-- What the machine's state means: plain data.
use Rattle.tx_dvi.specs.declared.page.DateParameters.{DateParameters}
use Rattle.tx_event.specs.Turns.{Mode, Ready, Awaits, Halted as Mode_halted}
use Rattle.line_machine.specs.declared.state.Phase.{Phase}
use Rattle.line_machine.specs.declared.state.Phase.TheVariants.{Begins, Reads, Fails, Waits, Halted}
use Rattle.line_machine.specs.declared.state.State.{State}

-- all that the next turns can depend on: the date of the pages, and what comes next
pub record Meaning : Type 0 where
  pub date : DateParameters
  pub phase : Phase

abbrev pub mode_of : Phase → Mode
mode_of (Begins name) = Ready
mode_of (Reads text) = Ready
mode_of (Fails error) = Ready
mode_of (Waits kind) = Awaits kind
mode_of Halted = Mode_halted

-- the parts of the state as they stand in the code
abbrev pub meaning_of : State → Meaning
meaning_of s = record { date = s.date; phase = s.phase }
