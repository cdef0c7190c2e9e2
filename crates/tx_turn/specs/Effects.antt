-- What the stomach makes of the state: all that a turn does beyond reading.
use Rattle.std.specs.Prelude.{ℕ, List}
use Rattle.tx_prim.specs.declared.family.EntryEnd.{EntryEnd}
use Rattle.tx_box.specs.declared.parts.Work.{Work}
use Rattle.tx_command.specs.declared.types.Command.{Command}
use Rattle.tx_parts.specs.declared.parts.FontRequest.{FontRequest}
use Rattle.tx_state.specs.Outcomes.{Outcome}
use Rattle.tx_state.specs.State.{TexState}

-- what comes of a command that is whole, and of the open text once it is; what the state is once the word that is open has ended,
-- and once a name that \csname has made means \relax; what comes of the end of an entry, and of that of its v-part; and what of due
-- work: a font's file, and boxes
pub record Effects : Type 0 where
  pub effect : TexState → Command → Outcome
  pub ending_text : TexState → Outcome
  pub word_ended : TexState → TexState
  pub relaxing : TexState → List ℕ → TexState
  pub ending_entry : TexState → EntryEnd → Outcome
  pub over : TexState → Outcome
  pub loading : TexState → FontRequest → Outcome
  pub works_boxes : TexState → Work → Outcome
