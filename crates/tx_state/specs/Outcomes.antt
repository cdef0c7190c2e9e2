-- What comes of a turn (TeX: The Program, section 1030), as the machine tells it to the outside.
use Rattle.std.specs.Prelude.{ℕ, List, []}
use Rattle.tx_dvi.specs.Page.{Page}
use Rattle.tx_event.specs.declared.types.Ask.{Ask}
use Rattle.tx_event.specs.declared.types.Event.TheVariants.{Went, Asks as Event_asks, Shipped, Stopped}
use Rattle.tx_event.specs.declared.types.Stop.TheVariants.{End, Error}
use Rattle.tx_event.specs.Turns.{Stepped, kind_of}
use Rattle.tx_seen.specs.declared.error.TexError.{TexError}
use Rattle.tx_seen.specs.Errors.{number_of}
use Rattle.tx_state.specs.State.{TexState, Meaning, Runs, Waits, Stops}

-- a turn leaves a state and adds to the transcript, asks, ships a page, or ends the run: by an error, behind what it had told before
-- it met that, or as \end does
pub data Outcome : Type 0 where
  Leaves : TexState → List ℕ → Outcome
  Asks : Ask → TexState → Outcome
  Ships : Page → TexState → Outcome
  Fails : TexError → List ℕ → Outcome
  Ends : Outcome

-- nothing is said
abbrev pub leaves : TexState → Outcome
leaves s = Leaves s []

-- nothing was told before the error
abbrev pub fails : TexError → Outcome
fails error = Fails error []

-- what the outside sees of it
abbrev pub stepped : Outcome → Stepped Meaning
stepped (Leaves s said) = record { event = Went; next = Runs s; said = said }
stepped (Asks ask s) = record { event = Event_asks ask; next = Waits (kind_of ask) s; said = [] }
stepped (Ships page s) = record { event = Shipped page; next = Runs s; said = [] }
stepped (Fails error said) = record { event = Stopped (Error (number_of error)); next = Stops; said = said }
stepped Ends = record { event = Stopped End; next = Stops; said = [] }
