-- The command that is whole, as it is carried out.
use Rattle.std.proofs.Common.{◌≡◌, Result, Ok, Err, IfOk, subst}
use Rattle.tx_command.specs.declared.types.Command.{Command}
use Rattle.tx_event.specs.declared.types.Event.{Event}
use Rattle.tx_state.specs.declared.state.State.{State}
use Rattle.tx_state.specs.Meanings.{IsStepped, state_of}
use Rattle.tx_main.specs.Effects.{effect}

-- the command that is whole, whatever stands in its place while it is carried out
pub carries : {E : Type 0} (s new : State) (other made : Command) (answer : Result Event E) → made ≡ s.made → IfOk answer (λ event. IsStepped (effect (state_of s) made) (record s { made = other }) event new) → IfOk answer (λ event. IsStepped (effect (state_of s) s.made) s event new)
carries s new other made (Ok event) is did =
    subst (λ (c : Command). IsStepped (effect (state_of s) c) s event new) is
    (record { event_is = did.event_is; state_is = did.state_is; said_is = did.said_is })
carries s new other made (Err e) is did = tt
