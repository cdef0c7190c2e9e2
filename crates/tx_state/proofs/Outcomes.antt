-- What comes of a turn, by the state that it leaves.
use Rattle.std.proofs.Common.{◌≡◌, ◌++◌, ℕ, List, Result, Ok, Err, IfOk, ap, refl, subst, sym}
use Rattle.tx_event.specs.declared.types.Event.{Event}
use Rattle.tx_event.specs.declared.types.Event.TheVariants.{Went}
use Rattle.tx_state.specs.declared.parts.Phase.{Phase}
use Rattle.tx_state.specs.declared.parts.Phase.TheVariants.{Running}
use Rattle.tx_state.specs.declared.state.State.{State}
use Rattle.tx_state.specs.Meanings.{IsStepped, state_of}
use Rattle.tx_state.specs.Outcomes.{Outcome, Leaves}
use Rattle.tx_state.specs.State.{meaning_in}

-- the same outcome after a state that has said the same
pub outcome-by : {E : Type 0} (one other : Outcome) (before between new : State) (answer : Result Event E) → one ≡ other → between.said ≡ before.said → IfOk answer (λ event. IsStepped one between event new) → IfOk answer (λ event. IsStepped other before event new)
outcome-by one other before between new (Ok event) same said did =
    record { event_is = rw (sym same) did.event_is; state_is = rw (sym same) did.state_is; said_is = rw (sym same, sym said) did.said_is }
outcome-by one other before between new (Err e) same said did = tt

-- a turn that leaves the state as it is now, and has told this
pub went-so : (outcome : Outcome) (before new : State) (told : List ℕ) → new.phase ≡ Running → new.said ≡ before.said ++ told → Leaves (state_of new) told ≡ outcome → IsStepped outcome before Went new
went-so outcome before new told ready said is =
    subst (λ (o : Outcome). IsStepped o before Went new) is (record {
      event_is = refl;
      state_is = ap (λ (p : Phase). meaning_in p (state_of new)) ready;
      said_is = said;
    })
