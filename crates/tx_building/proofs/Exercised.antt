-- The page builder was exercised.
use Rattle.std.proofs.Common.{◌≡◌, [], Result, Ok, append-nil, refl, ap, subst, sym, ◌∙◌}
use Rattle.tx_building.specs.Building.{exercised, paging}
use Rattle.tx_event.specs.declared.types.Event.TheVariants.{Went}
use Rattle.tx_galley.specs.Exercising.{Exercised}
use Rattle.tx_seen.specs.declared.error.TexError.{TexError}
use Rattle.tx_state.specs.declared.parts.Phase.{Phase}
use Rattle.tx_state.specs.declared.parts.Phase.TheVariants.{Running}
use Rattle.tx_state.specs.declared.state.State.{State}
use Rattle.tx_state.specs.Meanings.{IsStepped, state_of}
use Rattle.tx_state.specs.Outcomes.{Outcome, Leaves}
use Rattle.tx_state.specs.State.{TexState, meaning_in}

-- a turn that leaves the state as it is now, and tells nothing
went-so : (o : Outcome) (before new : State) → new.phase ≡ Running → new.said ≡ before.said → Leaves (state_of new) [] ≡ o → IsStepped o before Went new
went-so o before new ready said is =
    subst (λ (p : Outcome). IsStepped p before Went new) is (record {
      event_is = refl;
      state_is = ap (λ (p : Phase). meaning_in p (state_of new)) ready;
      said_is = said ∙ sym (append-nil before.said);
    })

-- what is to come of a page that fired stands in the state; `s` is the state from which the page builder was exercised
pub paged-so : (s : TexState) (before new : State) (x : Exercised) (made : Result Exercised TexError) → new.phase ≡ Running → new.said ≡ before.said → made ≡ Ok x → state_of new ≡ paging x.next (record s { lists = record s.lists { nest = x.nest; pages = x.pages }; table = x.table }) → IsStepped (exercised s [] made) before Went new
paged-so s before new x made ready said found is =
    went-so (exercised s [] made) before new ready said (ap (λ (t : TexState). Leaves t []) is ∙ ap (exercised s []) (sym found))
