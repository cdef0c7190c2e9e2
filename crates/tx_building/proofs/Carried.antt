-- What comes of a command of boxes by what it answers.
use Rattle.std.proofs.Common.{◌≡◌, ℕ, List, Result, Ok, Err, IfOk, refl, sym, ◌∙◌}
use Rattle.tx_box.specs.declared.parts.Done.{Done}
use Rattle.tx_box.specs.declared.parts.Lists.{Lists}
use Rattle.tx_box.specs.Building.{Ended, reported}
use Rattle.tx_box.specs.Effects.{Effect, told}
use Rattle.tx_building.specs.Carrying.{boxed, carried, carried_telling}
use Rattle.tx_eqtb.specs.declared.eqtb.Eqtb.{Eqtb}
use Rattle.tx_event.specs.declared.types.Event.{Event}
use Rattle.tx_state.specs.declared.state.State.{State}
use Rattle.tx_state.specs.Meanings.{IsStepped, state_of}
use Rattle.tx_state.specs.State.{TexState}
use Rattle.tx_state.proofs.Outcomes.{outcome-by}

-- other lists and another table in a state
abbrev pub with_parts : State → Lists → Eqtb → State
with_parts s lists table = record s { lists = lists; table = table }

-- the lists and the table that were there don't matter
carried-forgets : (s : TexState) (lists : Lists) (table : Eqtb) (e : Effect) → carried (record s { lists = lists; table = table }) e ≡ carried s e
carried-forgets s lists table (Ok left) = refl
carried-forgets s lists table (Err error) = refl

telling-forgets : (s : TexState) (lists : Lists) (table : Eqtb) (report : List ℕ) (e : Effect) → carried_telling (record s { lists = lists; table = table }) report e ≡ carried_telling s report e
telling-forgets s lists table report (Ok left) = refl
telling-forgets s lists table report (Err error) = refl

-- what a command answered is carried over to the state before it, which differs in nothing else
pub carries : {E : Type 0} (base : TexState) (before between new : State) (lists : Lists) (table : Eqtb) (e : Effect) (done : Done) (answer : Result Event E) → state_of between ≡ base → between.said ≡ before.said → e ≡ told done lists table → IfOk answer (λ event. IsStepped (carried (state_of (with_parts between lists table)) (told done lists table)) (with_parts between lists table) event new) → IfOk answer (λ event. IsStepped (carried base e) before event new)
carries base before between new lists table e done answer same said is did =
    outcome-by (carried (state_of (with_parts between lists table)) (told done lists table)) (carried base e) before (with_parts between lists table) new answer
    (carried-forgets (state_of between) lists table (told done lists table) ∙ (λ i. carried (same i) (sym is i)))
    said did

-- with what is reported of a box
pub boxes : {E : Type 0} (base : TexState) (before between new : State) (lists : Lists) (table : Eqtb) (e : Ended) (report : List ℕ) (done : Done) (answer : Result Event E) → state_of between ≡ base → between.said ≡ before.said → e ≡ reported report (told done lists table) → IfOk answer (λ event. IsStepped (boxed (state_of (with_parts between lists table)) (reported report (told done lists table))) (with_parts between lists table) event new) → IfOk answer (λ event. IsStepped (boxed base e) before event new)
boxes base before between new lists table e report done answer same said is did =
    outcome-by (boxed (state_of (with_parts between lists table)) (reported report (told done lists table))) (boxed base e) before (with_parts between lists table) new answer
    (telling-forgets (state_of between) lists table report (told done lists table) ∙ (λ i. boxed (same i) (sym is i)))
    said did
