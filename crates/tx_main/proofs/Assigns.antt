-- What comes of an assignment that isn't of a preamble.
use Rattle.std.proofs.Common.{◌≡◌, Bool, true, false, Result, IfOk, refl, ap, sym, subst, ◌∙◌}
use Rattle.tx_assign.specs.Changes.{carried_out, is_text}
use Rattle.tx_assign.specs.declared.types.Assignment.{Assignment}
use Rattle.tx_assign.specs.declared.types.Change.{Change}
use Rattle.tx_assign.specs.declared.types.Change.TheVariants.{Set, Compute, Add, Copy, Text}
use Rattle.tx_command.specs.Commands.{is_preamble, prefixes_of}
use Rattle.tx_command.specs.declared.types.Command.TheVariants.{Assign}
use Rattle.tx_command.specs.declared.types.Prefixes.{Prefixes}
use Rattle.tx_lettering.specs.Texts.{in_list}
use Rattle.tx_event.specs.declared.types.Event.{Event}
use Rattle.tx_state.specs.declared.state.State.{State}
use Rattle.tx_state.specs.Meanings.{IsStepped, state_of}
use Rattle.tx_state.specs.Outcomes.{Outcome, leaves}
use Rattle.tx_state.specs.State.{TexState}
use Rattle.tx_state.specs.Ended.{assigning}
use Rattle.tx_main.specs.Effects.{assigning_in, assigning_now, effect}
use Rattle.tx_state.proofs.Outcomes.{outcome-by}

outside : (s : TexState) (a : Assignment) (preamble : Bool) → preamble ≡ false → assigning_in preamble s a ≡ assigning_now s a a.change
outside s a false is = refl
outside s a true is = absurd (let no : true ≡ false = is in cc)

-- no text is to be taken first
assigns-now : (s : TexState) (a : Assignment) (change : Change) → is_text change ≡ false → assigning_now s a change ≡ assigning s (carried_out s.table a (prefixes_of s.head).global)
assigns-now s a (Set entry) whole = refl
assigns-now s a (Compute operation n) whole = refl
assigns-now s a (Add g) whole = refl
assigns-now s a (Copy other) whole = refl
assigns-now s a Text whole = absurd (let no : true ≡ false = whole in cc)

-- its text is
lists-now : (s : TexState) (a : Assignment) (change : Change) → is_text change ≡ true → assigning_now s a change ≡ leaves (in_list s a.place)
lists-now s a (Set entry) text = absurd (let no : false ≡ true = text in cc)
lists-now s a (Compute operation n) text = absurd (let no : false ≡ true = text in cc)
lists-now s a (Add g) text = absurd (let no : false ≡ true = text in cc)
lists-now s a (Copy other) text = absurd (let no : false ≡ true = text in cc)
lists-now s a Text text = refl

pub assigns : {E : Type 0} (s new : State) (a : Assignment) (prefixes : Prefixes) (answer : Result Event E) → is_preamble s.scan.head ≡ false → is_text a.change ≡ false → prefixes ≡ prefixes_of s.scan.head → IfOk answer (λ event. IsStepped (assigning (state_of s) (carried_out s.table a prefixes.global)) s event new) → IfOk answer (λ event. IsStepped (effect (state_of s) (Assign a)) s event new)
assigns s new a prefixes answer not_within whole by did =
    outcome-by (assigning (state_of s) (carried_out s.table a prefixes.global)) (effect (state_of s) (Assign a)) s s new answer
    (ap (λ (p : Prefixes). assigning (state_of s) (carried_out s.table a p.global)) by ∙ sym (assigns-now (state_of s) a a.change whole) ∙ sym (outside (state_of s) a (is_preamble s.scan.head) not_within)) refl did

pub lists : (s new : State) (a : Assignment) (event : Event) → is_preamble s.scan.head ≡ false → is_text a.change ≡ true → IsStepped (leaves (in_list (state_of s) a.place)) s event new → IsStepped (effect (state_of s) (Assign a)) s event new
lists s new a event not_within text did =
    subst (λ (o : Outcome). IsStepped o s event new) (sym (lists-now (state_of s) a a.change text) ∙ sym (outside (state_of s) a (is_preamble s.scan.head) not_within)) did
