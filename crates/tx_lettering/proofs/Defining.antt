-- What comes of a definition that is whole.
use Rattle.std.proofs.Common.{◌≡◌, ◌||◌, Bool, Option, None, Some, Result, IfOk, refl, ap, subst, sym, ◌∙◌}
use Rattle.tx_assign.specs.Changes.{carried_out, with_text}
use Rattle.tx_assign.specs.declared.types.Assignment.{Assignment}
use Rattle.tx_assign.specs.declared.types.Change.TheVariants.{Set}
use Rattle.tx_command.specs.Commands.{prefixes_of}
use Rattle.tx_command.specs.declared.types.Prefixes.{Prefixes}
use Rattle.tx_eqtb.specs.declared.entry.Entry.TheVariants.{Means}
use Rattle.tx_event.specs.declared.types.Event.{Event}
use Rattle.tx_prim.specs.declared.family.DefinitionKind.{DefinitionKind}
use Rattle.tx_seen.specs.declared.meaning.Meaning.TheVariants.{Macro}
use Rattle.tx_seen.specs.declared.place.Place.{Place}
use Rattle.tx_text.specs.Absorbed.{Absorbing}
use Rattle.tx_text.specs.Definitions.{Defining as Defined_text}
use Rattle.tx_toklist.specs.Macros.{Definition}
use Rattle.tx_state.specs.declared.state.State.{State}
use Rattle.tx_parts.specs.declared.parts.OpenText.{OpenText}
use Rattle.tx_parts.specs.declared.parts.OpenText.TheVariants as texts
use Rattle.tx_state.specs.Ended.{assigning}
use Rattle.tx_state.proofs.Outcomes.{outcome-by}
use Rattle.tx_lettering.specs.Texts.{defining, ending_text, macro_of}
use Rattle.tx_state.specs.Meanings.{IsStepped, state_of}
use Rattle.tx_state.specs.Texts.{is_global}

-- the macro and whether it is global, by the prefixes that were read
pub defines : {E : Type 0} (s new : State) (defined : Place) (kind : DefinitionKind) (d : Defined_text) (prefixes : Prefixes) (made : Definition) (global : Bool) (answer : Result Event E) → prefixes ≡ prefixes_of s.scan.head → made ≡ macro_of prefixes d → global ≡ (prefixes.global || is_global kind) → IfOk answer (λ event. IsStepped (assigning (state_of s) (carried_out s.table (record { place = defined; change = Set (Means (Macro made)) }) global)) s event new) → IfOk answer (λ event. IsStepped (defining (state_of s) defined kind d) s event new)
defines s new defined kind d prefixes made global answer by is wide did =
    let Holds : Definition → Bool → Type 0 = λ m g. IfOk answer (λ event. IsStepped (assigning (state_of s) (carried_out s.table (record { place = defined; change = Set (Means (Macro m)) }) g)) s event new) in
    let own : macro_of prefixes d ≡ macro_of (prefixes_of s.scan.head) d = ap (λ (p : Prefixes). macro_of p d) by in
    let far : (prefixes.global || is_global kind) ≡ ((prefixes_of s.scan.head).global || is_global kind) = ap (λ (p : Prefixes). p.global || is_global kind) by in
    subst (λ g. Holds (macro_of (prefixes_of s.scan.head) d) g) (wide ∙ far) (subst (λ m. Holds m global) (is ∙ own) did)

-- what comes of a text that was whole, which is gone then
pub ends-definition : {E : Type 0} (s new : State) (defined : Place) (kind : DefinitionKind) (d : Defined_text) (found left : Option OpenText) (answer : Result Event E) → found ≡ s.text → found ≡ Some (texts.Definition defined kind d) → left ≡ None
    → IfOk answer (λ event. IsStepped (defining (state_of (record s { text = left })) defined kind d) (record s { text = left }) event new) → IfOk answer (λ event. IsStepped (ending_text (state_of s) s.text) s event new)
ends-definition s new defined kind d found left answer taken is gone did =
    outcome-by (defining (state_of (record s { text = left })) defined kind d) (ending_text (state_of s) s.text) s (record s { text = left }) new answer
    ((λ i. defining (state_of (record s { text = gone i })) defined kind d) ∙ ap (ending_text (state_of s)) (sym is ∙ taken)) refl did

pub ends-list : {E : Type 0} (s new : State) (place : Place) (a : Absorbing) (assignment : Assignment) (prefixes : Prefixes) (found left : Option OpenText) (answer : Result Event E) → found ≡ s.text → found ≡ Some (texts.List place a) → left ≡ None → assignment ≡ with_text place a.tokens → prefixes ≡ prefixes_of s.scan.head
    → IfOk answer (λ event. IsStepped (assigning (state_of (record s { text = left })) (carried_out s.table assignment prefixes.global)) (record s { text = left }) event new) → IfOk answer (λ event. IsStepped (ending_text (state_of s) s.text) s event new)
ends-list s new place a assignment prefixes found left answer taken is gone made by did =
    outcome-by (assigning (state_of (record s { text = left })) (carried_out s.table assignment prefixes.global)) (ending_text (state_of s) s.text) s (record s { text = left }) new answer
    ((λ i. assigning (state_of (record s { text = gone i })) (carried_out s.table (made i) (by i).global)) ∙ ap (ending_text (state_of s)) (sym is ∙ taken)) refl did
