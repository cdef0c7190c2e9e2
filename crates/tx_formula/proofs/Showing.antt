-- What a display that ended leaves, and what is told of it.
use Rattle.std.proofs.Common.{◌≡◌, ◌≢◌, ◌++◌, ◌∙◌, ℕ, List, Result, Ok, Err, IfOk, IfErr, OnOk, append_assoc, append-nil, ap, subst, sym}
use Rattle.tx_box.specs.declared.parts.Lists.{Lists}
use Rattle.tx_command.specs.declared.types.Head.TheVariants.{Displayed}
use Rattle.tx_event.specs.declared.types.Event.{Event}
use Rattle.tx_event.specs.declared.types.Event.TheVariants.{Went}
use Rattle.tx_formula.specs.declared.error.FormulaError.{FormulaError}
use Rattle.tx_formula.specs.declared.error.FormulaError.TheVariants.{OutOfMemory}
use Rattle.tx_formula.specs.DisplayLists.{IsShown, Shown, telling}
use Rattle.tx_formula.specs.Displays.{display_given, display_shown}
use Rattle.tx_formula.specs.Errors.{error_of}
use Rattle.tx_formula.specs.Groups.{behind_formula}
use Rattle.tx_seen.specs.declared.error.TexError.{TexError}
use Rattle.tx_state.specs.declared.parts.Phase.TheVariants.{Running}
use Rattle.tx_state.specs.declared.state.State.{State}
use Rattle.tx_state.specs.Meanings.{IsStepped, state_of}
use Rattle.tx_state.specs.Outcomes.{Leaves, fails}
use Rattle.tx_state.specs.State.{TexState}
use Rattle.tx_state.proofs.Outcomes.{went-so}

-- the same display, in whatever words
pub shown-by : {T : Type 0} (r : Result T FormulaError) (one other : Shown) (before after : List ℕ) (left : Result Lists TexError) → one ≡ other → OnOk r (IsShown one before after left) → OnOk r (IsShown other before after left)
shown-by r one other before after left same is = subst (λ (made : Shown). OnOk r (IsShown made before after left)) same is

pub refused-by : {T : Type 0} (r : Result T FormulaError) (one other : Shown) (before after : List ℕ) → one ≡ other → IfErr r (λ (e : FormulaError). e ≢ OutOfMemory → IsShown one before after (Err (error_of e))) → IfErr r (λ (e : FormulaError). e ≢ OutOfMemory → IsShown other before after (Err (error_of e)))
refused-by r one other before after same is = subst (λ (made : Shown). IfErr r (λ (e : FormulaError). e ≢ OutOfMemory → IsShown made before after (Err (error_of e)))) same is

-- behind what was told before
pub telling-is : (made : Shown) (first before between after : List ℕ) (left : Result Lists TexError) → between ≡ before ++ first → IsShown made between after left → IsShown (telling first made) before after left
telling-is made first before between after left is shown = record {
  lists_are = shown.lists_are;
  said_is = shown.said_is ∙ ap (λ (said : List ℕ). said ++ made.told) is ∙ append_assoc before first made.told;
}

pub shown-behind : {T : Type 0} (r : Result T FormulaError) (made other : Shown) (first before between after : List ℕ) (left : Result Lists TexError) → telling first made ≡ other → between ≡ before ++ first → OnOk r (IsShown made between after left) → OnOk r (IsShown other before after left)
shown-behind (Ok value) made other first before between after left same is shown =
    subst (λ (m : Shown). IsShown m before after left) same (telling-is made first before between after left is shown)
shown-behind (Err e) made other first before between after left same is shown = tt

pub refused-behind : {T : Type 0} (r : Result T FormulaError) (made other : Shown) (first before between after : List ℕ) → telling first made ≡ other → between ≡ before ++ first → IfErr r (λ (e : FormulaError). e ≢ OutOfMemory → IsShown made between after (Err (error_of e))) → IfErr r (λ (e : FormulaError). e ≢ OutOfMemory → IsShown other before after (Err (error_of e)))
refused-behind (Ok value) made other first before between after same is shown = tt
refused-behind (Err e) made other first before between after same is shown = λ not_memory.
    subst (λ (m : Shown). IsShown m before after (Err (error_of e))) same (telling-is made first before between after (Err (error_of e)) is (shown not_memory))

-- the display's group has ended, and a space is to be skipped
pub left-so : (before new : State) (made : Shown) (said : List ℕ) (lists : Lists) → IsShown made before.said said (Ok lists) → new.said ≡ said → new.phase ≡ Running → state_of new ≡ record (behind_formula (state_of before) lists) { head = Displayed } → IsStepped (display_shown (state_of before) made) before Went new
left-so before new made said lists shown same ready is =
    went-so (display_shown (state_of before) made) before new made.told ready (same ∙ shown.said_is)
    (ap (λ (s : TexState). Leaves s made.told) is ∙ sym (ap (display_given (state_of before) made.told) shown.lists_are))

-- or the run ends by an error, behind what was told
pub fails-so : {E : Type 0} (before between new : State) (made : Shown) (error : FormulaError) (answer : Result Event E) → (error ≢ OutOfMemory → IsShown made before.said between.said (Err (error_of error))) → IfOk answer (λ event. error ≢ OutOfMemory) → IfOk answer (λ event. IsStepped (fails (error_of error)) between event new) → IfOk answer (λ event. IsStepped (display_shown (state_of before) made) before event new)
fails-so before between new made error (Ok event) shown not_memory did =
    let is : IsShown made before.said between.said (Err (error_of error)) = shown not_memory in
    subst (λ (left : Result Lists TexError). IsStepped (display_given (state_of before) made.told left) before event new) (sym is.lists_are)
    (record { event_is = did.event_is; state_is = did.state_is; said_is = did.said_is ∙ append-nil between.said ∙ is.said_is })
fails-so before between new made error (Err e) shown not_memory did = tt

-- what is told of a display stands behind what was told before it
told-given : (s : TexState) (first told : List ℕ) (left : Result Lists TexError) (before between new : State) (event : Event) → between.said ≡ before.said ++ first → IsStepped (display_given s told left) between event new → IsStepped (display_given s (first ++ told) left) before event new
told-given s first told (Ok lists) before between new event is did = record {
  event_is = did.event_is;
  state_is = did.state_is;
  said_is = did.said_is ∙ ap (λ (said : List ℕ). said ++ told) is ∙ append_assoc before.said first told;
}
told-given s first told (Err error) before between new event is did = record {
  event_is = did.event_is;
  state_is = did.state_is;
  said_is = did.said_is ∙ ap (λ (said : List ℕ). said ++ told) is ∙ append_assoc before.said first told;
}

pub told-behind : {E : Type 0} (s : TexState) (first : List ℕ) (made : Shown) (before between new : State) (answer : Result Event E) → between.said ≡ before.said ++ first → IfOk answer (λ event. IsStepped (display_shown s made) between event new) → IfOk answer (λ event. IsStepped (display_shown s (telling first made)) before event new)
told-behind s first made before between new (Ok event) is did = told-given s first made.told made.lists before between new event is did
told-behind s first made before between new (Err e) is did = tt
