-- What the rest of a turn tells stands behind what was told before.
use Rattle.std.proofs.Common.{◌≡◌, ◌++◌, append_assoc, Bool, true, if◌then◌else◌, ℕ, false, List, [], Option, Some, None, Result, Ok, Err, IfOk, refl, ap, sym, ◌∙◌}
use Rattle.tx_box.specs.Building.{ending, greatest_depth}
use Rattle.tx_box.specs.Effects.{Effect}
use Rattle.tx_box.specs.Inserts.{VerticalLeft, ending_insert as insert_ended, insert_params, left_vertical}
use Rattle.tx_building.specs.Building.{built, built_in, exercised, exercising, is_pages}
use Rattle.tx_building.specs.Carrying.{carried_telling, carrying}
use Rattle.tx_eqtb.specs.declared.groups.GroupKind.{GroupKind}
use Rattle.tx_eqtb.specs.declared.groups.GroupKind.TheVariants as group
use Rattle.tx_eqtb.specs.Stack.{closed}
use Rattle.tx_event.specs.declared.types.Event.{Event}
use Rattle.tx_event.specs.Turns.{Stepped}
use Rattle.tx_galley.specs.Ending.{ending_output as output_ended}
use Rattle.tx_galley.specs.Exercising.{Exercised, exercising as exercising_pages}
use Rattle.tx_grouping.specs.GroupEnds.{list_ending, telling}
use Rattle.tx_grouping.specs.ListEnds.{context_of, ending_box, ending_insert, ending_output_in, packing_box, packing_insert}
use Rattle.tx_seen.specs.declared.error.TexError.{TexError}
use Rattle.tx_shape.specs.declared.types.BoxContext.{BoxContext}
use Rattle.tx_shape.specs.declared.types.BoxContext.TheVariants.{Adjust, Append, Center, Lead, Register, Ship}
use Rattle.tx_state.specs.declared.state.State.{State}
use Rattle.tx_state.specs.Groups.{closing}
use Rattle.tx_state.specs.Meanings.{IsStepped}
use Rattle.tx_state.specs.Outcomes.{Outcome, Leaves, Asks, Ships, Fails, Ends, stepped}
use Rattle.tx_state.specs.State.{TexState, Meaning}

-- what comes of a turn is told behind what was told before
abbrev pub Tells : Outcome → Type 0
Tells o = (lines : List ℕ) → stepped (telling lines o) ≡ record { event = (stepped o).event; next = (stepped o).next; said = lines ++ (stepped o).said }

-- so it is of what a box answers, and of the page builder
tells-carried : (s : TexState) (report : List ℕ) (e : Effect) → Tells (carried_telling s report e)
tells-carried s report (Ok left) = λ lines. refl
tells-carried s report (Err error) = λ lines. refl

tells-exercised : (s : TexState) (said : List ℕ) (x : Result Exercised TexError) → Tells (exercised s said x)
tells-exercised s said (Ok x) = λ lines. refl
tells-exercised s said (Err error) = λ lines. refl

tells-then : (s : TexState) (said : List ℕ) (here : Bool) → Tells (if here then exercising s said else Leaves s said)
tells-then s said true = tells-exercised s said (exercising_pages s.lists.nest s.table s.lists.pages)
tells-then s said false = λ lines. refl

tells-built : (o : Outcome) → Tells o → Tells (built o)
tells-built (Leaves s said) h = tells-then s said (is_pages s.mode)
tells-built (Asks ask s) h = h
tells-built (Ships page s) h = h
tells-built (Fails error said) h = h
tells-built Ends h = h

tells-in : (context : BoxContext) (o : Outcome) → Tells o → Tells (built_in context o)
tells-in (Append shift) o h = tells-built o h
tells-in (Register n) o h = h
tells-in Ship o h = h
tells-in Adjust o h = h
tells-in Center o h = h
tells-in (Lead kind) o h = h

-- and of the end of each list in which a paragraph may be open
tells-box : (s : TexState) → Tells (ending_box s)
tells-box s =
    tells-in (context_of s.lists.boxes) (packing_box s)
    (tells-carried (closing s) (ending (greatest_depth s.table.table) s.lists (closed s.table)).report (ending (greatest_depth s.table.table) s.lists (closed s.table)).effect)

tells-insert : (s : TexState) (class : ℕ) → Tells (ending_insert s class)
tells-insert s class =
    tells-built (packing_insert s class) (tells-carried (closing s) [] (insert_ended class (insert_params s.table.table) s.lists (closed s.table)))

tells-output : (s : TexState) (left : Option VerticalLeft) → Tells (ending_output_in s left)
tells-output s None = λ lines. refl
tells-output s (Some left) =
    tells-exercised (carrying s (record { lists = left.lists; table = s.table; due = None; leads = None })) [] (output_ended left.items left.lists.nest s.table left.lists.pages)

pub tells-list : (which : GroupKind) (s : TexState) → Tells (list_ending which s)
tells-list (group.Insert class) s = tells-insert s class
tells-list group.Output s = tells-output (closing s) (left_vertical s.lists)
tells-list group.NoAlign s = λ lines. refl
tells-list group.Simple s = tells-box s
tells-list group.SemiSimple s = tells-box s
tells-list group.HorizontalBox s = tells-box s
tells-list group.VerticalBox s = tells-box s
tells-list group.TopBox s = tells-box s
tells-list (group.Discretionary text) s = tells-box s
tells-list group.MathShift s = tells-box s
tells-list group.Display s = tells-box s
tells-list (group.EquationNumber side) s = tells-box s
tells-list (group.MathPart part) s = tells-box s
tells-list (group.MathChoice style) s = tells-box s
tells-list (group.MathLeft left) s = tells-box s
tells-list group.Entry s = tells-box s
tells-list group.Align s = tells-box s

-- lines that were told before the rest of a turn
told-so : (o : Outcome) (s new : State) (lines said : List ℕ) (event : Event) → stepped (telling lines o) ≡ record { event = (stepped o).event; next = (stepped o).next; said = lines ++ (stepped o).said } → said ≡ s.said ++ lines → IsStepped o (record s { said = said }) event new → IsStepped (telling lines o) s event new
told-so o s new lines said event tells is did = record {
  event_is = did.event_is ∙ sym (ap (λ (t : Stepped Meaning). t.event) tells);
  state_is = did.state_is ∙ sym (ap (λ (t : Stepped Meaning). t.next) tells);
  said_is = did.said_is ∙ ap (λ (all : List ℕ). all ++ (stepped o).said) is ∙ append_assoc s.said lines (stepped o).said ∙ sym (ap (λ (t : Stepped Meaning). s.said ++ t.said) tells);
}

pub told-before : {E : Type 0} (o : Outcome) (s new : State) (lines said : List ℕ) (answer : Result Event E) → Tells o → said ≡ s.said ++ lines → IfOk answer (λ event. IsStepped o (record s { said = said }) event new) → IfOk answer (λ event. IsStepped (telling lines o) s event new)
told-before o s new lines said (Ok event) tells is did = told-so o s new lines said event (tells lines) is did
told-before o s new lines said (Err e) tells is did = tt
