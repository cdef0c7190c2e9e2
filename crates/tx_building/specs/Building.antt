-- The page builder is exercised, and what comes of a page that fires (TeX: The Program, sections 994 and 1025).
use Rattle.std.specs.Prelude.{ℕ, Bool, true, false, List, [], ◌∷◌, Option, Some, None, Result, Ok, Err, if◌then◌else◌}
use Rattle.tx_box.specs.declared.parts.Work.TheVariants.{ShipPage}
use Rattle.tx_command.specs.declared.types.Head.TheVariants.{Opening}
use Rattle.tx_galley.specs.declared.firing.Next.{Next}
use Rattle.tx_galley.specs.declared.firing.Next.TheVariants as next
use Rattle.tx_galley.specs.Exercising.{Exercised, exercising as exercising_pages}
use Rattle.tx_nest.specs.Around.{mode_around}
use Rattle.tx_nest.specs.declared.list.ModeList.{ModeList}
use Rattle.tx_pending.specs.Elements.{with_list}
use Rattle.tx_prim.specs.declared.modes.Mode.{Mode}
use Rattle.tx_prim.specs.declared.modes.Mode.TheVariants as mode
use Rattle.tx_seen.specs.declared.error.TexError.{TexError}
use Rattle.tx_shape.specs.declared.types.BoxContext.{BoxContext}
use Rattle.tx_shape.specs.declared.types.BoxContext.TheVariants.{Adjust, Append, Center, Lead, Register, Ship}
use Rattle.tx_shape.specs.declared.types.Opener.TheVariants.{Output}
use Rattle.tx_parts.specs.declared.parts.Due.TheVariants.{Boxes}
use Rattle.tx_state.specs.Outcomes.{Outcome, Asks, Leaves, Ships, Fails, Ends}
use Rattle.tx_state.specs.State.{TexState}

-- its box is shipped, and then the page builder goes on; or \output's tokens are read, marked at their end, whose begin-group token is
-- awaited
abbrev pub paging : Next → TexState → TexState
paging next.Goes s = s
paging (next.Ships b badness) s = record s { lists = record s.lists { badness = badness }; due = Boxes (ShipPage b) ∷ s.due }
paging (next.Reads tokens badness) s =
    record s { lists = record s.lists { badness = badness }; head = Opening Output; taken = []; reader = record s.reader { input = with_list s.reader.input tokens true } }

abbrev pub exercised : TexState → List ℕ → Result Exercised TexError → Outcome
exercised s said (Err error) = Fails error said
exercised s said (Ok x) = Leaves (paging x.next (record s { lists = record s.lists { nest = x.nest; pages = x.pages }; table = x.table })) said

abbrev pub exercising : TexState → List ℕ → Outcome
exercising s said = exercised s said (exercising_pages s.lists.nest s.table s.lists.pages)

-- where the pages' list is being built it is exercised behind what changes that
abbrev pub is_pages : Mode → Bool
is_pages mode.Vertical = true
is_pages _ = false

abbrev pub then_building : TexState → List ℕ → Outcome
then_building s said = if is_pages s.mode then exercising s said else Leaves s said

abbrev pub built : Outcome → Outcome
built (Leaves s said) = then_building s said
built (Asks ask s) = Asks ask s
built (Ships page s) = Ships page s
built (Fails error said) = Fails error said
built Ends = Ends

-- where a paragraph or a display is built in the pages' list, it is exercised behind the display's begin, and where the paragraph goes
-- on behind it (sections 1145 and 1200)
abbrev pub is_in_pages : Option Mode → Bool
is_in_pages None = false
is_in_pages (Some mode) = is_pages mode

abbrev pub is_within_pages : List ModeList → Bool
is_within_pages around = is_in_pages (mode_around around)

abbrev pub then_building_outside : TexState → List ℕ → Outcome
then_building_outside s said = if is_within_pages s.lists.nest.around then exercising s said else Leaves s said

abbrev pub built_outside : Outcome → Outcome
built_outside (Leaves s said) = then_building_outside s said
built_outside (Asks ask s) = Asks ask s
built_outside (Ships page s) = Ships page s
built_outside (Fails error said) = Fails error said
built_outside Ends = Ends

-- a box that is appended there does, unless it is void (section 1076)
abbrev pub built_in : BoxContext → Outcome → Outcome
built_in (Append shift) outcome = built outcome
built_in (Register n) outcome = outcome
built_in Ship outcome = outcome
built_in Adjust outcome = outcome
built_in Center outcome = outcome
built_in (Lead kind) outcome = outcome

abbrev pub built_if : Bool → BoxContext → Outcome → Outcome
built_if true context outcome = built_in context outcome
built_if false context outcome = outcome
