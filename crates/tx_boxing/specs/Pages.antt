-- The list of an \insert and that of \output begin, \vsplit, \end, and what is assigned to pages (TeX: The Program, sections 1025,
-- 1054, 1082, 1099, 1245 and 1246).
use Rattle.std.specs.Prelude.{ℕ, ℤ, Bool, true, false, [], is_some, Result, Ok, Err}
use Rattle.tx_box.specs.Inserts.{beginning_vertical}
use Rattle.tx_boxing.specs.Boxes.{settled, target_of}
use Rattle.tx_building.specs.Building.{built_if, exercising}
use Rattle.tx_building.specs.Carrying.{boxed, carried}
use Rattle.tx_command.specs.declared.types.Head.TheVariants.{Fresh}
use Rattle.tx_eqtb.specs.declared.groups.GroupKind.{GroupKind}
use Rattle.tx_eqtb.specs.Table.{box_at}
use Rattle.tx_galley.specs.Ending.{with_end}
use Rattle.tx_makeup.specs.Splitting.{splitting}
use Rattle.tx_output.specs.declared.pages.Pages.{Pages}
use Rattle.tx_seen.specs.declared.error.TexError.{TexError}
use Rattle.tx_seen.specs.declared.place.Place.TheVariants.{Box}
use Rattle.tx_shape.specs.declared.types.BoxContext.{BoxContext}
use Rattle.tx_state.specs.Ended.{assigned}
use Rattle.tx_state.specs.Outcomes.{Outcome, Ends, fails, leaves}
use Rattle.tx_state.specs.State.{TexState}

-- what is kept of pages changes
abbrev pub with_pages : TexState → Pages → TexState
with_pages s pages = record s { lists = record s.lists { pages = pages } }

-- the list of an \insert, or that of \output, begins behind its begin-group token
abbrev pub beginning_list : TexState → GroupKind → Outcome
beginning_list s group = carried (record s { head = Fresh }) (beginning_vertical group s.lists s.table)

-- \deadcycles (section 1246)
abbrev pub setting_dead_cycles : TexState → ℤ → Outcome
setting_dead_cycles s n = leaves (assigned (with_pages s (record s.lists.pages { dead_cycles = n })))

-- an assignment to a quantity of the page (section 1245)
abbrev pub paged_so : TexState → Result Pages TexError → Outcome
paged_so s (Err error) = fails error
paged_so s (Ok pages) = leaves (assigned (with_pages s pages))

-- what \vsplit splits off goes where it is to go
abbrev pub splitting_box : TexState → ℕ → ℤ → BoxContext → Outcome
splitting_box s n size context = boxed (settled context s) (splitting (target_of s context) n size s.lists s.table)

-- \vsplit, behind which the page builder is exercised unless the register is void (section 1082)
abbrev pub splitting_off : TexState → ℕ → ℤ → BoxContext → Outcome
splitting_off s n size context = built_if (is_some (box_at s.table.table (Box n))) context (splitting_box s n size context)

-- \end ends the run where nothing is left to be put out; else it is read again behind what fires a page (section 1054)
abbrev pub ending_run : TexState → Bool → Outcome
ending_run s true = Ends
ending_run s false = exercising (record s { lists = record s.lists { nest = with_end s.table.table s.lists.nest } }) []
