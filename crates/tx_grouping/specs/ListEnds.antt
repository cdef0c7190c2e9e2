-- The lists of groups end: those of boxes, of an \insert, of \output, and the texts of \discretionary (TeX: The Program, sections 1026,
-- 1086, 1100 and 1119).
use Rattle.std.specs.Prelude.{ℕ, List, [], ◌∷◌, Option, Some, None, Result, Ok, Err}
use Rattle.tx_box.specs.Breaks.{broken}
use Rattle.tx_box.specs.Building.{ending as ending_list, greatest_depth}
use Rattle.tx_box.specs.declared.parts.Lists.{Lists}
use Rattle.tx_box.specs.declared.parts.OpenBox.{OpenBox}
use Rattle.tx_box.specs.Inserts.{VerticalLeft, ending_insert as insert_ended, insert_params, left_vertical}
use Rattle.tx_building.specs.Building.{built, built_in, exercised}
use Rattle.tx_building.specs.Carrying.{boxed, carried, carrying}
use Rattle.tx_command.specs.declared.types.Head.{Head}
use Rattle.tx_command.specs.declared.types.Head.TheVariants.{Fresh, Opening}
use Rattle.tx_eqtb.specs.Stack.{closed}
use Rattle.tx_galley.specs.Ending.{ending_output as output_ended}
use Rattle.tx_prim.specs.declared.family.BreakText.{BreakText}
use Rattle.tx_prim.specs.declared.family.BreakText.TheVariants as break
use Rattle.tx_seen.specs.declared.error.TexError.{TexError}
use Rattle.tx_seen.specs.declared.error.TexError.TheVariants.{ExtraGroupEnd}
use Rattle.tx_shape.specs.declared.types.BoxContext.{BoxContext}
use Rattle.tx_shape.specs.declared.types.BoxContext.TheVariants.{Ship}
use Rattle.tx_shape.specs.declared.types.Opener.TheVariants as opener
use Rattle.tx_state.specs.Groups.{closing}
use Rattle.tx_state.specs.Outcomes.{Outcome, fails, leaves}
use Rattle.tx_state.specs.State.{TexState}

-- what is to become of the innermost open box
abbrev pub context_of : List OpenBox → BoxContext
context_of [] = Ship
context_of (box ∷ boxes) = box.target.context

-- the end of a box (section 1086): how deep it may be is read before its group ends
abbrev pub packing_box : TexState → Outcome
packing_box s = boxed (closing s) (ending_list (greatest_depth s.table.table) s.lists (closed s.table))

abbrev pub ending_box : TexState → Outcome
ending_box s = built_in (context_of s.lists.boxes) (packing_box s)

-- the list of an \insert ends (section 1100); what the insertion takes from the table is read before its group ends
abbrev pub packing_insert : TexState → ℕ → Outcome
packing_insert s class = carried (closing s) (insert_ended class (insert_params s.table.table) s.lists (closed s.table))

abbrev pub ending_insert : TexState → ℕ → Outcome
ending_insert s class = built (packing_insert s class)

-- the group of \output ends, and its list leaves the lists (section 1026)
abbrev pub ending_output_in : TexState → Option VerticalLeft → Outcome
ending_output_in s None = fails ExtraGroupEnd
ending_output_in s (Some left) =
    exercised (carrying s (record { lists = left.lists; table = s.table; due = None; leads = None })) []
    (output_ended left.items left.lists.nest s.table left.lists.pages)

abbrev pub ending_output : TexState → Outcome
ending_output s = ending_output_in (closing s) (left_vertical s.lists)

-- the end of a text of \discretionary, behind which the next one is to follow (section 1119)
abbrev pub head_behind : BreakText → Head
head_behind break.Before = Opening (opener.Break break.Behind)
head_behind break.Behind = Opening (opener.Break break.Instead)
head_behind break.Instead = Fresh

abbrev pub broken_off : TexState → BreakText → Result Lists TexError → Outcome
broken_off s text (Err error) = fails error
broken_off s text (Ok lists) =
    leaves (record (carrying s (record { lists = lists; table = s.table; due = None; leads = None })) { head = head_behind text })

abbrev pub ending_break : TexState → BreakText → Outcome
ending_break s text = broken_off (closing s) text (broken text s.lists)
