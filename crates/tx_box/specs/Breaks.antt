-- The texts of \discretionary (TeX: The Program, sections 1117 to 1121).
use Rattle.std.specs.Prelude.{nat_lt, Bool, true, false, ◌&&◌, List, [], ◌∷◌, length, Option, Some, None, Result, Ok, Err, if◌then◌else◌}
use Rattle.tx_eqtb.specs.declared.eqtb.Eqtb.{Eqtb}
use Rattle.tx_eqtb.specs.declared.groups.GroupKind.TheVariants.{Discretionary}
use Rattle.tx_eqtb.specs.Stack.{opened}
use Rattle.tx_nest.specs.declared.list.ModeList.{ModeList}
use Rattle.tx_nest.specs.declared.nest.Nest.{Nest}
use Rattle.tx_nest.specs.declared.state.ModeState.{ModeState}
use Rattle.tx_nest.specs.declared.state.ModeState.TheVariants.{Math, DisplayMath}
use Rattle.tx_nest.specs.Changed.{with_items, with_nodes}
use Rattle.tx_nest.specs.Grafs.{list_within}
use Rattle.tx_nest.specs.Lasts.{last_of, shortened}
use Rattle.tx_node.specs.declared.head.BreakHead.{BreakHead}
use Rattle.tx_node.specs.declared.plain.KernKind.{KernKind}
use Rattle.tx_node.specs.declared.plain.KernKind.TheVariants.{Accent, Implicit, Explicit, MathOn, MathOff}
use Rattle.tx_node.specs.declared.plain.Plain.{Plain}
use Rattle.tx_node.specs.declared.plain.Plain.TheVariants.{Kern, Glue, Penalty, Character}
use Rattle.tx_node.specs.declared.plain.Shared.{Shared}
use Rattle.tx_node.specs.declared.plain.Shared.TheVariants.{Rule, Leaders, Special, Ligature, Mark}
use Rattle.tx_node.specs.Items.{Item, Items, plain, shared, boxed, discretionary, adjustment, insertion, box_leaders, items_of}
use Rattle.tx_par.specs.LineLists.{empty_discretionary}
use Rattle.tx_prim.specs.declared.family.BreakText.{BreakText}
use Rattle.tx_prim.specs.declared.family.BreakText.TheVariants.{Before, Behind, Instead}
use Rattle.tx_prim.specs.declared.modes.Mode.TheVariants.{RestrictedHorizontal}
use Rattle.tx_seen.specs.declared.error.TexError.{TexError}
use Rattle.tx_seen.specs.declared.error.TexError.TheVariants.{BadFormula, ExtraGroupEnd, MissingBox, TooManyGroups}
use Rattle.tx_box.specs.declared.parts.Lists.{Lists}
use Rattle.tx_box.specs.Building.{left_list}
use Rattle.tx_box.specs.Effects.{Effect, leaves}

-- before its first text a discretionary stands in the list, with nothing in it
abbrev pub with_empty : BreakText → ModeList → ModeList
with_empty Before list = with_items list (empty_discretionary ∷ [])
with_empty Behind list = list
with_empty Instead list = list

-- each text is a list of its own in that list, which waits around it
abbrev pub within : ModeList → List ModeList → Nest
within list around = record { innermost = list_within RestrictedHorizontal list; around = list ∷ around }

abbrev pub with_open_text : BreakText → Lists → Lists
with_open_text text lists = record lists { nest = within (with_empty text lists.nest.innermost) lists.nest.around }

-- it begins in a group of its own, if fewer than 255 are open
abbrev pub breaking : BreakText → Lists → Eqtb → Effect
breaking text lists table =
    if nat_lt (length table.groups) 255
    then leaves (with_open_text text lists) (opened table (Discretionary text))
    else Err TooManyGroups

-- what may stand in a text: characters, ligatures, kerns, boxes and rules
abbrev pub kern_may_stand : KernKind → Bool
kern_may_stand Implicit = true
kern_may_stand Accent = true
kern_may_stand Explicit = true
kern_may_stand MathOn = false
kern_may_stand MathOff = false

abbrev pub may_stand : Plain → Bool
may_stand (Kern kind size) = kern_may_stand kind
may_stand (Glue g) = false
may_stand (Penalty n) = false
may_stand (Character c) = true

abbrev pub larger_may_stand : Shared → Bool
larger_may_stand (Rule r) = true
larger_may_stand (Leaders l) = false
larger_may_stand (Special text) = false
larger_may_stand (Ligature l) = true
larger_may_stand (Mark text) = false

abbrev pub is_of_text : Item → Bool
is_of_text (plain p) = may_stand p
is_of_text (shared s) = larger_may_stand s
is_of_text (boxed shift head inner) = true
is_of_text (discretionary head before behind) = false
is_of_text (adjustment inner) = false
is_of_text (insertion head inner) = false
is_of_text (box_leaders head repeated inner) = false

abbrev pub are_of_text : List Item → Bool
are_of_text [] = true
are_of_text (item ∷ rest) = is_of_text item && are_of_text rest

-- the text that stands there where no line ends has 255 items at most
abbrev pub fits : BreakText → List Item → Bool
fits Before list = true
fits Behind list = true
fits Instead list = nat_lt (length list) 256

-- in a formula nothing may stand there (section 1120)
abbrev pub is_filled : List Item → Bool
is_filled [] = false
is_filled (item ∷ rest) = true

abbrev pub is_illegal : BreakText → ModeState → List Item → Bool
is_illegal Instead Math list = is_filled list
is_illegal Instead DisplayMath list = is_filled list
is_illegal text around list = false

-- a discretionary with one text more; what stands where no line ends stands behind it, and it counts that
abbrev pub with_text : BreakText → BreakHead → Items → Items → List Item → Item
with_text Before head before behind list = discretionary head (items_of list) behind
with_text Behind head before behind list = discretionary head before (items_of list)
with_text Instead head before behind list = discretionary (record head { replaced = length list }) before behind

abbrev pub behind_it : BreakText → List Item → List Item
behind_it Before list = []
behind_it Behind list = []
behind_it Instead list = list

-- the text of the discretionary that stood at a list's end, which gets it and stands there again; None where another item stood
-- there, or none, which no command makes
abbrev pub texted_by : BreakText → List Item → ModeList → Option Item → Option ModeList
texted_by text items list (Some (discretionary head before behind)) =
    Some (with_items (with_items list (with_text text head before behind items ∷ [])) (behind_it text items))
texted_by text items list None = None
texted_by text items list (Some (plain p)) = None
texted_by text items list (Some (shared s)) = None
texted_by text items list (Some (boxed shift head inner)) = None
texted_by text items list (Some (adjustment inner)) = None
texted_by text items list (Some (insertion head inner)) = None
texted_by text items list (Some (box_leaders head repeated inner)) = None

abbrev pub texted : BreakText → List Item → ModeList → Option ModeList
texted text items list = texted_by text items (with_nodes list (shortened list.nodes)) (last_of list.nodes)

-- what a list became, if it could be put there
abbrev pub put_if : Bool → ModeList → Option ModeList
put_if put list = if put then Some list else None

-- what comes of a text in the list around
abbrev pub or_extra : Option ModeList → Result ModeList TexError
or_extra None = Err ExtraGroupEnd
or_extra (Some list) = Ok list

abbrev pub used : BreakText → List Item → ModeList → Result ModeList TexError
used text items list =
    if are_of_text items
    then (if is_illegal text list.state items then Err BadFormula else if fits text items then or_extra (texted text items list) else Err MissingBox)
    else Err MissingBox

abbrev pub told_of : Option TexError → ModeList → Result ModeList TexError
told_of None list = Ok list
told_of (Some error) list = Err error

-- a text ends, whose group has ended
abbrev pub with_around : Lists → List ModeList → Result ModeList TexError → Result Lists TexError
with_around lists around (Err error) = Err error
with_around lists around (Ok list) = Ok (record lists { nest = record { innermost = list; around = around } })

abbrev pub broken_in : BreakText → Lists → Option Nest → Result Lists TexError
broken_in text lists None = Err ExtraGroupEnd
broken_in text lists (Some left) = with_around lists left.around (used text lists.nest.innermost.nodes left.innermost)

abbrev pub broken : BreakText → Lists → Result Lists TexError
broken text lists = broken_in text lists (left_list lists.nest.innermost lists.nest.around)

abbrev pub told_lists : Option TexError → Lists → Result Lists TexError
told_lists None lists = Ok lists
told_lists (Some error) lists = Err error
