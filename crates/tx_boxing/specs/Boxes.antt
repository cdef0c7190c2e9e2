-- What the commands of boxes and lists do (TeX: The Program, part 47).
use Rattle.std.specs.Prelude.{ℕ, ℤ, Bool, true, false, ◌&&◌, Option, Some, None, is_some, if◌then◌else◌}
use Rattle.tx_assign.specs.Changes.{is_global as globally}
use Rattle.tx_box.specs.Building.{beginning, every_in}
use Rattle.tx_box.specs.declared.parts.Lists.{Lists}
use Rattle.tx_box.specs.declared.parts.Target.{Target}
use Rattle.tx_box.specs.Sources.{copying, taking_last, unboxing, using}
use Rattle.tx_building.specs.Building.{built_if}
use Rattle.tx_building.specs.Carrying.{carried}
use Rattle.tx_command.specs.Commands.{prefixes_of}
use Rattle.tx_eqtb.specs.Table.{box_at, tokens_at}
use Rattle.tx_expand.specs.Turns.{put}
use Rattle.tx_nest.specs.Appended.{rule_appended}
use Rattle.tx_nest.specs.Changed as list
use Rattle.tx_nest.specs.declared.list.ModeList.{ModeList}
use Rattle.tx_nest.specs.Lasts.{last_box}
use Rattle.tx_node.specs.declared.rule.Rule.{Rule as ARule}
use Rattle.tx_output.specs.declared.last.LastItem.{LastItem}
use Rattle.tx_output.specs.declared.last.LastItem.TheVariants as last
use Rattle.tx_prim.specs.declared.family.BoxKind.{BoxKind}
use Rattle.tx_prim.specs.declared.family.ItemKind.{ItemKind}
use Rattle.tx_prim.specs.declared.family.ItemKind.TheVariants as item
use Rattle.tx_prim.specs.declared.family.UnboxKind.{UnboxKind}
use Rattle.tx_prim.specs.declared.integer.IntegerParameter.TheVariants.{Globaldefs}
use Rattle.tx_seen.specs.declared.error.TexError.TheVariants.{MissingBox}
use Rattle.tx_seen.specs.declared.place.Place.TheVariants.{Box, Tokens}
use Rattle.tx_shape.specs.declared.types.BoxContext.{BoxContext}
use Rattle.tx_shape.specs.declared.types.BoxContext.TheVariants.{Adjust, Append, Center, Lead, Register, Ship}
use Rattle.tx_shape.specs.declared.types.BoxGoal.{BoxGoal}
use Rattle.tx_state.specs.Ended.{assigned, integer, with_top_list}
use Rattle.tx_state.specs.Outcomes.{Outcome, fails, leaves}
use Rattle.tx_state.specs.State.{TexState}

-- a rule
abbrev pub ruling : TexState → ARule → Outcome
ruling s rule = leaves (with_top_list s (rule_appended s.lists.nest.innermost rule))

-- \unpenalty, \unkern and \unskip
abbrev pub removed : TexState → Option ModeList → Outcome
removed s None = fails MissingBox
removed s (Some new) = leaves (with_top_list s new)

-- on the pages' list with no contribution left \unskip is refused too where glue went to the page last (section 1106)
abbrev pub is_glue_of_page : LastItem → Bool
is_glue_of_page (last.Skip g) = true
is_glue_of_page _ = false

abbrev pub takes_of_page : ItemKind → Lists → Bool
takes_of_page item.Skip lists = list.is_bare_page lists.nest.innermost.state lists.nest.innermost.nodes && is_glue_of_page lists.pages.last
takes_of_page kind lists = false

abbrev pub removing : TexState → ItemKind → Outcome
removing s kind = if takes_of_page kind s.lists then fails MissingBox else removed s (list.removing kind s.lists.nest.innermost)

-- \prevdepth, which may stand in vertical modes alone (section 1243)
abbrev pub setting_depth : TexState → ℤ → Outcome
setting_depth s depth = leaves (assigned (with_top_list s (list.with_depth s.lists.nest.innermost depth)))

-- what becomes of a box (section 1075): where it goes, and whether \global or \globaldefs is in force, which \setbox alone asks
abbrev pub target_of : TexState → BoxContext → Target
target_of s context = record { context = context; global = globally (integer s.table.table Globaldefs) (prefixes_of s.head).global }

-- \setbox is an assignment that is done as soon as its box begins or is found (sections 1241 and 1269)
abbrev pub settled : BoxContext → TexState → TexState
settled (Append shift) s = s
settled (Register n) s = assigned s
settled Ship s = s
settled Adjust s = s
settled Center s = s
settled (Lead kind) s = s

-- what \everyhbox or \everyvbox has is read in a box, behind what \afterassignment keeps for \setbox (section 1083)
abbrev pub with_every : BoxKind → TexState → TexState
with_every box s = record s { reader = put (tokens_at s.table.table (Tokens (every_in box))) s.reader }

-- but not in a \vadjust (section 1099)
abbrev pub with_every_in : BoxContext → BoxKind → TexState → TexState
with_every_in (Append shift) box s = with_every box s
with_every_in (Register n) box s = with_every box s
with_every_in Ship box s = with_every box s
with_every_in Adjust box s = s
with_every_in Center box s = with_every box s
with_every_in (Lead kind) box s = with_every box s

-- a box that was made before goes where it is to go
abbrev pub moving_box : TexState → ℕ → BoxContext → Outcome
moving_box s n context = carried (settled context s) (using (target_of s context) n s.lists s.table)

abbrev pub moving_last : TexState → BoxContext → Outcome
moving_last s context = carried (settled context s) (taking_last (target_of s context) s.lists s.table)

-- a box begins, in which \everyhbox's or \everyvbox's tokens are read first (section 1083)
abbrev pub opening_box : TexState → BoxKind → BoxGoal → BoxContext → Outcome
opening_box s box goal context =
    carried (settled context (with_every_in context box s)) (beginning (record { kind = box; goal = goal; target = target_of s context }) s.lists s.table)

-- \box, behind which the page builder is exercised unless the register is void; \copy (section 1079)
abbrev pub using_box : TexState → ℕ → BoxContext → Outcome
using_box s n context = built_if (is_some (box_at s.table.table (Box n))) context (moving_box s n context)

abbrev pub copying_box : TexState → ℕ → BoxContext → Outcome
copying_box s n context = carried (settled context s) (copying (target_of s context) n s.lists s.table)

-- \lastbox, behind which it is exercised if there is one (section 1080)
abbrev pub taking_box : TexState → BoxContext → Outcome
taking_box s context = built_if (is_some (last_box s.lists.nest.innermost.nodes)) context (moving_last s context)

-- \unhbox and its kin (section 1110)
abbrev pub unboxing_so : TexState → UnboxKind → ℕ → Outcome
unboxing_so s kind n = carried s (unboxing kind n s.lists s.table)
