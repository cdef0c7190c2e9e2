-- How a box begins and ends (TeX: The Program, sections 1083 to 1087).
use Rattle.std.specs.Prelude.{◌≡◌, ℕ, ℤ, pos, Bool, nat_lt, ◌&&◌, List, [], ◌∷◌, length, Option, Some, None, Result, Ok, Err, if◌then◌else◌}
use Rattle.tx_eqtb.specs.declared.entry.Entry.TheVariants.{Number, Shape}
use Rattle.tx_eqtb.specs.declared.eqtb.Eqtb.{Eqtb}
use Rattle.tx_eqtb.specs.declared.groups.GroupKind.{GroupKind}
use Rattle.tx_eqtb.specs.declared.groups.GroupKind.TheVariants as group
use Rattle.tx_eqtb.specs.declared.table.Table.{Table}
use Rattle.tx_eqtb.specs.Stack.{assigned, opened}
use Rattle.tx_eqtb.specs.Table.{number_at}
use Rattle.tx_nest.specs.declared.list.ModeList.{ModeList}
use Rattle.tx_nest.specs.declared.nest.Nest.{Nest}
use Rattle.tx_nest.specs.declared.state.ModeState.{ModeState}
use Rattle.tx_nest.specs.Grafs.{behind_list, list_within}
use Rattle.tx_nest.specs.States.{mode_of}
use Rattle.tx_node.specs.Items.{Item}
use Rattle.tx_pack.specs.declared.types.Goal.{Goal}
use Rattle.tx_pack.specs.declared.types.Goal.TheVariants as goals
use Rattle.tx_pack.specs.declared.types.Packed.{Packed}
use Rattle.tx_pack.specs.declared.types.PackError.{PackError}
use Rattle.tx_pack.specs.declared.types.PackError.TheVariants as pack
use Rattle.tx_pack.specs.declared.types.PackParams.{PackParams}
use Rattle.tx_pack.specs.Packing.{hpacked, vpacked}
use Rattle.tx_num.specs.Limits.{fits}
use Rattle.tx_pack.specs.Tops.{top_packed}
use Rattle.tx_par.specs.declared.line.Line.{Line}
use Rattle.tx_par.specs.LineLists.{line_of}
use Rattle.tx_prim.specs.declared.dimension.DimensionParameter.TheVariants.{Boxmaxdepth, Hangindent, Hfuzz, Overfullrule, Vfuzz}
use Rattle.tx_prim.specs.declared.family.BoxKind.{BoxKind}
use Rattle.tx_prim.specs.declared.family.BoxKind.TheVariants as kind
use Rattle.tx_prim.specs.declared.integer.IntegerParameter.TheVariants.{Hangafter, Hbadness, Looseness, Vbadness}
use Rattle.tx_prim.specs.declared.modes.Mode.{Mode}
use Rattle.tx_prim.specs.declared.modes.Mode.TheVariants as mode
use Rattle.tx_prim.specs.declared.modes.ModeTest.TheVariants as test
use Rattle.tx_prim.specs.Modes.{holds}
use Rattle.tx_prim.specs.declared.tokens.TokenParameter.{TokenParameter}
use Rattle.tx_prim.specs.declared.tokens.TokenParameter.TheVariants.{Everyhbox, Everyvbox}
use Rattle.tx_seen.specs.declared.error.TexError.{TexError}
use Rattle.tx_seen.specs.declared.error.TexError.TheVariants.{ExtraGroupEnd, SizeOutOfRange, TooDeep, TooManyGroups}
use Rattle.tx_seen.specs.declared.place.Place.TheVariants.{Dimension, Integer, ParShape}
use Rattle.tx_shape.specs.declared.types.BoxContext.{BoxContext}
use Rattle.tx_shape.specs.declared.types.BoxContext.TheVariants.{Adjust, Append, Center, Lead, Register, Ship}
use Rattle.tx_shape.specs.declared.types.BoxGoal.{BoxGoal}
use Rattle.tx_shape.specs.declared.types.BoxGoal.TheVariants.{Natural, Spread, To}
use Rattle.tx_box.specs.declared.parts.Lists.{Lists}
use Rattle.tx_box.specs.declared.parts.OpenBox.{OpenBox}
use Rattle.tx_box.specs.declared.parts.Target.{Target}
use Rattle.tx_box.specs.Effects.{Effect, leaves}
use Rattle.tx_box.specs.Placing.{placed}
use Rattle.tx_box.specs.Sources.{appended}

-- the mode of a box's list, its group, and the tokens that are read first in it (section 1083)
abbrev pub mode_in : BoxKind → Mode
mode_in kind.Horizontal = mode.RestrictedHorizontal
mode_in kind.Vertical = mode.InternalVertical
mode_in kind.Top = mode.InternalVertical

abbrev pub group_of : BoxKind → GroupKind
group_of kind.Horizontal = group.HorizontalBox
group_of kind.Vertical = group.VerticalBox
group_of kind.Top = group.TopBox

abbrev pub every_in : BoxKind → TokenParameter
every_in kind.Horizontal = Everyhbox
every_in kind.Vertical = Everyvbox
every_in kind.Top = Everyvbox

-- a paragraph's plain shape, until the group ends (section 1070)
abbrev pub plain_shape : Eqtb → Eqtb
plain_shape table =
    assigned (assigned (assigned (assigned table
    (Integer Looseness) (Number (pos 0)))
    (Dimension Hangindent) (Number (pos 0)))
    (Integer Hangafter) (Number (pos 1)))
    ParShape (Shape [])

-- in a vertical box a paragraph has it
abbrev pub shape_in : BoxKind → Eqtb → Eqtb
shape_in kind.Horizontal table = table
shape_in kind.Vertical table = plain_shape table
shape_in kind.Top table = plain_shape table

-- a list begins in the one that is being built, which waits around it
abbrev pub with_open : Lists → OpenBox → Lists
with_open lists box = record lists {
  nest = record { innermost = list_within (mode_in box.kind) lists.nest.innermost; around = lists.nest.innermost ∷ lists.nest.around };
  boxes = box ∷ lists.boxes;
}

-- a box begins, in a group of its own, if fewer than 255 are open
abbrev pub beginning : OpenBox → Lists → Eqtb → Effect
beginning box lists table =
    if nat_lt (length table.groups) 255
    then leaves (with_open lists box) (shape_in box.kind (opened table (group_of box.kind)))
    else Err TooManyGroups

-- what a list is packed to
abbrev pub goal_of : BoxGoal → Goal
goal_of Natural = goals.Natural
goal_of (To size) = goals.To size
goal_of (Spread more) = goals.Spread more

-- what bad boxes are, by the table around the box (sections 649 and 668)
abbrev pub across : Table → PackParams
across table = record {
  badness = number_at table (Integer Hbadness);
  fuzz = number_at table (Dimension Hfuzz);
  overfull_rule = number_at table (Dimension Overfullrule);
}

abbrev pub down : Table → PackParams
down table = record {
  badness = number_at table (Integer Vbadness);
  fuzz = number_at table (Dimension Vfuzz);
  overfull_rule = pos 0;
}

-- how deep a vertical box may be: \boxmaxdepth as it stands at the end of the box's group (section 1086)
abbrev pub greatest_depth : Table → ℤ
greatest_depth table = number_at table (Dimension Boxmaxdepth)

-- the list in a box; `most` is the greatest depth
abbrev pub packed_as : BoxKind → Goal → ℤ → Table → List Item → Result Packed PackError
packed_as kind.Horizontal goal most table list = hpacked list goal (across table)
packed_as kind.Vertical goal most table list = vpacked list goal most (down table)
packed_as kind.Top goal most table list = top_packed list goal most (down table)

-- all sizes are dimensions, whatever is assigned
abbrev pub size_in : Goal → ℤ
size_in goals.Natural = pos 0
size_in (goals.To size) = size
size_in (goals.Spread more) = more

abbrev pub packed_if : BoxKind → Goal → ℤ → Table → List Item → Result Packed PackError
packed_if kind goal most table list =
    if fits (size_in goal) && fits most && fits (number_at table (Dimension Overfullrule))
    then packed_as kind goal most table list
    else Err pack.SizeOutOfRange

-- a list that can't be packed; packing never ends by want of memory
abbrev pub pack_error : PackError → TexError
pack_error pack.SizeOutOfRange = SizeOutOfRange
pack_error pack.TooDeep = TooDeep
pack_error pack.OutOfMemory = SizeOutOfRange

-- what comes of a box's end, and what the transcript gets of the box, also where that can't go where it is to go
pub record Ended : Type 0 where
  pub effect : Effect
  pub report : List ℕ

abbrev pub reported : List ℕ → Effect → Ended
reported report effect = record { effect = effect; report = report }

-- the box goes where it is to go; \badness is how bad it is
abbrev pub boxing : Target → Lists → Eqtb → Result Packed PackError → Ended
boxing target lists table (Err error) = reported [] (Err (pack_error error))
boxing target lists table (Ok made) = reported made.report (placed target (record lists { badness = made.badness }) table (Some made.node))

-- what ends with a box: the innermost open one and the list that is being built, which leave the lists around
pub record Closed : Type 0 where
  pub box : OpenBox
  pub list : List Item
  pub left : Lists

-- a list ends, and the one around it goes on; None where none waits
abbrev pub left_list : ModeList → List ModeList → Option Nest
left_list ended [] = None
left_list ended (outer ∷ around) = Some (record { innermost = behind_list ended.state ended.prev_graf outer; around = around })

-- None where no box is open, or no list waits
abbrev pub closed_in : Lists → List OpenBox → Option Nest → Option Closed
closed_in lists [] left = None
closed_in lists (box ∷ boxes) None = None
closed_in lists (box ∷ boxes) (Some left) = Some (record {
  box = box;
  list = lists.nest.innermost.nodes;
  left = record lists { boxes = boxes; nest = left };
})

abbrev pub closed_list : Lists → Option Closed
closed_list lists = closed_in lists lists.boxes (left_list lists.nest.innermost lists.nest.around)

-- the same in code
abbrev pub IsClosed : Option Closed → Option (OpenBox × List Item) → Lists → Type 0
IsClosed None found left = found ≡ None
IsClosed (Some closed) found left = (found ≡ Some (closed.box, closed.list)) × (left ≡ closed.left)

-- an \hbox that is appended to a vertical list lets its marks, its insertions and the lists of its \vadjust out, which follow it
-- (sections 655, 1076 and 1083)
abbrev pub is_vertical : ModeState → Bool
is_vertical state = holds test.Vertical (mode_of state)

abbrev pub line_in : BoxKind → BoxContext → ModeState → List Item → Line
line_in kind.Horizontal (Append shift) state list = if is_vertical state then line_of list else record { own = list; behind = [] }
line_in box context state list = record { own = list; behind = [] }

abbrev pub behind_box : List Item → Effect → Effect
behind_box [] effect = effect
behind_box (item ∷ rest) (Err error) = Err error
behind_box (item ∷ rest) (Ok left) = Ok (record left { lists = appended left.lists (item ∷ rest) })

abbrev pub followed : List Item → Ended → Ended
followed items ended = reported ended.report (behind_box items ended.effect)

-- the lists of a \vadjust and of \vcenter may be as deep as a dimension is (sections 1100 and 1168)
abbrev pub most_in : BoxContext → ℤ → ℤ
most_in (Append shift) most = most
most_in (Register n) most = most
most_in Ship most = most
most_in Adjust most = pos 1073741823
most_in Center most = pos 1073741823
most_in (Lead kind) most = most

-- of what stands in the box it is made
abbrev pub boxing_line : OpenBox → ℤ → Lists → Eqtb → Line → Ended
boxing_line box most lists table line =
    followed line.behind
    (boxing box.target lists table (packed_if box.kind (goal_of box.goal) (most_in box.target.context most) table.table line.own))

-- a box ends, whose group has ended: this is the table around it
abbrev pub ending_of : ℤ → Eqtb → Option Closed → Ended
ending_of most table None = reported [] (Err ExtraGroupEnd)
ending_of most table (Some closed) =
    boxing_line closed.box most closed.left table
    (line_in closed.box.kind closed.box.target.context closed.left.nest.innermost.state closed.list)

abbrev pub ending : ℤ → Lists → Eqtb → Ended
ending most lists table = ending_of most table (closed_list lists)
