-- Vertical lists in groups of their own that become no box: those of \insert (TeX: The Program, sections 1099 and 1100), and that of
-- \output (section 1025).
use Rattle.std.specs.Prelude.{◌≡◌, ℕ, ℤ, pos, ◌+ℤ◌, ◌∷◌, [], nat_lt, length, List, Option, Some, None, Result, Ok, Err, if◌then◌else◌}
use Rattle.tx_eqtb.specs.declared.eqtb.Eqtb.{Eqtb}
use Rattle.tx_eqtb.specs.declared.groups.GroupKind.{GroupKind}
use Rattle.tx_eqtb.specs.Stack.{opened}
use Rattle.tx_eqtb.specs.declared.table.Table.{Table}
use Rattle.tx_eqtb.specs.Table.{glue_at, number_at}
use Rattle.tx_nest.specs.declared.nest.Nest.{Nest}
use Rattle.tx_nest.specs.Grafs.{list_within}
use Rattle.tx_node.specs.declared.head.BoxHead.{BoxHead}
use Rattle.tx_node.specs.declared.head.InsertHead.{InsertHead}
use Rattle.tx_node.specs.Items.{Item, items_of, insertion}
use Rattle.tx_num.specs.Limits.{fits}
use Rattle.tx_pack.specs.declared.types.PackError.{PackError}
use Rattle.tx_pack.specs.declared.types.Packed.{Packed}
use Rattle.tx_pack.specs.declared.types.Goal.TheVariants.{Natural}
use Rattle.tx_pack.specs.Packing.{vpacked}
use Rattle.tx_prim.specs.declared.dimension.DimensionParameter.TheVariants.{Splitmaxdepth}
use Rattle.tx_prim.specs.declared.glue.GlueParameter.TheVariants.{Splittopskip}
use Rattle.tx_prim.specs.declared.integer.IntegerParameter.TheVariants.{Floatingpenalty}
use Rattle.tx_prim.specs.declared.modes.Mode.TheVariants.{InternalVertical}
use Rattle.tx_seen.specs.declared.error.TexError.TheVariants.{ExtraGroupEnd, SizeOutOfRange, TooManyGroups}
use Rattle.tx_seen.specs.declared.place.Place.TheVariants.{Dimension, Glue, Integer}
use Rattle.tx_box.specs.declared.inserts.InsertParams.{InsertParams}
use Rattle.tx_box.specs.declared.parts.Lists.{Lists}
use Rattle.tx_box.specs.Building.{down, left_list, pack_error, plain_shape}
use Rattle.tx_box.specs.Effects.{Effect, leaves}
use Rattle.tx_box.specs.Sources.{appended}

-- such a list begins in the one that is being built, which waits around it, in a group of this kind, if fewer than 255 are open
abbrev pub with_vertical : Lists → Lists
with_vertical lists = record lists {
  nest = record { innermost = list_within InternalVertical lists.nest.innermost; around = lists.nest.innermost ∷ lists.nest.around };
}

abbrev pub beginning_vertical : GroupKind → Lists → Eqtb → Effect
beginning_vertical group lists table =
    if nat_lt (length table.groups) 255
    then leaves (with_vertical lists) (plain_shape (opened table group))
    else Err TooManyGroups

-- it leaves the lists when it ends: the items, and the lists around; None where none waits, which no command makes
pub record VerticalLeft : Type 0 where
  pub items : List Item
  pub lists : Lists

abbrev pub left_by : Lists → Option Nest → Option VerticalLeft
left_by lists None = None
left_by lists (Some nest) = Some (record { items = lists.nest.innermost.nodes; lists = record lists { nest = nest } })

abbrev pub left_vertical : Lists → Option VerticalLeft
left_vertical lists = left_by lists (left_list lists.nest.innermost lists.nest.around)

-- the same in code
abbrev pub IsLeft : Option VerticalLeft → Option (List Item) → Lists → Type 0
IsLeft None found lists = found ≡ None
IsLeft (Some left) found lists = (found ≡ Some left.items) × (lists ≡ left.lists)

-- what an insertion takes from the table inside its group
abbrev pub insert_params : Table → InsertParams
insert_params table = record {
  split_top_skip = glue_at table (Glue Splittopskip);
  split_max_depth = number_at table (Dimension Splitmaxdepth);
  floating_penalty = number_at table (Integer Floatingpenalty);
}

abbrev pub insert_head : ℕ → InsertParams → ℤ → InsertHead
insert_head class params size = record {
  class = class;
  size = size;
  split_top_skip = params.split_top_skip;
  split_max_depth = params.split_max_depth;
  floating_penalty = params.floating_penalty;
}

-- the insertion, which is as high and as deep as its list, and \badness
abbrev pub whole_size : BoxHead → ℤ
whole_size head = head.height +ℤ head.depth

abbrev pub inserting_sized : ℕ → InsertParams → Lists → Eqtb → List Item → ℤ → Effect
inserting_sized class params lists table list size =
    if fits size then leaves (appended lists (insertion (insert_head class params size) (items_of list) ∷ [])) table else Err SizeOutOfRange

abbrev pub inserting : ℕ → InsertParams → Lists → Eqtb → Packed → Effect
inserting class params lists table made =
    inserting_sized class params (record lists { badness = made.badness }) table made.node.list (whole_size made.node.head)

abbrev pub inserting_if : ℕ → InsertParams → Lists → Eqtb → Result Packed PackError → Effect
inserting_if class params lists table (Err error) = Err (pack_error error)
inserting_if class params lists table (Ok made) = inserting class params lists table made

abbrev pub inserting_list : ℕ → InsertParams → Lists → Eqtb → List Item → Effect
inserting_list class params lists table list =
    inserting_if class params lists table (vpacked list Natural (pos 1073741823) (down table.table))

-- the list of an \insert ends; this is the table around its group
abbrev pub ending_in : ℕ → InsertParams → Eqtb → Option VerticalLeft → Effect
ending_in class params table None = Err ExtraGroupEnd
ending_in class params table (Some left) = inserting_list class params left.lists table left.items

abbrev pub ending_insert : ℕ → InsertParams → Lists → Eqtb → Effect
ending_insert class params lists table = ending_in class params table (left_vertical lists)
