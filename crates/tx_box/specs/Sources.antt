-- Boxes that were made before (TeX: The Program, sections 1079, 1080 and 1110).
use Rattle.std.specs.Prelude.{ℕ, Bool, true, false, List, Option, Some, None, Err, if◌then◌else◌}
use Rattle.tx_eqtb.specs.declared.entry.Entry.TheVariants.{Box as Boxed}
use Rattle.tx_eqtb.specs.declared.eqtb.Eqtb.{Eqtb}
use Rattle.tx_eqtb.specs.Stack.{replaced}
use Rattle.tx_eqtb.specs.Table.{box_at}
use Rattle.tx_nest.specs.Changed.{has_last, with_items, with_nodes}
use Rattle.tx_nest.specs.Lasts.{last_box, without_box}
use Rattle.tx_nest.specs.States.{mode_of}
use Rattle.tx_node.specs.declared.head.Direction.{Direction}
use Rattle.tx_node.specs.declared.head.Direction.TheVariants.{Horizontal, Vertical}
use Rattle.tx_node.specs.Items.{Item, PackedBox}
use Rattle.tx_prim.specs.declared.family.UnboxKind.{UnboxKind}
use Rattle.tx_prim.specs.declared.family.UnboxKind.TheVariants as unbox
use Rattle.tx_prim.specs.declared.modes.Mode.{Mode}
use Rattle.tx_prim.specs.declared.modes.Mode.TheVariants as mode
use Rattle.tx_seen.specs.declared.error.TexError.{TexError}
use Rattle.tx_seen.specs.declared.error.TexError.TheVariants.{MissingBox, NotAllowed}
use Rattle.tx_seen.specs.declared.place.Place.TheVariants.{Box}
use Rattle.tx_box.specs.declared.parts.Lists.{Lists}
use Rattle.tx_box.specs.declared.parts.Target.{Target}
use Rattle.tx_box.specs.declared.parts.Work.TheVariants.{Copy, CopyList}
use Rattle.tx_box.specs.Effects.{Effect, leaves, leaves_due}
use Rattle.tx_box.specs.Placing.{placed, with_list}

-- a register that is void from now on, at the level at which it was assigned
abbrev pub emptied : Eqtb → ℕ → Eqtb
emptied table n = replaced table (Box n) (Boxed None)

-- \box (section 1079)
abbrev pub using : Target → ℕ → Lists → Eqtb → Effect
using target n lists table = placed target lists (emptied table n) (box_at table.table (Box n))

-- \copy is due work, which costs the nodes of the copy, unless there is nothing to copy
abbrev pub copying_found : Target → Lists → Eqtb → Option PackedBox → Effect
copying_found target lists table None = placed target lists table None
copying_found target lists table (Some b) = leaves_due lists table (Copy b target)

abbrev pub copying : Target → ℕ → Lists → Eqtb → Effect
copying target n lists table = copying_found target lists table (box_at table.table (Box n))

-- \lastbox (section 1080)
abbrev pub without_last_box : Lists → Lists
without_last_box lists = with_list lists (with_nodes lists.nest.innermost (without_box lists.nest.innermost.nodes))

abbrev pub taking_last : Target → Lists → Eqtb → Effect
taking_last target lists table =
    if has_last lists.nest.innermost.state lists.nest.innermost.nodes
    then placed target (without_last_box lists) table (last_box lists.nest.innermost.nodes)
    else Err MissingBox

-- \unhbox and its kin take boxes of one direction, and the copying ones leave them where they are (section 1107)
abbrev pub direction_of : UnboxKind → Direction
direction_of unbox.Horizontal = Horizontal
direction_of unbox.HorizontalCopy = Horizontal
direction_of unbox.Vertical = Vertical
direction_of unbox.VerticalCopy = Vertical

abbrev pub keeps : UnboxKind → Bool
keeps unbox.Horizontal = false
keeps unbox.HorizontalCopy = true
keeps unbox.Vertical = false
keeps unbox.VerticalCopy = true

-- into a formula nothing is unboxed
abbrev pub is_same : Direction → Direction → Bool
is_same Horizontal Horizontal = true
is_same Horizontal Vertical = false
is_same Vertical Horizontal = false
is_same Vertical Vertical = true

abbrev pub takes_from : Mode → Direction → Direction → Bool
takes_from mode.Vertical wanted found = is_same wanted found
takes_from mode.InternalVertical wanted found = is_same wanted found
takes_from mode.Horizontal wanted found = is_same wanted found
takes_from mode.RestrictedHorizontal wanted found = is_same wanted found
takes_from mode.Math wanted found = false
takes_from mode.DisplayMath wanted found = false

-- a formula takes no list, whichever it is (section 1110)
abbrev pub refusal : Mode → TexError
refusal mode.Vertical = MissingBox
refusal mode.InternalVertical = MissingBox
refusal mode.Horizontal = MissingBox
refusal mode.RestrictedHorizontal = MissingBox
refusal mode.Math = NotAllowed
refusal mode.DisplayMath = NotAllowed

-- what was in the box stands at the end of the list, without leading, and \prevdepth and the space factor stay (section 1110); a
-- copy is due work
abbrev pub appended : Lists → List Item → Lists
appended lists items = with_list lists (with_items lists.nest.innermost items)

abbrev pub unboxed : UnboxKind → ℕ → Lists → Eqtb → List Item → Effect
unboxed kind n lists table items =
    if keeps kind then leaves_due lists table (CopyList items) else leaves (appended lists items) (emptied table n)

abbrev pub unboxing_found : UnboxKind → ℕ → Lists → Eqtb → Option PackedBox → Effect
unboxing_found kind n lists table None = leaves lists table
unboxing_found kind n lists table (Some b) =
    if takes_from (mode_of lists.nest.innermost.state) (direction_of kind) b.head.direction
    then unboxed kind n lists table b.list
    else Err (refusal (mode_of lists.nest.innermost.state))

abbrev pub unboxing : UnboxKind → ℕ → Lists → Eqtb → Effect
unboxing kind n lists table = unboxing_found kind n lists table (box_at table.table (Box n))
