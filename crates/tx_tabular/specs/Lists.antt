-- The lists of alignments among those that are being built (TeX: The Program, sections 774, 775, 786 and 787).
use Rattle.std.specs.Prelude.{ℤ, Bool, true, false, List, ◌∷◌, drop, Option, None, Some}
use Rattle.tx_box.specs.declared.parts.Lists.{Lists}
use Rattle.tx_nest.specs.declared.list.ModeList.{ModeList}
use Rattle.tx_nest.specs.Changed.{with_depth}
use Rattle.tx_nest.specs.Grafs.{list_within}
use Rattle.tx_nest.specs.States.{prev_depth}
use Rattle.tx_node.specs.Items.{Item}
use Rattle.tx_prim.specs.declared.modes.Mode.TheVariants.{InternalVertical, RestrictedHorizontal}

-- the list of an alignment is an internal vertical one, whose \prevdepth is that of the list around (section 775)
abbrev pub from_depth : ModeList → Option ℤ → ModeList
from_depth list None = list
from_depth list (Some depth) = with_depth list depth

abbrev pub list_in : ModeList → ModeList
list_in around = from_depth (list_within InternalVertical around) (prev_depth around.state)

-- a list begins in the one that is being built, which waits around it
abbrev pub within : Lists → ModeList → Lists
within lists list = record lists { nest = record { innermost = list; around = lists.nest.innermost ∷ lists.nest.around } }

abbrev pub beginning : Lists → Lists
beginning lists = within lists (list_in lists.nest.innermost)

-- the list of an entry is a restricted horizontal one (sections 786 and 787)
abbrev pub entering : Lists → Lists
entering lists = within lists (list_within RestrictedHorizontal lists.nest.innermost)

-- what stands between rows, without the item that stands for the row before
abbrev pub between : Bool → List Item → List Item
between true items = drop 1 items
between false items = items
