-- What a list asks of the box that it is packed in: sums over its items (TeX: The Program, sections 649 to 656 and 668 to 671).
use Rattle.std.specs.Prelude.{Bool, ◌&&◌, ℤ, pos, ◌+ℤ◌, ◌-ℤ◌, List, fold, Option, Some, None, if◌then◌else◌}
use Rattle.std.specs.Int.{int_max}
use Rattle.std.specs.Option.{option_and_then}
use Rattle.tx_num.specs.Glue.{GlueSpec, IsDimension}
use Rattle.tx_num.specs.Limits.{fits}
use Rattle.tx_node.specs.declared.character.Character.{Character as CharacterItem}
use Rattle.tx_node.specs.declared.head.Change.{Change}
use Rattle.tx_node.specs.declared.head.Change.TheVariants.{Stretch, Shrink}
use Rattle.tx_node.specs.declared.head.Direction.{Direction}
use Rattle.tx_node.specs.declared.head.Direction.TheVariants.{Horizontal, Vertical}
use Rattle.tx_node.specs.declared.plain.Plain.{Plain}
use Rattle.tx_node.specs.declared.plain.Plain.TheVariants.{Kern, Glue, Penalty, Character}
use Rattle.tx_node.specs.declared.plain.Shared.{Shared}
use Rattle.tx_node.specs.declared.plain.Shared.TheVariants.{Rule, Leaders, Special, Ligature, Mark}
use Rattle.tx_node.specs.declared.rule.Rule.{Rule as RuleSides}
use Rattle.tx_node.specs.Items.{Item, plain, shared, boxed, discretionary, adjustment, insertion, box_leaders}
use Rattle.tx_node.specs.Sizes.{side, advance, glue_of_item}
use Rattle.tx_node.specs.Setting.{glue_part}
use Rattle.tx_pack.specs.declared.sums.Orders.{Orders}
use Rattle.tx_pack.specs.declared.sums.Sums.{Sums}

-- the sides that an item without a list shows: those of a rule, also of the one that leaders show, of a character and of that of a
-- ligature; all else shows none
abbrev pub no_sides : RuleSides
no_sides = record { width = None; height = None; depth = None }

abbrev pub character_sides : CharacterItem → RuleSides
character_sides c = record { width = Some c.width; height = Some c.height; depth = Some c.depth }

abbrev pub plain_sides : Plain → RuleSides
plain_sides (Kern kind size) = no_sides
plain_sides (Glue g) = no_sides
plain_sides (Penalty n) = no_sides
plain_sides (Character c) = character_sides c

abbrev pub shared_sides : Shared → RuleSides
shared_sides (Rule r) = r
shared_sides (Leaders l) = l.rule
shared_sides (Special text) = no_sides
shared_sides (Ligature l) = character_sides l.character
shared_sides (Mark text) = no_sides

-- the height and the depth that an item asks of a horizontal list's box; a box that is shifted down asks for less height and
-- more depth; what has a list and is no box asks for nothing (section 651: the no-break text of a discretionary stands behind it)
abbrev pub height_asked : Item → ℤ
height_asked (plain p) = side (plain_sides p).height
height_asked (shared s) = side (shared_sides s).height
height_asked (boxed shift head inner) = head.height -ℤ shift
height_asked (discretionary replaced pre post) = pos 0
height_asked (adjustment inner) = pos 0
height_asked (insertion inserted inner) = pos 0
height_asked (box_leaders head repeated inner) = repeated.height

abbrev pub depth_asked : Item → ℤ
depth_asked (plain p) = side (plain_sides p).depth
depth_asked (shared s) = side (shared_sides s).depth
depth_asked (boxed shift head inner) = head.depth +ℤ shift
depth_asked (discretionary replaced pre post) = pos 0
depth_asked (adjustment inner) = pos 0
depth_asked (insertion inserted inner) = pos 0
depth_asked (box_leaders head repeated inner) = repeated.depth

-- the width that an item asks of a vertical list's box
abbrev pub width_asked : Item → ℤ
width_asked (plain p) = side (plain_sides p).width
width_asked (shared s) = side (shared_sides s).width
width_asked (boxed shift head inner) = head.width +ℤ shift
width_asked (discretionary replaced pre post) = pos 0
width_asked (adjustment inner) = pos 0
width_asked (insertion inserted inner) = pos 0
width_asked (box_leaders head repeated inner) = repeated.width

-- the depth of a vertical list whose last item this is, where it was so deep before: that of a box, rule or character; none behind glue
-- and kerns; penalties, specials, marks, and what has a list and is no box change nothing
abbrev pub plain_left : ℤ → Plain → ℤ
plain_left depth (Kern kind size) = pos 0
plain_left depth (Glue g) = pos 0
plain_left depth (Penalty n) = depth
plain_left depth (Character c) = c.depth

abbrev pub shared_left : ℤ → Shared → ℤ
shared_left depth (Rule r) = side r.depth
shared_left depth (Leaders l) = pos 0
shared_left depth (Special text) = depth
shared_left depth (Ligature l) = l.character.depth
shared_left depth (Mark text) = depth

abbrev pub depth_left : ℤ → Item → ℤ
depth_left depth (plain p) = plain_left depth p
depth_left depth (shared s) = shared_left depth s
depth_left depth (boxed shift head inner) = head.depth
depth_left depth (discretionary replaced pre post) = depth
depth_left depth (adjustment inner) = depth
depth_left depth (insertion inserted inner) = depth
depth_left depth (box_leaders head repeated inner) = pos 0

-- stretch or shrink by order, with that of more glue
abbrev pub with_glue : Change → Option GlueSpec → Orders → Orders
with_glue change None orders = orders
with_glue change (Some g) orders = record {
  normal = orders.normal +ℤ glue_part change 0 g;
  fil = orders.fil +ℤ glue_part change 1 g;
  fill = orders.fill +ℤ glue_part change 2 g;
  filll = orders.filll +ℤ glue_part change 3 g;
}

-- the sums of a horizontal list with one more item: widths add up, the greatest height and depth count
abbrev pub beside : Sums → Item → Sums
beside sums item = record {
  width = sums.width +ℤ advance Horizontal item;
  height = int_max sums.height (height_asked item);
  depth = int_max sums.depth (depth_asked item);
  stretch = with_glue Stretch (glue_of_item item) sums.stretch;
  shrink = with_glue Shrink (glue_of_item item) sums.shrink;
}

-- the height of a vertical list with one more item, in which all depths are but the last
abbrev pub height_below : Sums → Item → ℤ
height_below sums item = sums.height +ℤ sums.depth +ℤ advance Vertical item -ℤ depth_left sums.depth item

-- the sums of a vertical list with one more item: heights and depths add up, but the last depth, which stands by itself
abbrev pub below : Sums → Item → Sums
below sums item = record {
  width = int_max sums.width (width_asked item);
  height = height_below sums item;
  depth = depth_left sums.depth item;
  stretch = with_glue Stretch (glue_of_item item) sums.stretch;
  shrink = with_glue Shrink (glue_of_item item) sums.shrink;
}

abbrev pub joined : Direction → Sums → Item → Sums
joined Horizontal sums item = beside sums item
joined Vertical sums item = below sums item

abbrev pub no_orders : Orders
no_orders = record { normal = pos 0; fil = pos 0; fill = pos 0; filll = pos 0 }

-- the sums of the empty list
abbrev pub nothing : Sums
nothing = record { width = pos 0; height = pos 0; depth = pos 0; stretch = no_orders; shrink = no_orders }

-- what an item asks across its list are dimensions, and so are all sums
abbrev pub asked_fit : Direction → Item → Bool
asked_fit Horizontal item = fits (height_asked item) && fits (depth_asked item)
asked_fit Vertical item = fits (width_asked item)

abbrev pub orders_fit : Orders → Bool
orders_fit orders = (fits orders.normal && fits orders.fil) && (fits orders.fill && fits orders.filll)

abbrev pub sizes_fit : Sums → Bool
sizes_fit sums = (fits sums.width && fits sums.height) && fits sums.depth

abbrev pub all_fit : Sums → Bool
all_fit sums = sizes_fit sums && (orders_fit sums.stretch && orders_fit sums.shrink)

-- the sums with one more item, None where one of them is no dimension
abbrev pub joined_if_fit : Direction → Sums → Item → Option Sums
joined_if_fit direction sums item = if asked_fit direction item && all_fit (joined direction sums item) then Some (joined direction sums item) else None

-- the sums of a list, None where one of them is no dimension behind some item
abbrev pub with_item : Direction → Option Sums → Item → Option Sums
with_item direction sums item = option_and_then (λ s. joined_if_fit direction s item) sums

abbrev pub sums_of : Direction → List Item → Option Sums
sums_of direction list = fold (with_item direction) (Some nothing) list

-- sums that are dimensions
pub record AreSmall (orders : Orders) : Type 0 where
  pub normal : IsDimension orders.normal
  pub fil : IsDimension orders.fil
  pub fill : IsDimension orders.fill
  pub filll : IsDimension orders.filll

pub record IsSmall (sums : Sums) : Type 0 where
  pub width : IsDimension sums.width
  pub height : IsDimension sums.height
  pub depth : IsDimension sums.depth
  pub stretch : AreSmall sums.stretch
  pub shrink : AreSmall sums.shrink
