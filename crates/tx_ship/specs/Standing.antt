-- Where the items of a box stand on a page (TeX: The Program, sections 619 to 637).
use Rattle.std.specs.Prelude.{ℤ, pos, ◌+ℤ◌, ◌-ℤ◌}
use Rattle.std.specs.Option.{unwrap_or}
use Rattle.tx_node.specs.declared.character.Character.{Character as CharacterItem}
use Rattle.tx_node.specs.declared.head.BoxHead.{BoxHead}
use Rattle.tx_node.specs.declared.head.Direction.{Direction}
use Rattle.tx_node.specs.declared.head.Direction.TheVariants.{Horizontal, Vertical}
use Rattle.tx_node.specs.declared.places.Copies.{Copies}
use Rattle.tx_node.specs.declared.plain.LeadersKind.{LeadersKind}
use Rattle.tx_node.specs.declared.rule.Rule.{Rule as RuleSides}
use Rattle.tx_node.specs.Items.{Item, PackedBox}
use Rattle.tx_node.specs.Sizes.{box_advance, side}
use Rattle.tx_node.specs.Copies.{copies_of}
use Rattle.tx_node.specs.Setting.{Reach, behind, stands}
use Rattle.tx_ship.specs.declared.places.Point.{Point}
use Rattle.tx_ship.specs.declared.places.Frame.{Frame}
use Rattle.tx_ship.specs.declared.places.Span.{Span}
use Rattle.tx_ship.specs.declared.places.Stand.{Stand}
use Rattle.tx_ship.specs.declared.places.Sides.{Sides}

-- where the list of a box begins: at its left edge, or at its upper one
abbrev pub start_of : Direction → Frame → ℤ
start_of Horizontal frame = frame.at.h
start_of Vertical frame = frame.at.v -ℤ frame.head.height

-- where an item stands behind so much of the list, once its glue is set
abbrev pub place : Frame → Reach → ℤ
place frame reach = start_of frame.head.direction frame +ℤ stands frame.head.setting reach

-- how far the list has come behind an item
abbrev pub next : Frame → Reach → Item → Reach
next frame reach item = behind frame.head.direction frame.head.setting reach item

-- from where to where an item reaches
abbrev pub span_of : Frame → Reach → Item → Span
span_of frame reach item = record { from = place frame reach; to = place frame (next frame reach item) }

-- how long that is
abbrev pub size_of : Span → ℤ
size_of span = span.to -ℤ span.from

-- the reference point of an item: in a horizontal list on the baseline of the box, or so far below it; in a vertical one at
-- the left edge, or so far to the right of it, and as far below the item's beginning as it is high
abbrev pub reference : Direction → Frame → Stand → Point
reference Horizontal frame s = record { h = s.from; v = frame.at.v +ℤ s.shift }
reference Vertical frame s = record { h = frame.at.h +ℤ s.shift; v = s.from +ℤ s.height }

-- an item that begins there, is so high and isn't shifted
abbrev pub upright : ℤ → ℤ → Stand
upright from height = record { from = from; shift = pos 0; height = height }

-- a box that begins there and is shifted
abbrev pub shifted : ℤ → ℤ → BoxHead → Stand
shifted from shift head = record { from = from; shift = shift; height = head.height }

-- the sides of a rule: across the list a side that runs goes as far as the box
abbrev pub rule_sides : Direction → BoxHead → RuleSides → Sides
rule_sides Horizontal head r = record { width = side r.width; height = unwrap_or r.height head.height; depth = unwrap_or r.depth head.depth }
rule_sides Vertical head r = record { width = unwrap_or r.width head.width; height = side r.height; depth = side r.depth }

-- those of a rule that fills leaders of this size: along the list it is as long as they are
abbrev pub leaders_sides : Direction → BoxHead → RuleSides → ℤ → Sides
leaders_sides Horizontal head r size = record { width = size; height = unwrap_or r.height head.height; depth = unwrap_or r.depth head.depth }
leaders_sides Vertical head r size = record { width = unwrap_or r.width head.width; height = size; depth = pos 0 }

-- the copies that leaders from here to there make of a box, whose whole multiples are counted from where the list around begins; and
-- where the first of them begins
abbrev pub copies_from : Frame → Span → LeadersKind → BoxHead → Copies
copies_from frame span kind repeated =
    copies_of kind (span.from -ℤ start_of frame.head.direction frame) (size_of span) (box_advance frame.head.direction repeated)

abbrev pub first_copy : Span → Copies → ℤ
first_copy span copies = span.from +ℤ pos copies.before

-- the reference point of a copy that begins there
abbrev pub copy_at : Frame → BoxHead → ℤ → Point
copy_at frame repeated from = reference frame.head.direction frame (shifted from (pos 0) repeated)

-- those of a character
abbrev pub character_sides : CharacterItem → Sides
character_sides c = record { width = c.width; height = c.height; depth = c.depth }

-- those of a box
abbrev pub box_sides : BoxHead → Sides
box_sides head = record { width = head.width; height = head.height; depth = head.depth }

-- a box with its reference point there
abbrev pub frame_at : BoxHead → Point → Frame
frame_at head at = record { head = head; at = at }

-- the box of a page, which stands with its left upper corner at the two offsets
abbrev pub page_frame : PackedBox → ℤ → ℤ → Frame
page_frame b hoffset voffset = frame_at b.head (record { h = hoffset; v = voffset +ℤ b.head.height })
