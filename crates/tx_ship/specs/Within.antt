-- What lies on a page: nothing does past 2^30-1 sp.
use Rattle.std.specs.Prelude.{◌≡◌, ◌≢◌, Bool, true, false, not, ◌&&◌, ◌||◌, ℕ, zero, suc, nat_le, ◌^◌, ℤ, pos, ◌+ℤ◌, ◌-ℤ◌, unsigned_abs, ◌≤◌, if◌then◌else◌}
use Rattle.std.specs.Int.{is_positive}
use Rattle.tx_node.specs.declared.character.Character.{Character as CharacterItem}
use Rattle.tx_node.specs.declared.head.BoxHead.{BoxHead}
use Rattle.tx_node.specs.declared.places.Copies.{Copies}
use Rattle.tx_node.specs.declared.plain.Plain.{Plain}
use Rattle.tx_node.specs.declared.plain.Plain.TheVariants.{Kern, Glue, Penalty, Character}
use Rattle.tx_node.specs.declared.plain.Shared.{Shared}
use Rattle.tx_node.specs.declared.plain.Shared.TheVariants.{Rule, Leaders, Special, Ligature, Mark}
use Rattle.tx_node.specs.Items.{Item, plain, shared, boxed, discretionary, adjustment, insertion, box_leaders, Items, none, more, PackedBox, items_of}
use Rattle.tx_node.specs.Setting.{Reach, begun}
use Rattle.tx_ship.specs.declared.error.ShipError.{ShipError}
use Rattle.tx_ship.specs.declared.error.ShipError.TheVariants.{OutsidePage, OutOfMemory}
use Rattle.tx_ship.specs.declared.places.Point.{Point}
use Rattle.tx_ship.specs.declared.places.Frame.{Frame}
use Rattle.tx_ship.specs.declared.places.Span.{Span}
use Rattle.tx_ship.specs.declared.places.Sides.{Sides}
use Rattle.tx_ship.specs.declared.places.Cursor.{Cursor}
use Rattle.tx_ship.specs.declared.places.CornerRule.{CornerRule}
use Rattle.tx_ship.specs.Commands.{is_entered}
use Rattle.tx_ship.specs.Standing.{next, span_of, size_of, reference, upright, shifted, rule_sides, leaders_sides, copies_from, first_copy, copy_at, character_sides, box_sides, frame_at, page_frame}

-- a place of a page
abbrev pub IsOnPage : ℤ → Type 0
IsOnPage z = unsigned_abs z ≤ 1073741823

abbrev pub on_page : ℤ → Bool
on_page z = nat_le (unsigned_abs z) 1073741823

-- a point lies on it
abbrev pub point_lies : Point → Bool
point_lies at = on_page at.h && on_page at.v

-- the left edge of a rule or box and its right one do, which has its reference point there
abbrev pub across_lies : Point → Sides → Bool
across_lies at sides = on_page at.h && on_page (at.h +ℤ sides.width)

-- its upper edge and its lower one do
abbrev pub along_lies : Point → Sides → Bool
along_lies at sides = on_page (at.v -ℤ sides.height) && on_page (at.v +ℤ sides.depth)

-- all four edges do
unfoldable pub edges_lie : Point → Sides → Bool
edges_lie at sides = across_lies at sides && along_lies at sides

-- the edges of a box do, and its reference point
abbrev pub head_lies : Point → BoxHead → Bool
head_lies at head = edges_lie at (box_sides head) && point_lies at

-- a box whose list isn't empty does with what it holds, where `inside` says whether that does
abbrev pub box_lies : Point → BoxHead → Items → Bool → Bool
box_lies at head inner inside = not (is_entered inner) || (head_lies at head && inside)

-- a rule of a list
abbrev pub rule_lies : Frame → Span → Sides → Bool
rule_lies frame span sides = edges_lie (reference frame.head.direction frame (upright span.from sides.height)) sides

-- a special of a list
abbrev pub special_lies : Frame → Span → Bool
special_lies frame span = point_lies (reference frame.head.direction frame (upright span.from (pos 0)))

-- a character of a list does with its four edges and its reference point
abbrev pub character_lies : Frame → Span → CharacterItem → Bool
character_lies frame span c =
    let at : Point = reference frame.head.direction frame (upright span.from c.height) in edges_lie at (character_sides c) && point_lies at

-- a small item
abbrev pub plain_lies : Frame → Span → Plain → Bool
plain_lies frame span (Kern kind size) = true
plain_lies frame span (Glue g) = true
plain_lies frame span (Penalty n) = true
plain_lies frame span (Character c) = character_lies frame span c

-- a larger one without a list of its own; leaders are a rule where their glue is longer than nothing
abbrev pub shared_lies : Frame → Span → Shared → Bool
shared_lies frame span (Rule r) = rule_lies frame span (rule_sides frame.head.direction frame.head r)
shared_lies frame span (Leaders l) =
    if is_positive (size_of span)
    then rule_lies frame span (leaders_sides frame.head.direction frame.head l.rule (size_of span))
    else true
shared_lies frame span (Special text) = special_lies frame span
shared_lies frame span (Ligature l) = character_lies frame span l.character
shared_lies frame span (Mark text) = true

-- so many copies, of which the first begins there and each so far behind the one before it: `lies` says whether one of them does by its
-- reference point
unfoldable pub copies_lie : (Point → Bool) → (ℤ → Point) → ℕ → ℕ → ℤ → Bool
copies_lie lies stands step zero from = true
copies_lie lies stands step (suc left) from = lies (stands from) && copies_lie lies stands step left (from +ℤ pos step)

-- every character, rule and special of a list, every box in it that isn't empty, and what these hold
unfoldable mutual
  pub list_lies : Frame → Reach → Items → Bool
  list_lies frame reach none = true
  list_lies frame reach (more item rest) = item_lies frame (span_of frame reach item) item && list_lies frame (next frame reach item) rest

  pub item_lies : Frame → Span → Item → Bool
  item_lies frame span (plain p) = plain_lies frame span p
  item_lies frame span (shared s) = shared_lies frame span s
  item_lies frame span (boxed shift head inner) =
      let at : Point = reference frame.head.direction frame (shifted span.from shift head) in
      box_lies at head inner (list_lies (frame_at head at) begun inner)
  item_lies frame span (discretionary replaced pre post) = true
  item_lies frame span (adjustment inner) = true
  item_lies frame span (insertion inserted inner) = true
  item_lies frame span (box_leaders head repeated inner) =
      let copies : Copies = copies_from frame span head.kind repeated in
      not (is_entered inner)
      || copies_lie (λ at. head_lies at repeated && list_lies (frame_at repeated at) begun inner) (copy_at frame repeated) copies.step copies.count
      (first_copy span copies)

-- what a box with its reference point there holds
abbrev pub inside_lies : PackedBox → Point → Bool
inside_lies b at = list_lies (frame_at b.head at) begun (items_of b.list)

-- a copy of a box, with what it holds
abbrev pub copy_lies : PackedBox → Point → Bool
copy_lies b at = head_lies at b.head && inside_lies b at

-- the box of a page, which is as another box, and what it holds
abbrev pub page_lies : PackedBox → ℤ → ℤ → Bool
page_lies b hoffset voffset =
    let at : Point = (page_frame b hoffset voffset).at in box_lies at b.head (items_of b.list) (inside_lies b at)

-- the same of a rule or box whose edges lie on the page
pub record Lies (at : Point) (sides : Sides) : Type 0 where
  pub left : IsOnPage at.h
  pub right : IsOnPage (at.h +ℤ sides.width)
  pub top : IsOnPage (at.v -ℤ sides.height)
  pub bottom : IsOnPage (at.v +ℤ sides.depth)

-- a reader that is on the page
pub record IsReader (cursor : Cursor) : Type 0 where
  pub right : IsOnPage cursor.right
  pub down : IsOnPage cursor.down

-- a rule as the file has it, which lies on the page with its corner and its right edge
pub record IsCornered (r : CornerRule) : Type 0 where
  pub corner : IsReader r.corner
  pub right : IsOnPage (r.corner.right +ℤ r.width)

-- a point from which the code can count on without leaving its numbers
pub record IsNear (at : Point) : Type 0 where
  pub h : unsigned_abs at.h ≤ 2 ^ 101
  pub v : unsigned_abs at.v ≤ 2 ^ 101

-- so for sides
pub record IsNearSides (sides : Sides) : Type 0 where
  pub width : unsigned_abs sides.width ≤ 2 ^ 100
  pub height : unsigned_abs sides.height ≤ 2 ^ 100
  pub depth : unsigned_abs sides.depth ≤ 2 ^ 100

-- so for a box, whose point is that of a page or of a box that lies on one
pub record IsNearBox (frame : Frame) : Type 0 where
  pub h : unsigned_abs frame.at.h ≤ 2 ^ 66
  pub v : unsigned_abs frame.at.v ≤ 2 ^ 66

-- so for the two ends of an item
pub record IsNearSpan (span : Span) : Type 0 where
  pub from : unsigned_abs span.from ≤ 2 ^ 99
  pub to : unsigned_abs span.to ≤ 2 ^ 99

-- an error that isn't want of memory says that something lies outside
abbrev pub IsOutside : ShipError → Bool → Type 0
IsOutside e lies = e ≢ OutOfMemory → (e ≡ OutsidePage) × (lies ≡ false)
