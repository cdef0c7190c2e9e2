-- The commands of a page (TeX: The Program, sections 607, 615 to 640 and 1368; the DVI standard).
use Rattle.std.specs.Prelude.{ℕ, Bool, true, false, zero, suc, ◌+◌, ◌-◌, ◌^◌, ◌==◌, ◌&&◌, nat_lt, min, max, ℤ, pos, ◌+ℤ◌, ◌-ℤ◌, unsigned_abs, List, [], ◌∷◌, ◌++◌, length, drop, Option, Some, None, if◌then◌else◌}
use Rattle.std.specs.Int.{is_positive}
use Rattle.tx_dvi.specs.Dvi.{four_bytes}
use Rattle.tx_dvi.specs.Meaning.{ReaderFonts, page_start}
use Rattle.tx_node.specs.declared.character.Character.{Character as CharacterItem}
use Rattle.tx_node.specs.declared.head.Direction.{Direction}
use Rattle.tx_node.specs.declared.head.Direction.TheVariants.{Horizontal, Vertical}
use Rattle.tx_node.specs.declared.head.Setting.{Setting}
use Rattle.tx_node.specs.declared.places.Copies.{Copies}
use Rattle.tx_node.specs.declared.plain.Plain.{Plain}
use Rattle.tx_node.specs.declared.plain.Plain.TheVariants.{Kern, Glue, Penalty, Character}
use Rattle.tx_node.specs.declared.plain.Shared.{Shared}
use Rattle.tx_node.specs.declared.plain.Shared.TheVariants.{Rule, Leaders, Special, Ligature, Mark}
use Rattle.tx_node.specs.Items.{Item, plain, shared, boxed, discretionary, adjustment, insertion, box_leaders, Items, none, more, PackedBox, items_of}
use Rattle.tx_node.specs.Setting.{Reach, begun, behind}
use Rattle.tx_node.specs.Shipped.{copies_made}
use Rattle.tx_tfm.specs.declared.named.NamedFont.{NamedFont}
use Rattle.tx_tfm.specs.declared.state.FontState.{FontState}
use Rattle.tx_tfm.specs.Fonts.{font_at}
use Rattle.tx_ship.specs.declared.places.Point.{Point}
use Rattle.tx_ship.specs.declared.places.Frame.{Frame}
use Rattle.tx_ship.specs.declared.places.Span.{Span}
use Rattle.tx_ship.specs.declared.places.Sides.{Sides}
use Rattle.tx_ship.specs.declared.places.Cursor.{Cursor}
use Rattle.tx_ship.specs.declared.places.CornerRule.{CornerRule}
use Rattle.tx_ship.specs.Characters.{definition_for, font_commands, set_code}
use Rattle.tx_ship.specs.Standing.{next, span_of, size_of, reference, upright, shifted, rule_sides, leaders_sides, copies_from, first_copy, copy_at, frame_at, page_frame}

-- how many bytes a movement takes, by its amount without its sign, with a bit left for that
abbrev pub movement_size : ℤ → ℕ
movement_size by =
    if nat_lt (unsigned_abs by) (2 ^ 7) then 1
    else if nat_lt (unsigned_abs by) (2 ^ 15) then 2
    else if nat_lt (unsigned_abs by) (2 ^ 23) then 3
    else 4

-- a movement, none at all by 0, by a command of the family of which the shortest has this number: the last bytes of its four
unfoldable pub movement : ℕ → ℤ → List ℕ
movement shortest by =
    if unsigned_abs by == 0 then []
    else (shortest + (movement_size by - 1)) ∷ drop (4 - movement_size by) (four_bytes by)

-- right1 to right4 are 143 to 146, down1 to down4 157 to 160
abbrev pub right : ℤ → List ℕ
right by = movement 143 by

abbrev pub down : ℤ → List ℕ
down by = movement 157 by

-- from one point to another
unfoldable pub way : Cursor → Cursor → List ℕ
way from to = right (to.right -ℤ from.right) ++ down (to.down -ℤ from.down)

-- the cursor at a point
abbrev pub cursor_at : Point → Cursor
cursor_at at = record { right = at.h; down = at.v }

-- a rule's command with its height and width: set_rule, 132, in a horizontal list, put_rule, 137, in a vertical one
abbrev pub rule_opcode : Direction → ℕ
rule_opcode Horizontal = 132
rule_opcode Vertical = 137

unfoldable pub rule_bytes : Direction → CornerRule → List ℕ
rule_bytes direction r = rule_opcode direction ∷ four_bytes r.height ++ four_bytes r.width

-- set_rule moves the reader to the right by the rule's width, put_rule leaves it at the corner
abbrev pub behind_rule : Direction → CornerRule → Cursor
behind_rule Horizontal r = record r.corner { right = r.corner.right +ℤ r.width }
behind_rule Vertical r = r.corner

-- a rule by its lower left corner
abbrev pub cornered : Point → Sides → CornerRule
cornered at sides = record {
  corner = record { right = at.h; down = at.v +ℤ sides.depth };
  height = sides.height +ℤ sides.depth;
  width = sides.width;
}

-- a rule is mentioned only where both its sides are positive
abbrev pub is_visible : CornerRule → Bool
is_visible r = is_positive r.width && is_positive r.height

-- a rule, and the cursor behind it
unfoldable pub rule_item : Direction → Cursor → CornerRule → List ℕ × Cursor
rule_item direction cursor r =
    if is_visible r then (way cursor r.corner ++ rule_bytes direction r, behind_rule direction r) else ([], cursor)

-- a special: xxx1, 239, with its length in one byte, or xxx4, 242, with its length in four; a longer text than four bytes
-- tell stands on no page
unfoldable pub special : List ℕ → List ℕ
special text =
    if nat_lt (length text) 256 then 239 ∷ length text ∷ text
    else 242 ∷ four_bytes (pos (min (length text) 2147483647)) ++ text

-- a special at a point, where the reader stays
abbrev pub special_item : Cursor → Cursor → List ℕ → List ℕ × Cursor
special_item cursor at text = (way cursor at ++ special text, at)

-- push and pop round the commands of a box in a list; a push directly followed by its pop is dropped
abbrev pub framed : List ℕ → List ℕ
framed [] = []
framed (first ∷ others) = 141 ∷ (first ∷ others) ++ 142 ∷ []

-- in a vertical list the reader goes down to the baseline of a box before the push, and stays there behind the pop
abbrev pub approach : Direction → Cursor → Cursor → List ℕ
approach Horizontal cursor at = []
approach Vertical cursor at = down (at.down -ℤ cursor.down)

abbrev pub approached : Direction → Cursor → Cursor → Cursor
approached Horizontal cursor at = cursor
approached Vertical cursor at = record cursor { down = at.down }

-- TeX enters a box whose list isn't empty, and passes over another
abbrev pub is_entered : Items → Bool
is_entered none = false
is_entered (more item rest) = true

-- what is written of a page is read with a cursor and the fonts that the reader knows
pub record Pen : Type 0 where
  pub at : Cursor
  pub fonts : ReaderFonts

abbrev pub pen_at : ReaderFonts → Cursor → Pen
pen_at fonts at = record { at = at; fonts = fonts }

-- commands that leave the fonts alone
abbrev pub keeping_fonts : ReaderFonts → List ℕ × Cursor → List ℕ × Pen
keeping_fonts fonts made = (made.0, pen_at fonts made.1)

-- a rule of a list
abbrev pub rule_commands : Frame → Span → Cursor → Sides → List ℕ × Cursor
rule_commands frame span cursor sides =
    rule_item frame.head.direction cursor (cornered (reference frame.head.direction frame (upright span.from sides.height)) sides)

-- a special of a list
abbrev pub special_commands : Frame → Span → Cursor → List ℕ → List ℕ × Cursor
special_commands frame span cursor text = special_item cursor (cursor_at (reference frame.head.direction frame (upright span.from (pos 0)))) text

-- A character at a point: the way there, its font where another one is chosen, and its code; the reader moves on by its width. A
-- character without a font, of which there is none in a box that may be shipped, has no commands.
abbrev pub behind_character : Cursor → CharacterItem → Cursor
behind_character at c = record at { right = at.right +ℤ c.width }

unfoldable pub character_item : Option NamedFont → Pen → Cursor → CharacterItem → List ℕ × Pen
character_item None pen at c = ([], pen)
character_item (Some f) pen at c = (
  way pen.at at ++ (font_commands (definition_for c.font f) pen.fonts).0 ++ set_code c.code,
  record { at = behind_character at c; fonts = (font_commands (definition_for c.font f) pen.fonts).1 },
)

-- a character of a list
abbrev pub character_commands : List FontState → Frame → Span → Pen → CharacterItem → List ℕ × Pen
character_commands fonts frame span pen c =
    character_item (font_at fonts c.font) pen (cursor_at (reference frame.head.direction frame (upright span.from c.height))) c

-- a small item
abbrev pub plain_commands : List FontState → Frame → Span → Pen → Plain → List ℕ × Pen
plain_commands fonts frame span pen (Kern kind size) = ([], pen)
plain_commands fonts frame span pen (Glue g) = ([], pen)
plain_commands fonts frame span pen (Penalty n) = ([], pen)
plain_commands fonts frame span pen (Character c) = character_commands fonts frame span pen c

-- a larger one without a list of its own; leaders are a rule where their glue is longer than nothing
abbrev pub shared_commands : List FontState → Frame → Span → Pen → Shared → List ℕ × Pen
shared_commands fonts frame span pen (Rule r) = keeping_fonts pen.fonts (rule_commands frame span pen.at (rule_sides frame.head.direction frame.head r))
shared_commands fonts frame span pen (Leaders l) =
    if is_positive (size_of span)
    then keeping_fonts pen.fonts (rule_commands frame span pen.at (leaders_sides frame.head.direction frame.head l.rule (size_of span)))
    else ([], pen)
shared_commands fonts frame span pen (Special text) = keeping_fonts pen.fonts (special_commands frame span pen.at text)
shared_commands fonts frame span pen (Ligature l) = character_commands fonts frame span pen l.character
shared_commands fonts frame span pen (Mark text) = ([], pen)

-- push and pop round the commands of a list
abbrev pub framed_all : List ℕ × Pen → List ℕ × Pen
framed_all made = (framed made.0, made.1)

-- where the commands of the list of a box begin, which has its reference point there
abbrev pub entering : Direction → Pen → Cursor → Pen
entering direction pen at = record pen { at = approached direction pen.at at }

-- a box with its reference point there, where `inside` are the commands of its list and the pen behind them; behind the pop the
-- reader is where it was before the push, but knows the fonts
abbrev pub box_item : Direction → Pen → Cursor → Bool → List ℕ × Pen → List ℕ × Pen
box_item direction pen at entered inside =
    if entered
    then (approach direction pen.at at ++ framed inside.0, record { at = approached direction pen.at at; fonts = inside.1.fonts })
    else ([], pen)

-- one thing after the other
abbrev pub followed_by : List ℕ → List ℕ × Pen → List ℕ × Pen
followed_by bytes others = (bytes ++ others.0, others.1)

-- the way to a copy that leaders make of a box: in a horizontal list the reader goes down first, in a vertical one to the right
-- (sections 628 and 637)
unfoldable pub copy_way : Direction → Cursor → Cursor → List ℕ
copy_way Horizontal from to = down (to.down -ℤ from.down) ++ right (to.right -ℤ from.right)
copy_way Vertical from to = way from to

-- a copy with its reference point there, where `inside` are the commands of its list and the pen behind them; the reader goes there
-- before the push, and is there behind the pop
abbrev pub copy_commands : Direction → Pen → Cursor → List ℕ × Pen → List ℕ × Pen
copy_commands direction pen at inside = (copy_way direction pen.at at ++ framed inside.0, record { at = at; fonts = inside.1.fonts })

-- so many copies, of which the first begins there and each so far behind the one before it: `inside` are the commands of the list of
-- one of them by its reference point
unfoldable pub copied : Direction → (Point → Pen → List ℕ × Pen) → (ℤ → Point) → ℕ → ℕ → ℤ → Pen → List ℕ × Pen
copied direction inside stands step zero from pen = ([], pen)
copied direction inside stands step (suc left) from pen =
    let at : Cursor = cursor_at (stands from) in
    let made : List ℕ × Pen = copy_commands direction pen at (inside (stands from) (pen_at pen.fonts at)) in
    followed_by made.0 (copied direction inside stands step left (from +ℤ pos step) made.1)

-- of a box whose list is empty no copy has commands
abbrev pub if_entered : Bool → Pen → List ℕ × Pen → List ℕ × Pen
if_entered entered pen made = if entered then made else ([], pen)

-- the commands of a list and of an item, each with the pen behind them
unfoldable mutual
  pub list_commands : List FontState → Frame → Reach → Pen → Items → List ℕ × Pen
  list_commands fonts frame reach pen none = ([], pen)
  list_commands fonts frame reach pen (more item rest) =
      followed_by (item_commands fonts frame (span_of frame reach item) pen item).0
      (list_commands fonts frame (next frame reach item) (item_commands fonts frame (span_of frame reach item) pen item).1 rest)

  pub item_commands : List FontState → Frame → Span → Pen → Item → List ℕ × Pen
  item_commands fonts frame span pen (plain p) = plain_commands fonts frame span pen p
  item_commands fonts frame span pen (shared s) = shared_commands fonts frame span pen s
  item_commands fonts frame span pen (boxed shift head inner) =
      let at : Point = reference frame.head.direction frame (shifted span.from shift head) in
      box_item frame.head.direction pen (cursor_at at) (is_entered inner)
      (list_commands fonts (frame_at head at) begun (entering frame.head.direction pen (cursor_at at)) inner)
  item_commands fonts frame span pen (discretionary replaced pre post) = ([], pen)
  item_commands fonts frame span pen (adjustment inner) = ([], pen)
  item_commands fonts frame span pen (insertion inserted inner) = ([], pen)
  item_commands fonts frame span pen (box_leaders head repeated inner) =
      let copies : Copies = copies_from frame span head.kind repeated in
      if_entered (is_entered inner) pen
      (copied frame.head.direction (λ at own. list_commands fonts (frame_at repeated at) begun own inner) (copy_at frame repeated) copies.step copies.count
      (first_copy span copies) pen)

-- those of the list of a box with its reference point there, and of the box in a list of this direction
abbrev pub inside : List FontState → PackedBox → Point → Pen → List ℕ × Pen
inside fonts b at pen = list_commands fonts (frame_at b.head at) begun pen (items_of b.list)

abbrev pub box_commands : List FontState → Direction → Pen → Point → PackedBox → List ℕ × Pen
box_commands fonts direction pen at b =
    box_item direction pen (cursor_at at) (is_entered (items_of b.list)) (inside fonts b at (entering direction pen (cursor_at at)))

-- how deep the boxes nest that TeX enters, in a list whose glue is set so, from an item on which stands there; of an item, by how many
-- copies it makes: the box of leaders counts where they make some, also if its list is empty (section 628)
unfoldable mutual
  pub level_of : Direction → Setting → Reach → Items → ℕ
  level_of direction setting reach none = 0
  level_of direction setting reach (more item rest) =
      max (item_level (copies_made direction setting reach (behind direction setting reach item) item) item)
      (level_of direction setting (behind direction setting reach item) rest)

  pub item_level : ℕ → Item → ℕ
  item_level copies (plain p) = 0
  item_level copies (shared s) = 0
  item_level copies (boxed shift head inner) = if is_entered inner then suc (level_of head.direction head.setting begun inner) else 0
  item_level copies (discretionary replaced pre post) = 0
  item_level copies (adjustment inner) = 0
  item_level copies (insertion inserted inner) = 0
  item_level copies (box_leaders head repeated inner) = if copies == 0 then 0 else suc (level_of repeated.direction repeated.setting begun inner)

-- the same of a list none of whose items makes a copy
abbrev pub alone_level : Items → ℕ
alone_level none = 0
alone_level (more item rest) = max (item_level 0 item) (alone_level rest)

-- in the list of a box
abbrev pub level_inside : PackedBox → ℕ
level_inside b = level_of b.head.direction b.head.setting begun (items_of b.list)

-- the reader of a page begins at the left upper corner, and knows the fonts of earlier pages
abbrev pub page_cursor : Cursor
page_cursor = record { right = pos 0; down = pos 0 }

abbrev pub page_pen : List ℕ → Pen
page_pen known = record { at = page_cursor; fonts = (page_start known).fonts }

-- the commands of a page, and the pen behind them
abbrev pub written_of : List FontState → List ℕ → PackedBox → ℤ → ℤ → List ℕ × Pen
written_of fonts known b hoffset voffset = list_commands fonts (page_frame b hoffset voffset) begun (page_pen known) (items_of b.list)
