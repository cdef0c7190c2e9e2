-- Where the characters, rules and specials of a box lie on a page.
use Rattle.std.specs.Prelude.{ℤ, pos, ◌+ℤ◌, ℕ, zero, suc, List, [], ◌++◌, if◌then◌else◌}
use Rattle.std.specs.Int.{is_positive}
use Rattle.tx_dvi.specs.declared.placed.Placed.{Placed}
use Rattle.tx_dvi.specs.Meaning.{character_met, rule_met, special_met}
use Rattle.tx_node.specs.declared.character.Character.{Character as CharacterItem}
use Rattle.tx_node.specs.declared.places.Copies.{Copies}
use Rattle.tx_node.specs.declared.plain.Plain.{Plain}
use Rattle.tx_node.specs.declared.plain.Plain.TheVariants.{Kern, Glue, Penalty, Character}
use Rattle.tx_node.specs.declared.plain.Shared.{Shared}
use Rattle.tx_node.specs.declared.plain.Shared.TheVariants.{Rule, Leaders, Special, Ligature, Mark}
use Rattle.tx_node.specs.Items.{Item, plain, shared, boxed, discretionary, adjustment, insertion, box_leaders, Items, none, more, PackedBox, items_of}
use Rattle.tx_node.specs.Setting.{Reach, begun}
use Rattle.tx_ship.specs.declared.places.Point.{Point}
use Rattle.tx_ship.specs.declared.places.Frame.{Frame}
use Rattle.tx_ship.specs.declared.places.Span.{Span}
use Rattle.tx_ship.specs.declared.places.Sides.{Sides}
use Rattle.tx_ship.specs.Characters.{dvi_number}
use Rattle.tx_ship.specs.Standing.{next, span_of, size_of, reference, upright, shifted, rule_sides, leaders_sides, copies_from, first_copy, copy_at, frame_at, page_frame}

-- a rule by its reference point, seen where both its sides are positive
abbrev pub placed_rule : Point → Sides → List Placed
placed_rule at sides = rule_met at.h (at.v +ℤ sides.depth) (sides.height +ℤ sides.depth) sides.width

-- a rule of a list
abbrev pub placed_in : Frame → Span → Sides → List Placed
placed_in frame span sides = placed_rule (reference frame.head.direction frame (upright span.from sides.height)) sides

-- a special by the point where it stands
abbrev pub placed_special : Point → List ℕ → List Placed
placed_special at text = special_met at.h at.v text

-- a character of a list, by its reference point and the number of its font in the file
abbrev pub placed_character : Frame → Span → CharacterItem → List Placed
placed_character frame span c =
    let at : Point = reference frame.head.direction frame (upright span.from c.height) in character_met (dvi_number c.font) c.code at.h at.v

-- a small item
abbrev pub placed_plain : Frame → Span → Plain → List Placed
placed_plain frame span (Kern kind size) = []
placed_plain frame span (Glue g) = []
placed_plain frame span (Penalty n) = []
placed_plain frame span (Character c) = placed_character frame span c

-- a larger one without a list of its own; leaders are a rule where their glue is longer than nothing
abbrev pub placed_shared : Frame → Span → Shared → List Placed
placed_shared frame span (Rule r) = placed_in frame span (rule_sides frame.head.direction frame.head r)
placed_shared frame span (Leaders l) =
    if is_positive (size_of span)
    then placed_in frame span (leaders_sides frame.head.direction frame.head l.rule (size_of span))
    else []
placed_shared frame span (Special text) = placed_special (reference frame.head.direction frame (upright span.from (pos 0))) text
placed_shared frame span (Ligature l) = placed_character frame span l.character
placed_shared frame span (Mark text) = []

-- what so many copies hold, of which the first begins there and each so far behind the one before it: `held` is what one of them holds
-- by its reference point
unfoldable pub placed_copies : (Point → List Placed) → (ℤ → Point) → ℕ → ℕ → ℤ → List Placed
placed_copies held stands step zero from = []
placed_copies held stands step (suc left) from = held (stands from) ++ placed_copies held stands step left (from +ℤ pos step)

-- what a list holds, in a box on the page: each item stands behind those before it, as the glue of the box is set; of what has a
-- list and is no box nothing is seen (sections 622 and 631)
unfoldable mutual
  pub placed_list : Frame → Reach → Items → List Placed
  placed_list frame reach none = []
  placed_list frame reach (more item rest) = placed_item frame (span_of frame reach item) item ++ placed_list frame (next frame reach item) rest

  pub placed_item : Frame → Span → Item → List Placed
  placed_item frame span (plain p) = placed_plain frame span p
  placed_item frame span (shared s) = placed_shared frame span s
  placed_item frame span (boxed shift head inner) =
      placed_list (frame_at head (reference frame.head.direction frame (shifted span.from shift head))) begun inner
  placed_item frame span (discretionary replaced pre post) = []
  placed_item frame span (adjustment inner) = []
  placed_item frame span (insertion inserted inner) = []
  placed_item frame span (box_leaders head repeated inner) =
      let copies : Copies = copies_from frame span head.kind repeated in
      placed_copies (λ at. placed_list (frame_at repeated at) begun inner) (copy_at frame repeated) copies.step copies.count (first_copy span copies)

-- the characters, rules and specials of a box whose left upper corner stands at the two offsets
abbrev pub placed : PackedBox → ℤ → ℤ → List Placed
placed b hoffset voffset = placed_list (page_frame b hoffset voffset) begun (items_of b.list)
