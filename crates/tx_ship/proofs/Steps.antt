-- Steps of the walk over a list, and what a test of places tells.
use Rattle.std.proofs.Common.{◌≡◌, ◌==◌, ℕ, ◌+◌, ◌-◌, ◌<◌, ◌≤◌, ℤ, pos, ◌+ℤ◌, ◌-ℤ◌, Bool, true, false, cond, not, ◌&&◌, List, [], ◌∷◌, ◌++◌, length, take, drop, get_or, refl, sym, ap, ◌∙◌, subst, arith, add-one, append_assoc, Option, None, Result, Ok, Err}
use Rattle.std.specs.Prelude.{IsErrAnd}
use Rattle.std.proofs.lemmas.Bool.{leb-true, eqb-true, eqb-false}
use Rattle.std.proofs.lemmas.List.{append-nil, length-append, drop_all}
use Rattle.std.proofs.Math.Seq.{drop-cons, take-append_seam}
use Rattle.std.proofs.Math.Dec.{eqb-suc-zero}
use Rattle.tx_node.specs.declared.character.Character.{Character as CharacterItem}
use Rattle.tx_node.specs.declared.node.Node.{Node}
use Rattle.tx_node.specs.declared.head.BoxHead.{BoxHead}
use Rattle.tx_node.specs.declared.head.Direction.{Direction}
use Rattle.tx_node.specs.declared.head.Direction.TheVariants.{Horizontal, Vertical}
use Rattle.tx_node.specs.Items.{Item, Items, none, more, PackedBox, box_item, items_of}
use Rattle.tx_node.specs.Nodes.{item_of, list_of}
use Rattle.tx_node.specs.Setting.{Reach}
use Rattle.tx_ship.specs.declared.error.ShipError.{ShipError}
use Rattle.tx_ship.specs.declared.places.Point.{Point}
use Rattle.tx_ship.specs.declared.places.Frame.{Frame}
use Rattle.tx_ship.specs.declared.places.Cursor.{Cursor}
use Rattle.tx_ship.specs.declared.places.Sides.{Sides}
use Rattle.tx_ship.specs.declared.places.Span.{Span}
use Rattle.tx_ship.specs.declared.places.Stand.{Stand}
use Rattle.tx_ship.specs.declared.places.CornerRule.{CornerRule}
use Rattle.tx_tfm.specs.declared.named.NamedFont.{NamedFont}
use Rattle.tx_tfm.specs.declared.state.FontState.{FontState}
use Rattle.tx_tfm.specs.Fonts.{font_at}
use Rattle.tx_ship.specs.declared.output.Output.{Output}
use Rattle.tx_ship.specs.Written.{IsWritten}
use Rattle.tx_ship.specs.Standing.{next, place, span_of, reference, upright, shifted, frame_at}
use Rattle.tx_ship.specs.Commands.{Pen, pen_at, character_item, is_entered, cornered, cursor_at, right, down, way, framed, list_commands, item_commands}
use Rattle.tx_ship.specs.Within.{Lies, IsReader, IsNearBox, IsOutside, on_page, point_lies, along_lies, edges_lie, box_lies, inside_lies, list_lies, item_lies}

-- both of two tests
pub both : {a b : Bool} → (a && b) ≡ true → (a ≡ true) × (b ≡ true)
both {a = true} {b = true} e = (refl, refl)
both {a = true} {b = false} e = absurd (cc)
both {a = false} {b = true} e = absurd (cc)
both {a = false} {b = false} e = absurd (cc)

-- what the tests of the edges and of a point tell
pub lies-is : {at : Point} {sides : Sides} → edges_lie at sides ≡ true → Lies at sides
unfolding edges_lie
lies-is e = record {
  left = leb-true _ _ (both (both e).0).0;
  right = leb-true _ _ (both (both e).0).1;
  top = leb-true _ _ (both (both e).1).0;
  bottom = leb-true _ _ (both (both e).1).1;
}

pub point-is : {at : Point} → point_lies at ≡ true → IsReader (cursor_at at)
point-is e = record { right = leb-true _ _ (both e).0; down = leb-true _ _ (both e).1 }

-- the list from an item on
pub items-on : (xs : List Node) (i : ℕ) (x : Node) → i < length xs → x ≡ get_or xs i x → items_of (list_of (drop i xs)) ≡ more (item_of x) (items_of (list_of (drop (i + 1) xs)))
items-on xs i x h is = ap (λ ys. items_of (list_of ys)) (drop-cons xs i x h) ∙ (λ j. more (item_of (sym is j)) (items_of (list_of (drop (sym (add-one i) j) xs))))

pub entered-is : (xs : List Node) {list : List Item} {told : Bool} → list_of xs ≡ list → told ≡ (length xs == 0) → not told ≡ is_entered (items_of list)
entered-is [] is told_is = ap not told_is ∙ ap (λ list. is_entered (items_of list)) is
entered-is (x ∷ xs) is told_is = ap not (told_is ∙ eqb-suc-zero (length xs)) ∙ ap (λ list. is_entered (items_of list)) is

-- two pieces, appended one after another
pub two-puts : (a p q : List ℕ) {b c : List ℕ} → b ≡ a ++ p → c ≡ b ++ q → c ≡ a ++ (p ++ q)
two-puts a p q first second = second ∙ ap (λ b. b ++ q) first ∙ append_assoc a p q

pub way-puts : (a : List ℕ) (from to : Cursor) {b c : List ℕ} → b ≡ a ++ right (to.right -ℤ from.right) → c ≡ b ++ down (to.down -ℤ from.down) → c ≡ a ++ way from to
unfolding way
way-puts a from to first second = two-puts a (right (to.right -ℤ from.right)) (down (to.down -ℤ from.down)) first second

-- places, by their parts
pub span-is : (frame : Frame) (reach : Reach) (item : Item) {from to : ℤ} → from ≡ place frame reach → to ≡ place frame (next frame reach item)
    → ◌≡◌ {A = Span} (record { from = from; to = to }) (span_of frame reach item)
span-is frame reach item from_is to_is = λ i. record { from = from_is i; to = to_is i }

pub across-is : (frame : Frame) (s : Stand) {direction : Direction} {h v : ℤ} → direction ≡ Horizontal → h ≡ s.from → v ≡ frame.at.v +ℤ s.shift
    → ◌≡◌ {A = Point} (record { h = h; v = v }) (reference direction frame s)
across-is frame s e h_is v_is = (λ i. record { h = h_is i; v = v_is i }) ∙ (λ i. reference (sym e i) frame s)

pub along-is : (frame : Frame) (s : Stand) {direction : Direction} {h v : ℤ} → direction ≡ Vertical → h ≡ frame.at.h +ℤ s.shift → v ≡ s.from +ℤ s.height
    → ◌≡◌ {A = Point} (record { h = h; v = v }) (reference direction frame s)
along-is frame s e h_is v_is = (λ i. record { h = h_is i; v = v_is i }) ∙ (λ i. reference (sym e i) frame s)

pub shifted-is : (from shift : ℤ) (head : BoxHead) {f s h : ℤ} → f ≡ from → s ≡ shift → h ≡ head.height
    → ◌≡◌ {A = Stand} (record { from = f; shift = s; height = h }) (shifted from shift head)
shifted-is from shift head f_is s_is h_is = λ i. record { from = f_is i; shift = s_is i; height = h_is i }

pub upright-is : (from height : ℤ) {f h : ℤ} → f ≡ from → h ≡ height → ◌≡◌ {A = Stand} (record { from = f; shift = pos 0; height = h }) (upright from height)
upright-is from height f_is h_is = λ i. record { from = f_is i; shift = pos 0; height = h_is i }

pub cornered-is : (at : Point) (sides : Sides) {across downward height width : ℤ} → across ≡ at.h → downward ≡ at.v +ℤ sides.depth → height ≡ sides.height +ℤ sides.depth → width ≡ sides.width
    → ◌≡◌ {A = CornerRule} (record { corner = record { right = across; down = downward }; height = height; width = width }) (cornered at sides)
cornered-is at sides across_is downward_is height_is width_is = λ i. record { corner = record { right = across_is i; down = downward_is i }; height = height_is i; width = width_is i }

-- the test of the upper edge and the lower one, from their places
pub along-are : (at : Point) (sides : Sides) {top bottom : ℤ} {told : Bool} → true ≡ on_page top → told ≡ on_page bottom → top ≡ at.v -ℤ sides.height → bottom ≡ at.v +ℤ sides.depth
    → told ≡ along_lies at sides
along-are at sides over under top_is bottom_is =
    under ∙ ap on_page bottom_is ∙ (λ i. (over ∙ ap on_page top_is) i && on_page (at.v +ℤ sides.depth))

-- a box that lies on the page is near
pub near-box : {frame : Frame} {head : BoxHead} {at : Point} → frame ≡ frame_at head at → IsReader (cursor_at at) → IsNearBox frame
near-box is lies = subst IsNearBox (sym is) (record { h = omega (arith, lies.right); v = omega (arith, lies.down) })

-- an item that is a box lies where this does
pub box-item-lies : (frame : Frame) (span : Span) (b : PackedBox) {x : Item} {shift : ℤ} {at : Point} → x ≡ box_item shift b → at ≡ reference frame.head.direction frame (shifted span.from shift b.head)
    → box_lies at b.head (items_of b.list) (inside_lies b at) ≡ item_lies frame span x
unfolding list_lies
box-item-lies frame span b is at_is = (λ i. box_lies (at_is i) b.head (items_of b.list) (inside_lies b (at_is i))) ∙ ap (item_lies frame span) (sym is)

-- the push of a box, its commands and what closes them
pub framed-close : (before inner : List ℕ) {pushed put new : List ℕ} {start : ℕ} → pushed ≡ before ++ 141 ∷ [] → start ≡ length pushed → put ≡ pushed ++ inner
    → new ≡ cond (length put == start) (take (start - 1) put) (put ++ 142 ∷ []) → new ≡ before ++ framed inner
framed-close before inner {pushed} {put} {new} {start} pushed_is start_is put_is new_is = by inner put_is (length put == start) refl new_is
  where
    long : start ≡ length before + 1
    long = start_is ∙ ap length pushed_is ∙ length-append before (141 ∷ [])

    by : (inner : List ℕ) → put ≡ pushed ++ inner → (b : Bool) → (length put == start) ≡ b → new ≡ cond b (take (start - 1) put) (put ++ 142 ∷ []) → new ≡ before ++ framed inner
    by [] is true e n =
        n ∙ (λ i. take (start - 1) ((is ∙ append-nil pushed ∙ pushed_is) i)) ∙ ap (λ k. take k (before ++ 141 ∷ [])) (omega (arith, long)) ∙ take-append_seam before (141 ∷ []) ∙ sym (append-nil before)
    by [] is false e n = absurd (eqb-false _ _ e (ap length (is ∙ append-nil pushed) ∙ sym start_is))
    by (x ∷ xs) is true e n =
        let same : length put ≡ start = eqb-true _ _ e in
        let more_of : length put ≡ length pushed + length (x ∷ xs) = ap length is ∙ length-append pushed (x ∷ xs) in
        absurd (omega (arith, same, more_of, start_is))
    by (x ∷ xs) is false e n =
        n ∙ (λ i. (is ∙ (λ j. pushed_is j ++ (x ∷ xs))) i ++ 142 ∷ []) ∙ append_assoc (before ++ 141 ∷ []) (x ∷ xs) (142 ∷ []) ∙ append_assoc before (141 ∷ []) ((x ∷ xs) ++ 142 ∷ [])

-- commands behind those that are there
abbrev pub all_of : Output → List ℕ × Pen → List ℕ × Pen
all_of before made = (before.body.items ++ made.0, made.1)

-- what is there of all, and what is still to come
pub record Joins (here : Output) (all rest : List ℕ × Pen) : Type 0 where
  pub bytes : all.0 ≡ here.body.items ++ rest.0
  pub fonts : all.1.fonts ≡ rest.1.fonts

-- The walk at one item of a list, the commands of which are put from it on.
module _ (xs : List Node) (i : ℕ) {x : Node} (frame : Frame) (reach : Reach) (here : i < length xs) (is : x ≡ get_or xs i x) where
  abbrev rest : Items
  rest = items_of (list_of (drop (i + 1) xs))

  -- behind an item that lies on the page, the rest does where all did
  pub lies-on : {all : Bool} → list_lies frame reach (items_of (list_of (drop i xs))) ≡ all → item_lies frame (span_of frame reach (item_of x)) (item_of x) ≡ true
      → list_lies frame (next frame reach (item_of x)) rest ≡ all
  unfolding list_lies
  lies-on so_far lies = ap (λ b. b && list_lies frame (next frame reach (item_of x)) rest) (sym lies) ∙ ap (list_lies frame reach) (sym (items-on xs i x here is)) ∙ so_far

  -- the list doesn't where an item doesn't
  pub lies-not : {all : Bool} → list_lies frame reach (items_of (list_of (drop i xs))) ≡ all → item_lies frame (span_of frame reach (item_of x)) (item_of x) ≡ false → all ≡ false
  unfolding list_lies
  lies-not so_far lies = sym so_far ∙ ap (list_lies frame reach) (items-on xs i x here is) ∙ ap (λ b. b && list_lies frame (next frame reach (item_of x)) rest) lies

  -- the commands of the item, and those behind it
  pub put-on : (fonts : List FontState) (cursor next_cursor : Cursor) (before after : Output) {all : List ℕ × Pen}
      → Joins before all (list_commands fonts frame reach (pen_at before.fonts cursor) (items_of (list_of (drop i xs))))
      → IsWritten before after (item_commands fonts frame (span_of frame reach (item_of x)) (pen_at before.fonts cursor) (item_of x))
      → next_cursor ≡ (item_commands fonts frame (span_of frame reach (item_of x)) (pen_at before.fonts cursor) (item_of x)).1.at
      → Joins after all (list_commands fonts frame (next frame reach (item_of x)) (pen_at after.fonts next_cursor) rest)
  unfolding list_commands
  put-on fonts cursor next_cursor before after {all} so_far put moved =
      let made : List ℕ × Pen = item_commands fonts frame (span_of frame reach (item_of x)) (pen_at before.fonts cursor) (item_of x) in
      let pen_is : pen_at after.fonts next_cursor ≡ made.1 = λ j. pen_at (put.fonts j) (moved j) in
      let others : Pen → List ℕ × Pen = λ (pen : Pen). list_commands fonts frame (next frame reach (item_of x)) pen rest in
      let here_is : list_commands fonts frame reach (pen_at before.fonts cursor) (items_of (list_of (drop i xs))) ≡ (made.0 ++ (others made.1).0, (others made.1).1)
      = ap (list_commands fonts frame reach (pen_at before.fonts cursor)) (items-on xs i x here is) in
      record {
        bytes = so_far.bytes ∙ ap (λ (w : List ℕ × Pen). before.body.items ++ w.0) here_is
            ∙ sym (append_assoc before.body.items made.0 (others made.1).0)
            ∙ (λ j. sym put.bytes j ++ (others (sym pen_is j)).0);
        fonts = so_far.fonts ∙ ap (λ (w : List ℕ × Pen). w.1.fonts) here_is ∙ ap (λ pen. (others pen).1.fonts) (sym pen_is);
      }

-- what has no commands writes nothing
pub none-written : (fonts : List FontState) (number : ℕ) (c : CharacterItem) (output : Output) (cursor at : Cursor) → font_at fonts number ≡ None
    → IsWritten output output (character_item (font_at fonts number) (pen_at output.fonts cursor) at c)
unfolding character_item
none-written fonts number c output cursor at absent =
    subst (λ (o : Option NamedFont). IsWritten output output (character_item o (pen_at output.fonts cursor) at c)) (sym absent) (record { bytes = sym (append-nil output.body.items); fonts = refl })

pub none-moved : (fonts : List FontState) (number : ℕ) (c : CharacterItem) (pen : Pen) (at : Cursor) → font_at fonts number ≡ None → pen.at ≡ (character_item (font_at fonts number) pen at c).1.at
unfolding character_item
none-moved fonts number c pen at absent = ap (λ (o : Option NamedFont). (character_item o pen at c).1.at) (sym absent)

-- a box that isn't entered has no commands
pub not-entered : (fonts : List FontState) (frame : Frame) (reach : Reach) (pen : Pen) (items : Items) → false ≡ is_entered items → list_commands fonts frame reach pen items ≡ ([], pen)
unfolding list_commands
not-entered fonts frame reach pen none e = refl
not-entered fonts frame reach pen (more item rest) e = absurd (cc)

-- where a part lies outside, the whole does
pub outside-on : {e : ShipError} {part whole : Bool} → (part ≡ false → whole ≡ false) → IsOutside e part → IsOutside e whole
outside-on so told = λ not_memory. ((told not_memory).0, so (told not_memory).1)

-- what is so of an error is so of the result that has it
pub on-err : {T E : Type 0} (r : Result T E) (e : E) (IsSo : Result T E → Type 0) → IsErrAnd r (λ x. x ≡ e) → IsSo (Err e) → IsSo r
on-err (Ok value) e IsSo same so = absurd same
on-err (Err x) e IsSo same so = subst (λ y. IsSo (Err y)) (sym same) so

-- where no item is left, all is put, and lies on the page
pub put-end : (fonts : List FontState) (xs : List Node) (i : ℕ) (frame : Frame) (reach : Reach) (cursor : Cursor) (start here : Output) {all : List ℕ × Pen} → length xs ≤ i
    → Joins here (all_of start all) (list_commands fonts frame reach (pen_at here.fonts cursor) (items_of (list_of (drop i xs))))
    → IsWritten start here all
unfolding list_commands
put-end fonts xs i frame reach cursor start here {all} h so_far =
    let none_is : list_commands fonts frame reach (pen_at here.fonts cursor) (items_of (list_of (drop i xs))) ≡ ([], pen_at here.fonts cursor)
    = ap (λ ys. list_commands fonts frame reach (pen_at here.fonts cursor) (items_of (list_of ys))) (drop_all i xs h) in
    record {
      bytes = sym (so_far.bytes ∙ ap (λ (w : List ℕ × Pen). here.body.items ++ w.0) none_is ∙ append-nil here.body.items);
      fonts = sym (so_far.fonts ∙ ap (λ (w : List ℕ × Pen). w.1.fonts) none_is);
    }

pub lies-end : (xs : List Node) (i : ℕ) (frame : Frame) (reach : Reach) {all : Bool} → length xs ≤ i → list_lies frame reach (items_of (list_of (drop i xs))) ≡ all → all ≡ true
unfolding list_lies
lies-end xs i frame reach h so_far = sym so_far ∙ ap (λ ys. list_lies frame reach (items_of (list_of ys))) (drop_all i xs h)
