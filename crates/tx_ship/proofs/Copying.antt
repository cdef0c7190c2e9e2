-- Steps of the walk over the copies that leaders make of a box.
use Rattle.std.proofs.Common.{◌≡◌, ℕ, zero, suc, ◌≤◌, ◌^◌, ℤ, pos, ◌+ℤ◌, ◌-ℤ◌, unsigned_abs, Bool, true, false, cond, not, ◌&&◌, ◌||◌, List, [], ◌++◌, refl, sym, ap, ◌∙◌, subst, arith, append_assoc}
use Rattle.std.proofs.lemmas.Int.{ints}
use Rattle.std.proofs.lemmas.List.{append-nil}
use Rattle.tx_node.specs.declared.head.BoxHead.{BoxHead}
use Rattle.tx_node.specs.declared.head.Direction.{Direction}
use Rattle.tx_node.specs.declared.head.Direction.TheVariants.{Horizontal, Vertical}
use Rattle.tx_node.specs.declared.head.LeadersHead.{LeadersHead}
use Rattle.tx_node.specs.declared.places.Copies.{Copies}
use Rattle.tx_node.specs.declared.plain.LeadersKind.{LeadersKind}
use Rattle.tx_node.specs.Copies.{copies_of}
use Rattle.tx_node.specs.Items.{PackedBox, leaders_item, items_of}
use Rattle.tx_node.specs.Sizes.{box_advance}
use Rattle.tx_ship.specs.declared.output.Output.{Output}
use Rattle.tx_ship.specs.declared.places.Cursor.{Cursor}
use Rattle.tx_ship.specs.declared.places.Frame.{Frame}
use Rattle.tx_ship.specs.declared.places.Point.{Point}
use Rattle.tx_ship.specs.declared.places.Span.{Span}
use Rattle.tx_tfm.specs.declared.state.FontState.{FontState}
use Rattle.tx_ship.specs.Commands.{Pen, copied, copy_commands, copy_way, cursor_at, framed, framed_all, inside, is_entered, item_commands, list_commands, pen_at}
use Rattle.tx_ship.specs.Standing.{copies_from, copy_at, first_copy, reference, shifted, size_of, start_of}
use Rattle.tx_ship.specs.Within.{IsReader, copies_lie, copy_lies, item_lies, list_lies}
use Rattle.tx_ship.specs.Written.{IsWritten}
use Rattle.tx_ship.proofs.Steps.{Joins, all_of, two-puts}

-- a copy whose reference point is on the page begins near
near-by : (direction : Direction) (frame : Frame) (repeated : BoxHead) (from : ℤ) → frame.head.direction ≡ direction → IsReader (cursor_at (copy_at frame repeated from)) → unsigned_abs repeated.height ≤ 2 ^ 31 → unsigned_abs from ≤ 2 ^ 32
near-by Horizontal frame repeated from e lies small =
    let across : (copy_at frame repeated from).h ≡ from = ap (λ (d : Direction). (reference d frame (shifted from (pos 0) repeated)).h) e in
    omega (arith, ints, lies.right, across)
near-by Vertical frame repeated from e lies small =
    let along : (copy_at frame repeated from).v ≡ from +ℤ repeated.height = ap (λ (d : Direction). (reference d frame (shifted from (pos 0) repeated)).v) e in
    omega (arith, ints, lies.down, along, small)

pub copy-near : (frame : Frame) (repeated : BoxHead) (from : ℤ) {at : Point} → at ≡ copy_at frame repeated from → IsReader (cursor_at at) → unsigned_abs repeated.height ≤ 2 ^ 31 → unsigned_abs from ≤ 2 ^ 32
copy-near frame repeated from at_is lies small =
    near-by frame.head.direction frame repeated from refl (subst (λ (p : Point). IsReader (cursor_at p)) at_is lies) small

-- copies by what is known of where the leaders begin and how long they are
pub copies-are : (frame : Frame) (span : Span) (kind : LeadersKind) (repeated : BoxHead) {begins size : ℤ} {made : Copies} → made ≡ copies_of kind begins size (box_advance frame.head.direction repeated)
    → begins ≡ span.from -ℤ start_of frame.head.direction frame → size ≡ size_of span → made ≡ copies_from frame span kind repeated
copies-are frame span kind repeated made_is begins_is size_is =
    made_is ∙ (λ i. copies_of kind (begins_is i) (size_is i) (box_advance frame.head.direction repeated))

-- The test of places, at one copy.
module _ (lies : Point → Bool) (stands : ℤ → Point) (step : ℕ) where
  -- behind a copy that lies on the page, the others do where all did
  pub copies-lie-on : (left : ℕ) (from : ℤ) {n : ℕ} {next : ℤ} {at : Point} {all : Bool} → n ≡ suc left → next ≡ from +ℤ pos step → at ≡ stands from → copies_lie lies stands step n from ≡ all → lies at ≡ true
      → copies_lie lies stands step left next ≡ all
  unfolding copies_lie
  copies-lie-on left from more next_is at_is so_far on_page =
      ap (copies_lie lies stands step left) next_is
      ∙ ap (λ (b : Bool). b && copies_lie lies stands step left (from +ℤ pos step)) (sym on_page ∙ ap lies at_is)
      ∙ ap (λ (k : ℕ). copies_lie lies stands step k from) (sym more) ∙ so_far

  -- they don't all where one doesn't
  pub copies-lie-not : (n : ℕ) (from : ℤ) {at : Point} {all : Bool} → 1 ≤ n → at ≡ stands from → copies_lie lies stands step n from ≡ all → lies at ≡ false → all ≡ false
  unfolding copies_lie
  copies-lie-not zero from some at_is so_far outside = absurd (omega (arith, some))
  copies-lie-not (suc left) from some at_is so_far outside =
      sym so_far ∙ ap (λ (b : Bool). b && copies_lie lies stands step left (from +ℤ pos step)) (sym (ap lies at_is) ∙ outside)

  -- where none is left, all do
  pub copies-lie-end : (n : ℕ) (from : ℤ) {all : Bool} → n ≤ 0 → copies_lie lies stands step n from ≡ all → all ≡ true
  unfolding copies_lie
  copies-lie-end zero from none so_far = sym so_far
  copies-lie-end (suc left) from none so_far = absurd (omega (arith, none))

-- The commands, at one copy.
module _ (direction : Direction) (put : Point → Pen → List ℕ × Pen) (stands : ℤ → Point) (step : ℕ) where
  -- a copy there and the pen behind it, and the others from a pen on
  abbrev made_at : Point → Output → Cursor → List ℕ × Pen
  made_at at before cursor = copy_commands direction (pen_at before.fonts cursor) (cursor_at at) (put at (pen_at before.fonts (cursor_at at)))

  abbrev others : ℕ → ℤ → Pen → List ℕ × Pen
  others left from pen = copied direction put stands step left from pen

  first-is : (left : ℕ) (from : ℤ) (cursor : Cursor) (before : Output) {n : ℕ} → n ≡ suc left
      → others n from (pen_at before.fonts cursor)
      ≡ ((made_at (stands from) before cursor).0 ++ (others left (from +ℤ pos step) (made_at (stands from) before cursor).1).0, (others left (from +ℤ pos step) (made_at (stands from) before cursor).1).1)
  unfolding copied
  first-is left from cursor before more = ap (λ (k : ℕ). others k from (pen_at before.fonts cursor)) more

  -- the copy that is made is the one that stands there
  there : (from : ℤ) (cursor : Cursor) (before after : Output) {at : Point} → at ≡ stands from → IsWritten before after (made_at at before cursor) → IsWritten before after (made_at (stands from) before cursor)
  there from cursor before after at_is written = subst (λ (p : Point). IsWritten before after (made_at p before cursor)) at_is written

  rest-is : (left : ℕ) (from : ℤ) (cursor next_cursor : Cursor) (before after : Output) {next : ℤ} → next ≡ from +ℤ pos step
      → IsWritten before after (made_at (stands from) before cursor) → next_cursor ≡ cursor_at (stands from)
      → others left next (pen_at after.fonts next_cursor) ≡ others left (from +ℤ pos step) (made_at (stands from) before cursor).1
  rest-is left from cursor next_cursor before after next_is written moved = λ j. others left (next_is j) (pen_at (written.fonts j) (moved j))

  pub copy-on : (left : ℕ) (from : ℤ) (cursor next_cursor : Cursor) (before after : Output) {n : ℕ} {next : ℤ} {at : Point} {all : List ℕ × Pen} → n ≡ suc left → next ≡ from +ℤ pos step → at ≡ stands from
      → Joins before all (others n from (pen_at before.fonts cursor))
      → IsWritten before after (made_at at before cursor)
      → next_cursor ≡ cursor_at at
      → Joins after all (others left next (pen_at after.fonts next_cursor))
  copy-on left from cursor next_cursor before after {n} {next} {at} {all} more next_is at_is so_far put_there moved =
      let made : List ℕ × Pen = made_at (stands from) before cursor in
      let written : IsWritten before after made = there from cursor before after at_is put_there in
      let here_is : others n from (pen_at before.fonts cursor) ≡ (made.0 ++ (others left (from +ℤ pos step) made.1).0, (others left (from +ℤ pos step) made.1).1) = first-is left from cursor before more in
      let behind_is : others left next (pen_at after.fonts next_cursor) ≡ others left (from +ℤ pos step) made.1
      = rest-is left from cursor next_cursor before after next_is written (moved ∙ ap cursor_at at_is) in
      record {
        bytes = so_far.bytes ∙ ap (λ (w : List ℕ × Pen). before.body.items ++ w.0) here_is
            ∙ sym (append_assoc before.body.items made.0 (others left (from +ℤ pos step) made.1).0)
            ∙ (λ j. sym written.bytes j ++ (sym behind_is j).0);
        fonts = so_far.fonts ∙ ap (λ (w : List ℕ × Pen). w.1.fonts) here_is ∙ ap (λ (w : List ℕ × Pen). w.1.fonts) (sym behind_is);
      }

  pub copies-at : (left : ℕ) (from : ℤ) (cursor next_cursor : Cursor) (before after : Output) {n : ℕ} {next : ℤ} {at : Point} → n ≡ suc left → next ≡ from +ℤ pos step → at ≡ stands from
      → IsWritten before after (made_at at before cursor)
      → next_cursor ≡ cursor_at at
      → (others left next (pen_at after.fonts next_cursor)).1.at ≡ (others n from (pen_at before.fonts cursor)).1.at
  copies-at left from cursor next_cursor before after {n} {next} {at} more next_is at_is put_there moved =
      ap (λ (w : List ℕ × Pen). w.1.at) (rest-is left from cursor next_cursor before after next_is (there from cursor before after at_is put_there) (moved ∙ ap cursor_at at_is))
      ∙ ap (λ (w : List ℕ × Pen). w.1.at) (sym (first-is left from cursor before more))

  -- where none is left, all are put, and the cursor is behind them
  pub copies-end : (n : ℕ) (from : ℤ) (cursor : Cursor) (start here : Output) {all : List ℕ × Pen} → n ≤ 0
      → Joins here (all_of start all) (others n from (pen_at here.fonts cursor))
      → IsWritten start here all
  unfolding copied
  copies-end zero from cursor start here none so_far = record {
    bytes = sym (so_far.bytes ∙ append-nil here.body.items);
    fonts = sym so_far.fonts;
  }
  copies-end (suc left) from cursor start here none so_far = absurd (omega (arith, none))

  pub copies-there : (n : ℕ) (from : ℤ) (cursor : Cursor) (here : Output) {behind : Cursor} → n ≤ 0 → (others n from (pen_at here.fonts cursor)).1.at ≡ behind → cursor ≡ behind
  unfolding copied
  copies-there zero from cursor here none at = at
  copies-there (suc left) from cursor here none at = absurd (omega (arith, none))

-- Leaders of a box that isn't entered: they lie on the page, and have no commands.
module _ (frame : Frame) (span : Span) (head : LeadersHead) (b : PackedBox) {inner : PackedBox}
    (inner_is : inner ≡ b) (entered_is : false ≡ is_entered (items_of inner.list)) where
  is_out : is_entered (items_of b.list) ≡ false
  is_out = ap (λ (x : PackedBox). is_entered (items_of x.list)) (sym inner_is) ∙ sym entered_is

  abbrev no_copies : Copies
  no_copies = copies_from frame span head.kind b.head

  pub passed-lies : item_lies frame span (leaders_item head b) ≡ true
  unfolding list_lies
  passed-lies = ap (λ (told : Bool). not told || copies_lie (copy_lies b) (copy_at frame b.head) no_copies.step no_copies.count (first_copy span no_copies)) is_out

  no-commands : (fonts : List FontState) (pen : Pen) → item_commands fonts frame span pen (leaders_item head b) ≡ ([], pen)
  unfolding list_commands
  no-commands fonts pen =
      ap (λ (told : Bool). cond {A = List ℕ × Pen} told (copied frame.head.direction (inside fonts b) (copy_at frame b.head) no_copies.step no_copies.count (first_copy span no_copies) pen) ([], pen)) is_out

  pub passed-written : (fonts : List FontState) (output : Output) (cursor : Cursor) → IsWritten output output (item_commands fonts frame span (pen_at output.fonts cursor) (leaders_item head b))
  passed-written fonts output cursor =
      subst (λ (w : List ℕ × Pen). IsWritten output output w) (sym (no-commands fonts (pen_at output.fonts cursor))) (record { bytes = sym (append-nil output.body.items); fonts = refl })

  pub passed-at : (fonts : List FontState) (pen : Pen) → pen.at ≡ (item_commands fonts frame span pen (leaders_item head b)).1.at
  passed-at fonts pen = ap (λ (w : List ℕ × Pen). w.1.at) (sym (no-commands fonts pen))

-- The commands of a copy: the way to it, and then what its list has.
pub copy-written : (fonts : List FontState) (direction : Direction) (b : PackedBox) (at : Point) (before mid after : Output) (cursor : Cursor) {reader : Cursor} → reader ≡ cursor_at at
    → mid.body.items ≡ before.body.items ++ copy_way direction cursor reader → mid.fonts ≡ before.fonts → IsWritten mid after (framed_all (inside fonts b at (pen_at mid.fonts reader)))
    → IsWritten before after (copy_commands direction (pen_at before.fonts cursor) (cursor_at at) (inside fonts b at (pen_at before.fonts (cursor_at at))))
copy-written fonts direction b at before mid after cursor reader_is way_is fonts_are put = record {
  bytes = two-puts before.body.items (copy_way direction cursor (cursor_at at)) (framed (inside fonts b at (pen_at before.fonts (cursor_at at))).0)
      (way_is ∙ (λ i. before.body.items ++ copy_way direction cursor (reader_is i)))
      (put.bytes ∙ (λ i. mid.body.items ++ framed (inside fonts b at (pen_at (fonts_are i) (reader_is i))).0));
  fonts = put.fonts ∙ (λ i. (inside fonts b at (pen_at (fonts_are i) (reader_is i))).1.fonts);
}

-- Leaders of a box that is entered, by their copies.
module _ (frame : Frame) (span : Span) (head : LeadersHead) (b : PackedBox) {inner : PackedBox} {copies : Copies} {first : ℤ}
    (inner_is : inner ≡ b) (entered_is : true ≡ is_entered (items_of inner.list))
    (copies_are : copies ≡ copies_from frame span head.kind b.head) (first_is : first ≡ first_copy span copies) where
  is_in : is_entered (items_of b.list) ≡ true
  is_in = ap (λ (x : PackedBox). is_entered (items_of x.list)) (sym inner_is) ∙ sym entered_is

  abbrev all_copies : Copies
  all_copies = copies_from frame span head.kind b.head

  first_as : first ≡ first_copy span all_copies
  first_as = first_is ∙ ap (first_copy span) copies_are

  pub leaders-lie : copies_lie (copy_lies inner) (copy_at frame inner.head) copies.step copies.count first ≡ item_lies frame span (leaders_item head b)
  unfolding list_lies
  leaders-lie =
      (λ i. copies_lie (copy_lies (inner_is i)) (copy_at frame (inner_is i).head) (copies_are i).step (copies_are i).count (first_as i))
      ∙ ap (λ (told : Bool). not told || copies_lie (copy_lies b) (copy_at frame b.head) all_copies.step all_copies.count (first_copy span all_copies)) (sym is_in)

  pub commands-are : (fonts : List FontState) (pen : Pen)
      → copied frame.head.direction (inside fonts inner) (copy_at frame inner.head) copies.step copies.count first pen ≡ item_commands fonts frame span pen (leaders_item head b)
  unfolding list_commands
  commands-are fonts pen =
      (λ i. copied frame.head.direction (inside fonts (inner_is i)) (copy_at frame (inner_is i).head) (copies_are i).step (copies_are i).count (first_as i) pen)
      ∙ ap (λ (told : Bool). cond {A = List ℕ × Pen} told (copied frame.head.direction (inside fonts b) (copy_at frame b.head) all_copies.step all_copies.count (first_copy span all_copies) pen) ([], pen)) (sym is_in)
