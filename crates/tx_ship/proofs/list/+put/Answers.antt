use Rattle.std.proofs.Common.{◌≡◌, ℕ, suc, ◌-◌, ◌<◌, ℤ, ◌+ℤ◌, pos, Bool, true, false, not, ◌&&◌, ◌||◌, List, ◌++◌, refl, ◌∙◌, sym, ap, arith, subst, IfErr, to_z, of_z}
use Rattle.std.specs.Prelude.{IfOk, OnOk}
use Rattle.std.proofs.lemmas.List.{append-nil}
use Rattle.std.specs.Int.{w128}
use Rattle.std.proofs.lemmas.Int.{ints}
use Rattle.tx_node.specs.declared.node.BoxLeaders.{BoxLeaders}
use Rattle.tx_node.specs.Items.{Item, PackedBox, items_of, leaders_item}
use Rattle.tx_node.specs.Nodes.{item_of, list_of}
use Rattle.tx_node.specs.Setting.{begun, reach_of, sums_fit}
use Rattle.std.proofs.Common.{drop, ◌+◌}
use Rattle.tx_ship.specs.declared.places.Point.{Point}
use Rattle.tx_ship.specs.declared.places.Cursor.{Cursor}
use Rattle.tx_ship.specs.declared.output.Output.{Output}
use Rattle.tx_tfm.specs.declared.state.FontState.{FontState}
use Rattle.tx_node.specs.declared.head.Direction.{Direction}
use Rattle.tx_ship.specs.Written.{IsWritten}
use Rattle.tx_ship.specs.Commands.{Pen, pen_at, cursor_at, is_entered, approach, approached, framed, framed_all, entering, inside, box_item, box_commands, copied, list_commands, item_commands}
use Rattle.tx_ship.specs.Standing.{copy_at, place, next, reference, shifted}
use Rattle.tx_ship.specs.Within.{IsReader, IsOutside, head_lies, box_lies, inside_lies, copies_lie, copy_lies, list_lies, item_lies}
use Rattle.tx_node.proofs.Measures.{node_measure, list_measure, leaders_measure, box_measure, framed_measure, to-item, to-list}
use Rattle.tx_node.proofs.Reaches as reaches
use Rattle.tx_ship.proofs.Steps.{framed-close, two-puts, near-box, span-is, box-item-lies, lies-on, lies-not, lies-end, Joins, all_of, put-on, put-end, outside-on, on-err}
use Rattle.tx_ship.proofs.Copying.{copy-on, copies-at, copies-end, copies-there, copies-lie-end, copies-lie-not, copies-lie-on, commands-are, leaders-lie, passed-lies, passed-written, passed-at, copy-written}
use Rattle.tx_ship.proofs.list.+put.Goals as goal

pub put_inside-put_list-requires : goal.put_inside-put_list-requires
put_inside-put_list-requires t c = (
  subst (λ (n : ℕ). list_measure c.list.result.now < n) c.decreases (to-list c.args.inner.now c.list.result.now c.list.ensures),
  (
    c.frame_at.ensures.is_set,
    (
      (λ i. sums_fit c.frame_at.result.head.setting (pos 0) (items_of (c.list.ensures i))) ∙ c.frame_at.ensures.sums,
      (near-box c.frame_at.ensures.value c.requires.at_on_page, c.requires.on_page),
    ),
  ),
)

pub put_node-returns-in-Box-clause-outside : goal.put_node-returns-in-Box-clause-outside
put_node-returns-in-Box-clause-outside t c =
    let b : PackedBox = c.in-Box.inner.value in
    let at : Point = c.shifted_point-at.result in
    let shift_is : to_z w128 (of_z w128 c.from.result) ≡ c.in-Box.shift = omega (arith, ints, c.from.ensures, c.from.type_inv) in
    let at_is : at ≡ reference c.args.frame.head.direction c.args.frame (shifted c.args.span.from c.in-Box.shift b.head) =
    c.shifted_point-at.ensures.value ∙ (λ i. reference c.args.frame.head.direction c.args.frame (shifted c.args.span.from (shift_is i) (c.deref-in-Box.ensures i).head)) in
    subst (λ lies. IfErr c.put_box.result (λ e. IsOutside e lies))
    (ap (λ (x : PackedBox). box_lies at x.head (items_of x.list) (inside_lies x at)) c.deref-in-Box-2.ensures
    ∙ box-item-lies c.args.frame c.args.span b (ap item_of c.in-Box.is) at_is) c.put_box.ensures.outside

pub put_list-put_node-requires : goal.put_list-put_node-requires
put_list-put_node-requires t c = (
  subst (λ (n : ℕ). node_measure c.node-item.result < n) c.decreases (to-item c.args.list.now c.loop-node.node-index c.loop-node-test.true c.node-item.is),
  (c.requires.near, (record { from = c.loop-node.invariant.near; to = omega (arith, ints, c.place-to.ensures.near) }, c.loop-node.invariant.on_page)),
)

pub put_list-returns-in_err-cursor-clause-outside : goal.put_list-returns-in_err-cursor-clause-outside
put_list-returns-in_err-cursor-clause-outside t c =
    let reach = reach_of c.loop-node.reached in
    let item = item_of c.node-item.result in
    let to_is : to_z w128 (of_z w128 c.place-to.result) ≡ c.place-to.result = omega (arith, ints, c.place-to.ensures.near) in
    let span = span-is c.args.frame reach item c.loop-node.invariant.from (to_is ∙ c.place-to.ensures.value ∙ ap (place c.args.frame) c.behind-reached.ensures.value) in
    on-err c.from_residual.result c.in_err-cursor.field-0.0 (λ r. IfErr r (λ e. IsOutside e (list_lies c.args.frame begun (items_of (list_of c.args.list.now))))) c.from_residual.ensures.1
    (outside-on (lies-not c.args.list.now c.loop-node.node-index c.args.frame reach c.loop-node-test.true c.node-item.is c.loop-node.invariant.lies)
    (subst (λ s. IsOutside c.in_err-cursor.field-0.0 (item_lies c.args.frame s item)) span c.in_err-cursor.ensures.outside))

pub put_list-loop-node-preserved : goal.put_list-loop-node-preserved
put_list-loop-node-preserved t c =
    let reach = reach_of c.loop-node.reached in
    let item = item_of c.node-item.result in
    let next_is : reach_of c.behind-reached.result ≡ next c.args.frame reach item = c.behind-reached.ensures.value in
    let to_is : to_z w128 (of_z w128 c.place-to.result) ≡ c.place-to.result = omega (arith, ints, c.place-to.ensures.near) in
    let span = span-is c.args.frame reach item c.loop-node.invariant.from (to_is ∙ c.place-to.ensures.value ∙ ap (place c.args.frame) next_is) in
    let sums = reaches.sums-on c.args.list.now c.loop-node.node-index c.args.frame.head.direction c.args.frame.head.setting reach c.loop-node-test.true c.node-item.is (ap (λ r. r.sum) next_is) c.loop-node.invariant.sums in
    let rest = items_of (list_of (drop (c.loop-node.node-index + 1) c.args.list.now)) in
    record {
      sums = sums.1;
      small = sums.0;
      natural = omega (arith, c.behind-reached.ensures.near, c.loop-node.invariant.natural);
      from = to_is ∙ c.place-to.ensures.value;
      near = omega (arith, ints, c.place-to.ensures.near);
      on_page = c.in_ok-cursor.ensures.still;
      lies = ap (λ r. list_lies c.args.frame r rest) next_is
          ∙ lies-on c.args.list.now c.loop-node.node-index c.args.frame reach c.loop-node-test.true c.node-item.is c.loop-node.invariant.lies
          (ap (λ s. item_lies c.args.frame s item) (sym span) ∙ c.in_ok-cursor.ensures.lies);
      commands = subst (λ r. Joins c.put_node.new.output (all_of c.args.output.now (list_commands c.args.fonts.now c.args.frame begun (pen_at c.args.output.now.fonts c.args.start) (items_of (list_of c.args.list.now))))
          (list_commands c.args.fonts.now c.args.frame r (pen_at c.put_node.new.output.fonts c.in_ok-cursor.cursor) rest)) (sym next_is)
          (put-on c.args.list.now c.loop-node.node-index c.args.frame reach c.loop-node-test.true c.node-item.is c.args.fonts.now c.loop-node.cursor c.in_ok-cursor.cursor c.loop-node.output c.put_node.new.output
          c.loop-node.invariant.commands
          (subst (λ s. IsWritten c.loop-node.output c.put_node.new.output (item_commands c.args.fonts.now c.args.frame s (pen_at c.loop-node.output.fonts c.loop-node.cursor) item)) span c.in_ok-cursor.ensures.written)
          (c.in_ok-cursor.ensures.next ∙ (λ i. (item_commands c.args.fonts.now c.args.frame (span i) (pen_at c.loop-node.output.fonts c.loop-node.cursor) item).1.at)));
    }

pub put_list-returns-clause-lies : goal.put_list-returns-clause-lies
put_list-returns-clause-lies t c =
    lies-end c.args.list.now c.loop-node.node-index c.args.frame (reach_of c.loop-node.reached) (omega (arith, c.loop-node-test.false)) c.loop-node.invariant.lies

pub put_list-returns-clause-written : goal.put_list-returns-clause-written
put_list-returns-clause-written t c =
    put-end c.args.fonts.now c.args.list.now c.loop-node.node-index c.args.frame (reach_of c.loop-node.reached) c.loop-node.cursor c.args.output.now c.loop-node.output (omega (arith, c.loop-node-test.false)) c.loop-node.invariant.commands

-- a box that isn't entered, and one that is: the way to its baseline, and then what its list has
module _ (fonts : List FontState) (direction : Direction) (at : Point) (b : PackedBox) (before : Output) (cursor : Cursor) where
  abbrev made : Pen → List ℕ × Pen
  made = inside fonts b at

  abbrev by_entry : Bool → List ℕ × Pen
  by_entry entered = box_item direction (pen_at before.fonts cursor) (cursor_at at) entered (made (entering direction (pen_at before.fonts cursor) (cursor_at at)))

  passed-over : false ≡ is_entered (items_of b.list) → IsWritten before before (box_commands fonts direction (pen_at before.fonts cursor) at b)
  passed-over e = subst (λ (t : Bool). IsWritten before before (by_entry t)) e (record { bytes = sym (append-nil before.body.items); fonts = refl })

  entered-too : (mid after : Output) (reader : Cursor) → true ≡ is_entered (items_of b.list) → reader ≡ approached direction cursor (cursor_at at)
      → mid.body.items ≡ before.body.items ++ approach direction cursor (cursor_at at) → mid.fonts ≡ before.fonts → IsWritten mid after (framed_all (made (pen_at mid.fonts reader)))
      → IsWritten before after (box_commands fonts direction (pen_at before.fonts cursor) at b)
  entered-too mid after reader e reader_is approach_is fonts_are put =
      let pen_is : pen_at mid.fonts reader ≡ entering direction (pen_at before.fonts cursor) (cursor_at at) = λ i. pen_at (fonts_are i) (reader_is i) in
      subst (λ (t : Bool). IsWritten before after (by_entry t)) e
      (record {
        bytes = two-puts before.body.items (approach direction cursor (cursor_at at)) (framed (made (entering direction (pen_at before.fonts cursor) (cursor_at at))).0) approach_is
            (put.bytes ∙ (λ i. mid.body.items ++ framed (made (pen_is i)).0));
        fonts = put.fonts ∙ (λ i. (made (pen_is i)).1.fonts);
      })

pub put_box-returns-then-not-is_entered-clause-lies : goal.put_box-returns-then-not-is_entered-clause-lies
put_box-returns-then-not-is_entered-clause-lies t c =
    ap (λ (entered : Bool). not entered || (head_lies c.args.at c.args.inner.now.head && inside_lies c.args.inner.now c.args.at)) (sym c.if-not-is_entered.ensures)

pub put_box-returns-then-not-is_entered-clause-written : goal.put_box-returns-then-not-is_entered-clause-written
put_box-returns-then-not-is_entered-clause-written t c = passed-over c.args.fonts.now c.args.direction c.args.at c.args.inner.now c.args.output.now c.args.cursor c.if-not-is_entered.ensures

pub put_box-returns-then-not-is_entered-clause-next : goal.put_box-returns-then-not-is_entered-clause-next
put_box-returns-then-not-is_entered-clause-next t c =
    ap (λ (entered : Bool). (by_entry c.args.fonts.now c.args.direction c.args.at c.args.inner.now c.args.output.now c.args.cursor entered).1.at) c.if-not-is_entered.ensures

pub put_box-returns-clause-lies : goal.put_box-returns-clause-lies
put_box-returns-clause-lies t c =
    (λ i. not (sym c.if-not-is_entered.ensures i) || (sym c.if-not-box_lies.ensures.value i && c.in_ok-put_framed.ensures.lies i))

pub put_box-returns-clause-written : goal.put_box-returns-clause-written
put_box-returns-clause-written t c =
    entered-too c.args.fonts.now c.args.direction c.args.at c.args.inner.now c.args.output.now c.args.cursor (record c.args.output.now { body = c.approach.new.body }) c.put_framed.new.output c.in_ok-reader.reader
    c.if-not-is_entered.ensures (c.in_ok-reader.ensures.next ∙ ap (approached c.args.direction c.args.cursor) c.cursor_at.ensures)
    (c.in_ok-reader.ensures.commands ∙ ap (λ (k : Cursor). c.args.output.now.body.items ++ approach c.args.direction c.args.cursor k) c.cursor_at.ensures) refl c.in_ok-put_framed.ensures.written

pub put_box-returns-clause-next : goal.put_box-returns-clause-next
put_box-returns-clause-next t c =
    c.in_ok-reader.ensures.next ∙ ap (approached c.args.direction c.args.cursor) c.cursor_at.ensures
    ∙ ap (λ (entered : Bool). (by_entry c.args.fonts.now c.args.direction c.args.at c.args.inner.now c.args.output.now c.args.cursor entered).1.at) c.if-not-is_entered.ensures

pub put_framed-returns-clause-written : goal.put_framed-returns-clause-written
put_framed-returns-clause-written t c = record {
  bytes = framed-close c.args.output.now.body.items (inside c.args.fonts.now c.args.inner.now c.args.at (pen_at c.args.output.now.fonts c.args.cursor)).0 c.in_ok-start.ensures.push c.in_ok-start.ensures.start
      c.in_ok-put_inside.ensures.written.bytes c.in_ok-close.ensures;
  fonts = c.in_ok-put_inside.ensures.written.fonts;
}

pub put_box-cursor_at-requires : goal.put_box-cursor_at-requires
put_box-cursor_at-requires t c = c.if-not-box_lies.ensures.facts refl

pub put_box-approach-requires-clause-to : goal.put_box-approach-requires-clause-to
put_box-approach-requires-clause-to t c = subst IsReader (sym c.cursor_at.ensures) (c.if-not-box_lies.ensures.facts refl)

pub put_box-put_framed-requires : goal.put_box-put_framed-requires
put_box-put_framed-requires t c =
    (subst (λ (n : ℕ). framed_measure c.args.inner.now < n) c.decreases (omega arith), (c.if-not-box_lies.ensures.facts refl, c.in_ok-reader.ensures.on_page))

pub put_copy-cursor_at-reader-requires : goal.put_copy-cursor_at-reader-requires
put_copy-cursor_at-reader-requires t c = c.if-not-box_lies.ensures.facts refl

pub put_copy-move_to_copy-requires-clause-to : goal.put_copy-move_to_copy-requires-clause-to
put_copy-move_to_copy-requires-clause-to t c = subst IsReader (sym c.cursor_at-reader.ensures) (c.if-not-box_lies.ensures.facts refl)

pub put_copy-put_framed-requires : goal.put_copy-put_framed-requires
put_copy-put_framed-requires t c = (
  subst (λ (n : ℕ). framed_measure c.args.inner.now < n) c.decreases (omega arith),
  (c.if-not-box_lies.ensures.facts refl, subst IsReader (sym c.cursor_at-reader.ensures) (c.if-not-box_lies.ensures.facts refl)),
)

pub put_copy-returns-clause-lies : goal.put_copy-returns-clause-lies
put_copy-returns-clause-lies t c = λ i. sym c.if-not-box_lies.ensures.value i && c.in_ok-put_framed.ensures.lies i

pub put_copy-returns-clause-written : goal.put_copy-returns-clause-written
put_copy-returns-clause-written t c =
    copy-written c.args.fonts.now c.args.direction c.args.inner.now c.args.at c.args.output.now (record c.args.output.now { body = c.move_to_copy.new.body }) c.put_framed.new.output c.args.cursor
    c.cursor_at-reader.ensures c.in_ok-move_to_copy.ensures refl c.in_ok-put_framed.ensures.written

pub put_copy-returns-clause-still : goal.put_copy-returns-clause-still
put_copy-returns-clause-still t c = subst IsReader (sym c.cursor_at-reader.ensures) (c.if-not-box_lies.ensures.facts refl)

pub put_copies-next_copy-from-requires-clause-from : goal.put_copies-next_copy-from-requires-clause-from
put_copies-next_copy-from-requires-clause-from t c = c.copy_at-at.ensures.on_page (subst IsReader c.in_ok-cursor.ensures.next c.in_ok-cursor.ensures.still)

pub put_copies-returns-in_err-cursor-clause-outside : goal.put_copies-returns-in_err-cursor-clause-outside
put_copies-returns-in_err-cursor-clause-outside t c =
    let first_is : to_z w128 (of_z w128 c.args.first) ≡ c.args.first = omega (arith, ints, c.requires.first) in
    let lie = copies_lie (copy_lies c.args.inner.now) (copy_at c.args.frame c.args.inner.now.head) c.args.copies.step c.args.copies.count in
    on-err c.from_residual.result c.in_err-cursor.field-0.0 (λ r. IfErr r (λ e. IsOutside e (lie c.args.first))) c.from_residual.ensures.1
    (outside-on
    (λ out. sym (ap lie first_is)
    ∙ copies-lie-not (copy_lies c.args.inner.now) (copy_at c.args.frame c.args.inner.now.head) c.args.copies.step c.loop-left.left (to_z w128 c.loop-left.from-bits) (omega (arith, c.loop-left-test.true)) c.copy_at-at.ensures.value
    c.loop-left.invariant.lies out)
    c.in_err-cursor.ensures.outside)

pub put_copies-loop-left-preserved : goal.put_copies-loop-left-preserved
put_copies-loop-left-preserved t c =
    let direction = c.args.frame.head.direction in
    let stands = copy_at c.args.frame c.args.inner.now.head in
    let put = inside c.args.fonts.now c.args.inner.now in
    let from : ℤ = to_z w128 c.loop-left.from-bits in
    let left : ℕ = c.loop-left.left - 1 in
    let more : c.loop-left.left ≡ suc left = omega (arith, c.loop-left-test.true) in
    let next_is : to_z w128 (of_z w128 c.next_copy-from.result) ≡ from +ℤ pos c.args.copies.step = omega (arith, ints, c.next_copy-from.ensures.value, c.next_copy-from.ensures.near) in
    record {
      near = omega (arith, ints, c.next_copy-from.ensures.near);
      on_page = c.in_ok-cursor.ensures.still;
      lies = copies-lie-on (copy_lies c.args.inner.now) stands c.args.copies.step left from more next_is c.copy_at-at.ensures.value c.loop-left.invariant.lies c.in_ok-cursor.ensures.lies;
      commands = copy-on direction put stands c.args.copies.step left from c.loop-left.cursor c.in_ok-cursor.cursor c.loop-left.output c.put_copy.new.output more next_is c.copy_at-at.ensures.value
          c.loop-left.invariant.commands c.in_ok-cursor.ensures.written c.in_ok-cursor.ensures.next;
      at = copies-at direction put stands c.args.copies.step left from c.loop-left.cursor c.in_ok-cursor.cursor c.loop-left.output c.put_copy.new.output more next_is c.copy_at-at.ensures.value
          c.in_ok-cursor.ensures.written c.in_ok-cursor.ensures.next ∙ c.loop-left.invariant.at;
    }

pub put_copies-returns-clause-lies : goal.put_copies-returns-clause-lies
put_copies-returns-clause-lies t c =
    let first_is : to_z w128 (of_z w128 c.args.first) ≡ c.args.first = omega (arith, ints, c.requires.first) in
    sym (ap (copies_lie (copy_lies c.args.inner.now) (copy_at c.args.frame c.args.inner.now.head) c.args.copies.step c.args.copies.count) first_is)
    ∙ copies-lie-end (copy_lies c.args.inner.now) (copy_at c.args.frame c.args.inner.now.head) c.args.copies.step c.loop-left.left (to_z w128 c.loop-left.from-bits) (omega (arith, c.loop-left-test.false)) c.loop-left.invariant.lies

pub put_copies-returns-clause-written : goal.put_copies-returns-clause-written
put_copies-returns-clause-written t c =
    let first_is : to_z w128 (of_z w128 c.args.first) ≡ c.args.first = omega (arith, ints, c.requires.first) in
    let all = λ (from : ℤ). copied c.args.frame.head.direction (inside c.args.fonts.now c.args.inner.now) (copy_at c.args.frame c.args.inner.now.head) c.args.copies.step c.args.copies.count from (pen_at c.args.output.now.fonts c.args.start) in
    subst (λ (from : ℤ). IsWritten c.args.output.now c.loop-left.output (all from)) first_is
    (copies-end c.args.frame.head.direction (inside c.args.fonts.now c.args.inner.now) (copy_at c.args.frame c.args.inner.now.head) c.args.copies.step c.loop-left.left (to_z w128 c.loop-left.from-bits) c.loop-left.cursor c.args.output.now
    c.loop-left.output {all = all (to_z w128 (of_z w128 c.args.first))} (omega (arith, c.loop-left-test.false)) c.loop-left.invariant.commands)

pub put_copies-returns-clause-next : goal.put_copies-returns-clause-next
put_copies-returns-clause-next t c =
    let first_is : to_z w128 (of_z w128 c.args.first) ≡ c.args.first = omega (arith, ints, c.requires.first) in
    copies-there c.args.frame.head.direction (inside c.args.fonts.now c.args.inner.now) (copy_at c.args.frame c.args.inner.now.head) c.args.copies.step c.loop-left.left (to_z w128 c.loop-left.from-bits) c.loop-left.cursor
    c.loop-left.output (omega (arith, c.loop-left-test.false)) c.loop-left.invariant.at
    ∙ ap (λ (from : ℤ).
    (copied c.args.frame.head.direction (inside c.args.fonts.now c.args.inner.now) (copy_at c.args.frame c.args.inner.now.head) c.args.copies.step c.args.copies.count from (pen_at c.args.output.now.fonts c.args.start)).1.at) first_is

pub put_leaders-returns-then-not-is_entered-clause-lies : goal.put_leaders-returns-then-not-is_entered-clause-lies
put_leaders-returns-then-not-is_entered-clause-lies t c = passed-lies c.args.frame c.args.span c.args.leaders.now.head c.args.leaders.now.inner c.inner-inner.ensures c.if-not-is_entered.ensures

pub put_leaders-returns-then-not-is_entered-clause-written : goal.put_leaders-returns-then-not-is_entered-clause-written
put_leaders-returns-then-not-is_entered-clause-written t c =
    passed-written c.args.frame c.args.span c.args.leaders.now.head c.args.leaders.now.inner c.inner-inner.ensures c.if-not-is_entered.ensures c.args.fonts.now c.args.output.now c.args.cursor

pub put_leaders-returns-then-not-is_entered-clause-next : goal.put_leaders-returns-then-not-is_entered-clause-next
put_leaders-returns-then-not-is_entered-clause-next t c =
    passed-at c.args.frame c.args.span c.args.leaders.now.head c.args.leaders.now.inner c.inner-inner.ensures c.if-not-is_entered.ensures c.args.fonts.now (pen_at c.args.output.now.fonts c.args.cursor)

pub put_leaders-put_copies-requires : goal.put_leaders-put_copies-requires
put_leaders-put_copies-requires t c = (
  subst (λ (n : ℕ). box_measure c.inner-inner.result.now + 1 < n) c.decreases (subst (λ (b : PackedBox). box_measure b + 1 < leaders_measure c.args.leaders.now + 1) (sym c.inner-inner.ensures) (omega arith)),
  (c.requires.near, (c.copies_from-copies.ensures.step, (omega (arith, ints, c.first_copy.ensures.near), c.requires.on_page))),
)

pub put_leaders-returns-clause-written : goal.put_leaders-returns-clause-written
put_leaders-returns-clause-written t c =
    let first_is : to_z w128 (of_z w128 c.first_copy.result) ≡ c.first_copy.result = omega (arith, ints, c.first_copy.ensures.near) in
    subst (λ (w : List ℕ × Pen). OnOk c.put_copies.result (IsWritten c.args.output.now c.put_copies.new.output w))
    (commands-are c.args.frame c.args.span c.args.leaders.now.head c.args.leaders.now.inner c.inner-inner.ensures c.if-not-is_entered.ensures c.copies_from-copies.ensures.value (first_is ∙ c.first_copy.ensures.value)
    c.args.fonts.now (pen_at c.args.output.now.fonts c.args.cursor))
    c.put_copies.ensures.written

pub put_leaders-returns-clause-next : goal.put_leaders-returns-clause-next
put_leaders-returns-clause-next t c =
    let first_is : to_z w128 (of_z w128 c.first_copy.result) ≡ c.first_copy.result = omega (arith, ints, c.first_copy.ensures.near) in
    subst (λ (w : List ℕ × Pen). IfOk c.put_copies.result (λ next. next ≡ w.1.at))
    (commands-are c.args.frame c.args.span c.args.leaders.now.head c.args.leaders.now.inner c.inner-inner.ensures c.if-not-is_entered.ensures c.copies_from-copies.ensures.value (first_is ∙ c.first_copy.ensures.value)
    c.args.fonts.now (pen_at c.args.output.now.fonts c.args.cursor))
    c.put_copies.ensures.next

pub put_leaders-returns-clause-lies : goal.put_leaders-returns-clause-lies
put_leaders-returns-clause-lies t c =
    let first_is : to_z w128 (of_z w128 c.first_copy.result) ≡ c.first_copy.result = omega (arith, ints, c.first_copy.ensures.near) in
    subst (λ (b : Bool). OnOk c.put_copies.result (b ≡ true))
    (leaders-lie c.args.frame c.args.span c.args.leaders.now.head c.args.leaders.now.inner c.inner-inner.ensures c.if-not-is_entered.ensures c.copies_from-copies.ensures.value (first_is ∙ c.first_copy.ensures.value))
    c.put_copies.ensures.lies

pub put_leaders-returns-clause-outside : goal.put_leaders-returns-clause-outside
put_leaders-returns-clause-outside t c =
    let first_is : to_z w128 (of_z w128 c.first_copy.result) ≡ c.first_copy.result = omega (arith, ints, c.first_copy.ensures.near) in
    subst (λ (b : Bool). IfErr c.put_copies.result (λ e. IsOutside e b))
    (leaders-lie c.args.frame c.args.span c.args.leaders.now.head c.args.leaders.now.inner c.inner-inner.ensures c.if-not-is_entered.ensures c.copies_from-copies.ensures.value (first_is ∙ c.first_copy.ensures.value))
    c.put_copies.ensures.outside

-- leaders of a box that were lent, as an item of their list
leaders-are : {x : Item} (held : BoxLeaders) {lent : BoxLeaders} → x ≡ leaders_item held.head held.inner → lent ≡ held → leaders_item lent.head lent.inner ≡ x
leaders-are held is lent_is = ap (λ (l : BoxLeaders). leaders_item l.head l.inner) lent_is ∙ sym is

pub put_node-returns-in-BoxLeaders-clause-lies : goal.put_node-returns-in-BoxLeaders-clause-lies
put_node-returns-in-BoxLeaders-clause-lies t c =
    subst (λ (x : Item). OnOk c.put_leaders.result (item_lies c.args.frame c.args.span x ≡ true))
    (leaders-are c.in-BoxLeaders.leaders.value (ap item_of c.in-BoxLeaders.is) c.deref-in-BoxLeaders.ensures) c.put_leaders.ensures.lies

pub put_node-returns-in-BoxLeaders-clause-outside : goal.put_node-returns-in-BoxLeaders-clause-outside
put_node-returns-in-BoxLeaders-clause-outside t c =
    subst (λ (x : Item). IfErr c.put_leaders.result (λ e. IsOutside e (item_lies c.args.frame c.args.span x)))
    (leaders-are c.in-BoxLeaders.leaders.value (ap item_of c.in-BoxLeaders.is) c.deref-in-BoxLeaders.ensures) c.put_leaders.ensures.outside

pub put_node-returns-in-BoxLeaders-clause-written : goal.put_node-returns-in-BoxLeaders-clause-written
put_node-returns-in-BoxLeaders-clause-written t c =
    subst (λ (x : Item). OnOk c.put_leaders.result (IsWritten c.args.output.now c.put_leaders.new.output (item_commands c.args.fonts.now c.args.frame c.args.span (pen_at c.args.output.now.fonts c.args.cursor) x)))
    (leaders-are c.in-BoxLeaders.leaders.value (ap item_of c.in-BoxLeaders.is) c.deref-in-BoxLeaders.ensures) c.put_leaders.ensures.written

pub put_node-returns-in-BoxLeaders-clause-next : goal.put_node-returns-in-BoxLeaders-clause-next
put_node-returns-in-BoxLeaders-clause-next t c =
    subst (λ (x : Item). IfOk c.put_leaders.result (λ next. next ≡ (item_commands c.args.fonts.now c.args.frame c.args.span (pen_at c.args.output.now.fonts c.args.cursor) x).1.at))
    (leaders-are c.in-BoxLeaders.leaders.value (ap item_of c.in-BoxLeaders.is) c.deref-in-BoxLeaders.ensures) c.put_leaders.ensures.next
