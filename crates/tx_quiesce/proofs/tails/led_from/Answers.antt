use Rattle.std.proofs.Common.{Some, ap, sym, subst, ◌∙◌}
use Rattle.std.specs.Str.{bytes_eq}
use Rattle.tx_files.specs.declared.edit.Change.{Change}
use Rattle.tx_quiesce.specs.Tails.{IsLedFrom}
use Rattle.tx_quiesce.proofs.Origins.{led-edit, led-other, led-kept}
use Rattle.tx_quiesce.proofs.tails.led_from.Goals as goal

pub returns-then-eq : goal.returns-then-eq
returns-then-eq c =
    subst (λ (change : Change). IsLedFrom change c.args.name.now c.args.here c.moved_from.result) (sym c.in-Edit.is)
    (led-edit c.in-Edit.e c.args.name.now c.args.here c.moved_from.result (sym (c.eq.ensures ∙ ap (bytes_eq c.args.name.now) c.as_slice.ensures.bytes) ∙ c.if-eq.true) c.moved_from.ensures)

pub returns-else-eq : goal.returns-else-eq
returns-else-eq c =
    subst (λ (change : Change). IsLedFrom change c.args.name.now c.args.here (Some c.args.here)) (sym c.in-Edit.is)
    (led-other c.in-Edit.e c.args.name.now c.args.here (sym (c.eq.ensures ∙ ap (bytes_eq c.args.name.now) c.as_slice.ensures.bytes) ∙ c.if-eq.false))

pub returns-in-Remove : goal.returns-in-Remove
returns-in-Remove c = subst (λ (change : Change). IsLedFrom change c.args.name.now c.args.here (Some c.args.here)) (sym c.in-Remove.is) (led-kept _ c.args.name.now c.args.here)
