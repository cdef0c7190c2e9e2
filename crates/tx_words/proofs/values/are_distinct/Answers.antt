use Rattle.std.proofs.Common.{◌≡◌, ◌∙◌, true, false, drop, sym, ap}
use Rattle.tx_words.specs.Values.{is_first_repeated}
use Rattle.tx_words.proofs.Rows.{repeated, single}
use Rattle.tx_words.proofs.values.are_distinct.Goals as goal

pub returns-then-is_first_repeated : goal.returns-then-is_first_repeated
returns-then-is_first_repeated c =
    let some : is_first_repeated (drop c.loop-i.i c.args.names.now) ≡ true = ap is_first_repeated (sym c.names_from.ensures) ∙ sym c.is_first_repeated.ensures ∙ c.if-is_first_repeated.true in
    sym (sym c.loop-i.invariant ∙ repeated (drop c.loop-i.i c.args.names.now) some)

pub loop-i-preserved : goal.loop-i-preserved
loop-i-preserved c =
    let none : is_first_repeated (drop c.loop-i.i c.args.names.now) ≡ false = ap is_first_repeated (sym c.names_from.ensures) ∙ sym c.is_first_repeated.ensures ∙ c.if-is_first_repeated.false in
    sym (single c.args.names.now c.loop-i.i c.loop-i-test.true none) ∙ c.loop-i.invariant
