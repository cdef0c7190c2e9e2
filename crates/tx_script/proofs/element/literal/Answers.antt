use Rattle.std.proofs.Common.{◌<◌, length, drop, sym, ◌∙◌, arith}
use Rattle.std.proofs.lemmas.List.{length-drop}
use Rattle.tx_script.proofs.Literals.{literal_at-end}
use Rattle.tx_script.proofs.element.literal.Goals as goal

pub returns-in-empty : goal.returns-in-empty
returns-in-empty c =
    let left : 0 < length (drop c.loop-wanted.wanted-index c.args.text.now) = omega (arith, length-drop c.loop-wanted.wanted-index c.args.text.now) in
    let ends = literal_at-end c.args.rule (drop c.loop-wanted.wanted-index c.args.text.now) c.loop-wanted.rest.now left (omega arith) in
    rw c.stop.ensures (sym c.loop-wanted.invariant ∙ ends)
