use Rattle.std.proofs.Common.{◌≡◌, ◌<◌, ◌∙◌, suc, ◌+◌, length, sym, ap, arith}
use Rattle.tx_linebreak.specs.Breaks.{behind, context_from, outset}
use Rattle.tx_linebreak.proofs.Advancing.{context-here, context-on}
use Rattle.tx_linebreak.proofs.ended.context_before.Goals as goal

pub loop-at-init : goal.loop-at-init
loop-at-init c = c.outset-context.ensures ∙ sym (context-here outset c.args.pieces.now)

pub loop-at-preserved : goal.loop-at-preserved
loop-at-preserved c =
    let pieces = c.args.pieces.now in
    let at = c.loop-at.at in
    let next : suc at ≡ at + 1 = omega arith in
    let below : at < length pieces = omega arith in
    c.go_past.ensures
    ∙ (λ i. behind (c.loop-at.invariant i) (c.index-pieces-at.is i))
    ∙ context-on outset pieces at c.index-pieces-at.result below
    ∙ ap (context_from outset pieces) next
