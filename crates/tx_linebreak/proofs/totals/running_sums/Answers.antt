use Rattle.std.proofs.Common.{arith}
use Rattle.tx_linebreak.proofs.Summing.{sums-on}
use Rattle.tx_linebreak.proofs.totals.running_sums.Goals as goal

pub loop-piece-preserved : goal.loop-piece-preserved
loop-piece-preserved c =
    sums-on c.loop-piece.piece-index c.loop-piece.sums.items _ c.loop-piece.total _ c.args.pieces.now c.piece-item.result c.loop-piece.invariant c.loop-piece-test.true (omega arith) c.piece-item.is
    c.add.ensures.small c.add.ensures.value c.in_ok-push-2.ensures.items
