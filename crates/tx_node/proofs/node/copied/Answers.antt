use Rattle.std.proofs.Common.{◌∙◌, ◌*◌, arith}
use Rattle.tx_node.specs.Counts.{ended}
use Rattle.tx_node.specs.Shipped.{box_shipped}
use Rattle.tx_node.proofs.Counting.{ended_times}
use Rattle.tx_node.proofs.node.copied.Goals as goal

pub returns : goal.returns
returns c =
    c.saturating_mul.ensures ∙ (λ i. ended (c.few.ensures i * c.shipped.ensures i)) ∙ ended_times c.args.copies (box_shipped c.args.inner.now) (omega arith)
