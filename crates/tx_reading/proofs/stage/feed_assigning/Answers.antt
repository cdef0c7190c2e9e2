use Rattle.std.proofs.Common.{sym, ◌∙◌, rules}
use Rattle.tx_reading.proofs.Stages.{accent-set}
use Rattle.tx_reading.proofs.stage.feed_assigning.Goals as goal

pub returns-then-is_assignment : goal.returns-then-is_assignment
returns-then-is_assignment c =
    accent-set c.args.mode c.args.token.now c.feed_fresh.new.scans c.feed_fresh.result (search rules) (sym c.is_assignment.ensures ∙ c.if-is_assignment.true) c.feed_fresh.ensures
