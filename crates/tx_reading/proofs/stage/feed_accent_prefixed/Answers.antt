use Rattle.std.proofs.Common.{sym, ◌∙◌}
use Rattle.tx_reading.proofs.Stages.{accent-behind}
use Rattle.tx_reading.proofs.stage.feed_accent_prefixed.Goals as goal

pub returns-else-is_setbox : goal.returns-else-is_setbox
returns-else-is_setbox c =
    accent-behind c.args.prefixes c.args.token.now c.feed_prefixed.new.scans c.feed_prefixed.result (sym c.is_setbox.ensures ∙ c.if-is_setbox.false) c.feed_prefixed.ensures
