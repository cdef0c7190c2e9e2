use Rattle.std.proofs.Common.{sym, ◌∙◌}
use Rattle.tx_reading.proofs.Stages.{accent-with, accent-without}
use Rattle.tx_reading.proofs.stage.feed_accent.Goals as goal

pub returns-then-is_prefixed : goal.returns-then-is_prefixed
returns-then-is_prefixed c =
    accent-with c.args.mode c.args.prefixes c.args.token.now c.feed_accent_prefixed.new.scans c.feed_accent_prefixed.result (sym c.is_prefixed.ensures ∙ c.if-is_prefixed.true) c.feed_accent_prefixed.ensures

pub returns-else-is_prefixed : goal.returns-else-is_prefixed
returns-else-is_prefixed c =
    accent-without c.args.mode c.args.prefixes c.args.token.now c.feed_accented.new.scans c.feed_accented.result (sym c.is_prefixed.ensures ∙ c.if-is_prefixed.false) c.feed_accented.ensures
