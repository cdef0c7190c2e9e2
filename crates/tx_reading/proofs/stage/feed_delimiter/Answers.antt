use Rattle.std.proofs.Common.{sym, ◌∙◌, rules}
use Rattle.tx_reading.proofs.Stages.{delimiter-stands}
use Rattle.tx_reading.proofs.stage.feed_delimiter.Goals as goal

pub returns-then-is_delimiter : goal.returns-then-is_delimiter
returns-then-is_delimiter c = delimiter-stands c.args.token.now c.begin.new.scans c.begin.result (search rules) (search rules) (sym c.is_delimiter.ensures ∙ c.if-is_delimiter.true) c.begin.ensures
