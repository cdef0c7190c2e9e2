use Rattle.std.proofs.Common.{sym, ◌∙◌, rules}
use Rattle.tx_reading.proofs.Stages.{part-stands}
use Rattle.tx_reading.proofs.stage.feed_atom.Goals as goal

pub returns-then-is_part : goal.returns-then-is_part
returns-then-is_part c = part-stands c.args.token.now c.begin.new.scans c.begin.result (search rules) (search rules) (sym c.is_part.ensures ∙ c.if-is_part.true) c.begin.ensures
