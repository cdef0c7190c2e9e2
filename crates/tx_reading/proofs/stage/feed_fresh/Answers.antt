use Rattle.std.proofs.Common.{sym, ◌∙◌}
use Rattle.tx_reading.proofs.Stages.{fresh-stands}
use Rattle.tx_reading.proofs.stage.feed_fresh.Goals as goal

pub returns-in-Stands : goal.returns-in-Stands
returns-in-Stands c = fresh-stands c.args.mode c.args.token.now c.begin.new.scans c.begin.result (sym c.standing_in.ensures ∙ c.in-Stands.is) c.begin.ensures
