use Rattle.std.proofs.Common.{sym, ◌∙◌, rules}
use Rattle.tx_reading.proofs.Stages.{prefixed-stands}
use Rattle.tx_reading.proofs.stage.feed_prefixed.Goals as goal

pub returns-then-may_be_prefixed : goal.returns-then-may_be_prefixed
returns-then-may_be_prefixed c = prefixed-stands c.args.prefixes c.args.token.now c.begin.new.scans c.begin.result (search rules) (sym c.may_be_prefixed.ensures ∙ c.if-may_be_prefixed.true) c.begin.ensures
