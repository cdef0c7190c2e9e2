use Rattle.std.proofs.Common.{sym, ◌∙◌, rules}
use Rattle.tx_reading.proofs.Stages.{accent-assigns, accent-stands}
use Rattle.tx_reading.proofs.stage.feed_accented.Goals as goal

pub returns-then-continues_word : goal.returns-then-continues_word
returns-then-continues_word c = accent-stands c.args.mode c.args.token.now c.begin.new.scans c.begin.result (search rules) (search rules) (sym c.continues_word.ensures ∙ c.if-continues_word.true) c.begin.ensures

pub returns-else-continues_word : goal.returns-else-continues_word
returns-else-continues_word c =
    accent-assigns c.args.mode c.args.token.now c.feed_assigning.new.scans c.feed_assigning.result (search rules) (search rules) (sym c.continues_word.ensures ∙ c.if-continues_word.false) c.feed_assigning.ensures
