use Rattle.std.proofs.Common.{◌∙◌, sym}
use Rattle.tx_expand.specs.Expanding.{reader_of}
use Rattle.tx_expand.proofs.Joining.{skipped-other}
use Rattle.tx_expand.proofs.Turning.{skipped-word, skipped-wrong}
use Rattle.tx_expand.proofs.state.Expander.skip_on.Goals as goal

pub returns-then-is_other : goal.returns-then-is_other
returns-then-is_other c = λ w.
    skipped-other w c.args.token (reader_of c.args.self.now c.args.input.now) c.of-item.result c.requires c.of-item.ensures (sym c.is_other.ensures ∙ c.if-is_other.true)

pub returns-in-Done : goal.returns-in-Done
returns-in-Done c = λ w.
    rw (skipped-word w c.args.token (reader_of c.args.self.now c.args.input.now) c.feed_skipper.new.begun c.drop_first.new.self c.in-Done.word c.in-Done.field-1 c.requires (rw (c.of-item.ensures, c.in-Done.is) at c.in_ok-feed_skipper.ensures) c.drop_first.ensures, ← c.token_of.ensures)
    c.meet.ensures

pub returns-in-Wrong : goal.returns-in-Wrong
returns-in-Wrong c = λ w.
    skipped-wrong w c.args.token (reader_of c.args.self.now c.args.input.now) _ c.feed_skipper.new.begun c.in-Wrong.error c.requires (rw (c.of-item.ensures, c.in-Wrong.is) at c.in_ok-feed_skipper.ensures)
