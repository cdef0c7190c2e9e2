use Rattle.tx_turn.proofs.TextTurns.{takes-text-more, takes-text-done, takes-text-wrong, needs-none}
use Rattle.tx_turn.proofs.turn.take_text.Goals as goal

pub returns-in-More : goal.returns-in-More
returns-in-More g c =
    takes-text-more g.T.Stomach.effects c.args.s.now c.args.s.now.text c.args.seen c.in-More.field-0 c.feed_text.new.text c.requires.running c.requires.text
    (rw c.in-More.is at c.in_ok-feed_text.ensures)

pub returns-in-Done : goal.returns-in-Done
returns-in-Done g c =
    takes-text-done g.T.Stomach.effects c.args.s.now c.end_text.new.s c.args.s.now.text c.args.seen c.in-Done.field-0 c.in-Done.field-1 c.feed_text.new.text c.end_text.result c.requires.text
    (rw c.in-Done.is at c.in_ok-feed_text.ensures) c.end_text.ensures

pub returns-in-Wrong : goal.returns-in-Wrong
returns-in-Wrong g c =
    takes-text-wrong g.T.Stomach.effects c.args.s.now c.fail.new.s c.args.s.now.text c.args.seen c.in-Wrong.error c.feed_text.new.text c.fail.result c.requires.text
    (rw c.in-Wrong.is at c.in_ok-feed_text.ensures) c.fail.ensures

pub unreachable-requires : goal.unreachable-requires
unreachable-requires g c =
    needs-none c.args.s.now.text c.args.seen c.in-Need.field-0 c.feed_text.new.text (rw c.in-Need.is at c.in_ok-feed_text.ensures)
