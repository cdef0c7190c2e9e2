use Rattle.std.proofs.Common.{◌≡◌, Ok, rules, to_z, of_z, w64}
use Rattle.tx_command.specs.declared.scans.Taken.TheVariants as taken
use Rattle.tx_expand.specs.Values.{lent}
use Rattle.tx_turn.proofs.Taking.{joins-on, taken-by, takes-wrong, takes-whole}
use Rattle.tx_turn.proofs.turn.feed_on.Goals as goal

pub returns-in-More : goal.returns-in-More
returns-in-More g c =
    let same : to_z w64 (of_z w64 c.args.s.now.lists.badness) ≡ c.args.s.now.lists.badness = search rules in
    joins-on g.T.Stomach.effects c.args.s.now c.feed.new.self c.feed.new.input c.feed.new.made c.args.seen c.magnification.result c.note.new.used c.magnification.ensures c.note.ensures
    (taken-by c.args.s.now (lent c.new-known.result) c.feed.new.self c.feed.new.input c.feed.new.made c.args.seen taken.More (rw (same, c.fonts.ensures, c.is_open.ensures) at c.new-known.ensures) (rw c.in-More.is at c.in_ok-feed.ensures))

pub returns-in-Wrong : goal.returns-in-Wrong
returns-in-Wrong g c =
    let same : to_z w64 (of_z w64 c.args.s.now.lists.badness) ≡ c.args.s.now.lists.badness = search rules in
    takes-wrong g.T.Stomach.effects c.args.s.now c.fail.new.s c.feed.new.self c.feed.new.input c.feed.new.made c.args.seen c.in-Wrong.error c.fail.result
    (taken-by c.args.s.now (lent c.new-known.result) c.feed.new.self c.feed.new.input c.feed.new.made c.args.seen (taken.Wrong c.in-Wrong.error) (rw (same, c.fonts.ensures, c.is_open.ensures) at c.new-known.ensures) (rw c.in-Wrong.is at c.in_ok-feed.ensures)) c.fail.ensures

pub returns-in_ok-event-in-Whole : goal.returns-in_ok-event-in-Whole
returns-in_ok-event-in-Whole g c =
    let same : to_z w64 (of_z w64 c.args.s.now.lists.badness) ≡ c.args.s.now.lists.badness = search rules in
    takes-whole {E = Unit {0}} g.T.Stomach.effects c.args.s.now c.carry_made_out.new.s c.feed.new.self c.feed.new.input c.feed.new.made c.args.seen (Ok c.in_ok-event-in-Whole.event)
    (taken-by c.args.s.now (lent c.new-known.result) c.feed.new.self c.feed.new.input c.feed.new.made c.args.seen taken.Whole (rw (same, c.fonts.ensures, c.is_open.ensures) at c.new-known.ensures) (rw c.in-Whole.is at c.in_ok-feed.ensures)) c.in_ok-event-in-Whole.ensures
