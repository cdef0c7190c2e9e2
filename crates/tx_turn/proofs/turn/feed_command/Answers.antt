use Rattle.tx_turn.proofs.Commanding.{fed-goes, fed-steps}
use Rattle.tx_turn.proofs.turn.feed_command.Goals as goal

pub returns-in-Some : goal.returns-in-Some
returns-in-Some g c = fed-steps g.T.Stomach.effects c.args.s.now c.feed_on.new.s c.args.seen c.in_ok-ended.ended c.in-Some.event c.in-Some.is c.in_ok-ended.ensures

pub returns-in-None : goal.returns-in-None
returns-in-None g c = fed-goes g.T.Stomach.effects c.args.s.now c.feed_on.new.s c.args.seen c.in_ok-ended.ended c.requires c.in-None.is c.in_ok-ended.ensures
