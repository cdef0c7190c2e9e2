use Rattle.std.proofs.Common.{ap}
use Rattle.tx_turn.specs.Turns.{before_token, taking}
use Rattle.tx_state.specs.Meanings.{state_of}
use Rattle.tx_state.specs.State.{TexState}
use Rattle.tx_state.proofs.Outcomes.{outcome-by}
use Rattle.tx_turn.proofs.AtOnce.{takes-whole-at-once}
use Rattle.tx_turn.proofs.turn.take_command.Goals as goal

pub returns-in-Some : goal.returns-in-Some
returns-in-Some g c =
    outcome-by (taking g.T.Stomach.effects (state_of c.settle_word.new.s) c.args.seen) (taking g.T.Stomach.effects (before_token g.T.Stomach.effects (state_of c.args.s.now) c.args.seen) c.args.seen) c.args.s.now c.settle_word.new.s c.take_at_once.new.s c.take_at_once.result
    (ap (λ (t : TexState). taking g.T.Stomach.effects t c.args.seen) c.in_ok-settle_word.ensures.state) c.in_ok-settle_word.ensures.said
    (takes-whole-at-once g.T.Stomach.effects c.settle_word.new.s c.take_at_once.new.s c.args.seen c.in-Some.found c.take_at_once.result c.in-Some.ensures c.take_at_once.ensures)

pub returns-in-None : goal.returns-in-None
returns-in-None g c =
    outcome-by (taking g.T.Stomach.effects (state_of c.settle_word.new.s) c.args.seen) (taking g.T.Stomach.effects (before_token g.T.Stomach.effects (state_of c.args.s.now) c.args.seen) c.args.seen) c.args.s.now c.settle_word.new.s c.feed_command.new.s c.feed_command.result
    (ap (λ (t : TexState). taking g.T.Stomach.effects t c.args.seen) c.in_ok-settle_word.ensures.state) c.in_ok-settle_word.ensures.said c.feed_command.ensures
