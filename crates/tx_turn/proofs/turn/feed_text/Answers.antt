use Rattle.tx_state.specs.Texts.{with_token}
use Rattle.tx_turn.proofs.TextTurns.{fed-some}
use Rattle.tx_turn.proofs.turn.feed_text.Goals as goal

pub returns-in-Some : goal.returns-in-Some
returns-in-Some c =
    rw c.in-Some.is (fed-some (with_token c.in-Some.text c.args.seen) c.feed.result c.feed.new.self c.feed.ensures)
