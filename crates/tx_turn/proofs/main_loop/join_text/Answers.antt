use Rattle.tx_state.proofs.Ordinary.{some-joined}
use Rattle.tx_turn.proofs.main_loop.join_text.Goals as goal

pub returns-in-Some : goal.returns-in-Some
returns-in-Some c = some-joined c.args.text.now c.in-Some.text c.join.new.self c.args.token c.join.result c.in-Some.is c.join.ensures
