use Rattle.tx_event.specs.declared.types.Ask.TheVariants.{Close}
use Rattle.tx_state.specs.Meanings.{state_of}
use Rattle.tx_state.specs.Outcomes.{Asks, fails}
use Rattle.tx_turn.specs.Turns.{closes}
use Rattle.tx_turn.proofs.Closing.{closes-asked, closes-refused, stepped-as}
use Rattle.tx_turn.proofs.turn.close.Goals as goal

pub returns-in-Some : goal.returns-in-Some
returns-in-Some c =
    stepped-as (closes (state_of c.args.s.now)) (fails c.in-Some.error) c.args.s.now c.fail.result c.fail.new.s
    (closes-refused (state_of c.args.s.now) c.takes_text.result c.ended.result c.in-Some.error c.takes_text.ensures c.ended.ensures c.in-Some.is)
    c.fail.ensures

pub returns-in-None : goal.returns-in-None
returns-in-None c =
    stepped-as (closes (state_of c.args.s.now)) (Asks Close (state_of c.args.s.now)) c.args.s.now c.ask.result c.ask.new.s
    (closes-asked (state_of c.args.s.now) c.takes_text.result c.ended.result c.takes_text.ensures c.ended.ensures c.in-None.is)
    c.ask.ensures
