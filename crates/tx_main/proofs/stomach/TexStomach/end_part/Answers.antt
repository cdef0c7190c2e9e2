use Rattle.std.proofs.Common.{ap}
use Rattle.tx_aligning.specs.Entries.{over}
use Rattle.tx_lettering.specs.Words.{word_ended}
use Rattle.tx_state.specs.Meanings.{state_of}
use Rattle.tx_state.specs.State.{TexState}
use Rattle.tx_state.proofs.Outcomes.{outcome-by}
use Rattle.tx_main.proofs.stomach.TexStomach.end_part.Goals as goal

pub returns : goal.returns
returns c =
    outcome-by (over (state_of c.end_word.new.s)) (over (word_ended (state_of c.args.s.now))) c.args.s.now c.end_word.new.s c.end_part.new.s c.end_part.result
    (ap (λ (t : TexState). over t) c.in_ok-end_word.ensures.state) c.in_ok-end_word.ensures.said c.end_part.ensures
