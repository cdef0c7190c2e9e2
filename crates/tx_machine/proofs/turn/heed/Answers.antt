use Rattle.std.proofs.Common.{ap, ◌∙◌}
use Rattle.tx_event.specs.Turns.{kind_of, fits}
use Rattle.tx_machine.proofs.Stretch.{fits-reply_to}
use Rattle.tx_machine.proofs.turn.heed.Goals as goal

pub answer-requires : goal.answer-requires
answer-requires g c = (
  kind_of c.in-Asks.ask,
  c.requires c.in-Asks.ask c.in-Asks.is,
  ap (λ a. fits (kind_of c.in-Asks.ask) a.reply) c.in_ok-answer-in-Asks.ensures.ok ∙ fits-reply_to c.args.files.now c.args.spot.now.opens c.in-Asks.ask,
)
