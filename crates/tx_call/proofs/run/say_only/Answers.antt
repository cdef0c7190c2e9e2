use Rattle.tx_call.proofs.Held.{does_saying, does_saying_short}
use Rattle.tx_call.proofs.run.say_only.Goals as goal

pub returns-in_err-say-clause-does : goal.returns-in_err-say-clause-does
returns-in_err-say-clause-does g c = does_saying_short c.from_residual.result c.in_err-say.field-0.0 c.from_residual.ensures.1 c.in_err-say.ensures.puts

pub returns-clause-does : goal.returns-clause-does
returns-clause-does g c = does_saying c.in_ok-say.ensures.puts
