use Rattle.tx_lettering.proofs.Learning.{exceptions-learned}
use Rattle.tx_lettering.proofs.hyphens.add_exceptions.Goals as goal

pub returns-in-Ok : goal.returns-in-Ok
returns-in-Ok c = λ s known_is table_is.
    exceptions-learned s c.args.known.now c.add_exceptions.new.self c.args.table.now c.in_ok-lower.lower c.args.words.now known_is table_is c.in_ok-lower.ensures.value
    (rw (c.in-Ok.is, c.as_slice.ensures) at c.add_exceptions.ensures.ok) (rw c.in-Ok.is at c.add_exceptions.ensures.used)
