use Rattle.tx_cond.proofs.Comparands.{size-given}
use Rattle.tx_cond.proofs.test.ComparandScan.give.Goals as goal

pub returns-in_ok-give-in-Size-clause-given : goal.returns-in_ok-give-in-Size-clause-given
returns-in_ok-give-in-Size-clause-given c = rw c.in_points.ensures (size-given c.args.self.now c.args.value.now c.give-in-Size.new.self c.in_ok-give-in-Size.field-0 c.in-Size.is c.in_ok-give-in-Size.ensures.part)
