use Rattle.tx_cond.proofs.Registers.{register-fewer, register-given}
use Rattle.tx_cond.proofs.test.TestScan.give_register.Goals as goal

pub returns-clause-part : goal.returns-clause-part
returns-clause-part c =
    rw c.answered.ensures (register-given c.args.self.now c.give.new.self c.args.value.now c.give.result c.requires c.give.ensures.part)

pub returns-clause-fewer : goal.returns-clause-fewer
returns-clause-fewer c =
    rw c.answered.ensures (register-fewer c.args.self.now c.give.new.self c.give.result c.requires c.give.ensures.fewer)
