use Rattle.tx_cond.proofs.Registers.{register-begun}
use Rattle.tx_cond.proofs.test.TestScan.begin.Goals as goal

pub returns-in-Box-clause-answer : goal.returns-in-Box-clause-answer
returns-in-Box-clause-answer c =
    rw c.in-Box.is (register-begun c.in-Box.test c.args.mode c.restart.new.self c.args.self.now.token c.to_register.new.self c.to_register.result c.to_register.ensures.scan c.to_register.ensures.answer)
