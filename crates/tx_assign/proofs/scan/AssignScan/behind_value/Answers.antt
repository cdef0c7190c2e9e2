use Rattle.std.proofs.Common.{Ok}
use Rattle.tx_assign.specs.Rests.{held}
use Rattle.tx_scan.specs.Rests.{kept}
use Rattle.tx_scan.proofs.Behind.{length-kept}
use Rattle.tx_assign.proofs.Operands.{by-given}
use Rattle.tx_assign.proofs.Steps.{given-behind-ok}
use Rattle.tx_assign.proofs.scan.AssignScan.behind_value.Goals as goal

pub returns-in-By-clause-part : goal.returns-in-By-clause-part
returns-in-By-clause-part c =
    by-given c.args.self.now _ _ c.args.value.now c.in-By.is (kept (held c.args.self.now) c.args.behind.now) (length-kept (held c.args.self.now) c.args.behind.now)

pub returns-in-Integer-clause-part : goal.returns-in-Integer-clause-part
returns-in-Integer-clause-part c =
    given-behind-ok {E = ⊥} c.args.self.now c.give_integer.new.self c.args.value.now c.args.behind.now (Ok c.give_integer.result) c.requires.waits.1 c.give_integer.ensures.part

pub returns-in-Size-clause-part : goal.returns-in-Size-clause-part
returns-in-Size-clause-part c =
    given-behind-ok c.args.self.now c.give_size.new.self c.args.value.now c.args.behind.now c.give_size.result c.requires.waits.1 c.give_size.ensures.part
