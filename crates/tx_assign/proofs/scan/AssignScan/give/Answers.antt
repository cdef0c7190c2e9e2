use Rattle.tx_assign.proofs.Steps.{gave-answers}
use Rattle.tx_assign.proofs.scan.AssignScan.give.Goals as goal

pub returns-clause-answer : goal.returns-clause-answer
returns-clause-answer c =
    λ assigning taken h last. gave-answers assigning c.args.self.now c.behind_value.new.self taken c.args.value.now c.args.behind.now c.behind_value.result h c.requires.waits.1 last c.behind_value.ensures.part
