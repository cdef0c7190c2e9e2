use Rattle.tx_assign.proofs.Steps.{took-answers}
use Rattle.tx_assign.proofs.scan.AssignScan.feed.Goals as goal

pub returns-clause-answer : goal.returns-clause-answer
returns-clause-answer c =
    λ assigning taken h. took-answers assigning c.args.self.now c.behind.new.self taken c.args.token.now c.behind.result h c.behind.ensures.part
