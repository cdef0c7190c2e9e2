use Rattle.tx_cond.proofs.test.TestScan.give_last.Goals as goal

pub returns-in-More-clause-fewer : goal.returns-in-More-clause-fewer
returns-in-More-clause-fewer c = rw c.requires (rw c.in-More.is at c.in_ok-want.ensures.fewer)

pub returns-in-Need-clause-fewer : goal.returns-in-Need-clause-fewer
returns-in-Need-clause-fewer c = rw c.requires (rw c.in-Need.is at c.in_ok-want.ensures.fewer)
