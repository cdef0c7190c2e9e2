use Rattle.tx_expand.proofs.state.Expander.take_by.Goals as goal

pub returns-in-Print : goal.returns-in-Print
returns-in-Print c = λ any. rw c.in-Print.is (c.print.ensures any)
