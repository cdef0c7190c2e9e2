use Rattle.tx_expand.proofs.printing.push_printed.Goals as goal

pub returns-in-Meaning : goal.returns-in-Meaning
returns-in-Meaning c = λ any. rw c.in-Meaning.is (c.push_shown.ensures any)
