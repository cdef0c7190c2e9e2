use Rattle.tx_expand.proofs.state.Expander.part_ends.Goals as goal

pub returns-in-V : goal.returns-in-V
returns-in-V c = λ any. rw c.in-V.is (c.end_part.ensures any)
