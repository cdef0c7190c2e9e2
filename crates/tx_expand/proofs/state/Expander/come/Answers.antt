use Rattle.tx_expand.proofs.state.Expander.come.Goals as goal

pub returns-in-Names : goal.returns-in-Names
returns-in-Names c = λ any. rw c.in-Names.is (c.name.ensures any)

pub returns-in-Identifier : goal.returns-in-Identifier
returns-in-Identifier c = λ any. rw c.in-Identifier.is (c.identify_font.ensures any)

pub returns-in-Font : goal.returns-in-Font
returns-in-Font c = λ any. rw c.in-Font.is (c.name_font.ensures any)
