use Rattle.tx_expand.proofs.state.Expander.convert.Goals as goal

pub returns-in-Number : goal.returns-in-Number
returns-in-Number c = λ mode wanted token. rw c.in-Number.is (c.scan.ensures mode)

pub returns-in-RomanNumeral : goal.returns-in-RomanNumeral
returns-in-RomanNumeral c = λ mode wanted token. rw c.in-RomanNumeral.is (c.scan-in-RomanNumeral.ensures mode)

pub returns-in-FontName : goal.returns-in-FontName
returns-in-FontName c = λ mode wanted token. rw c.in-FontName.is (c.scan-in-FontName.ensures mode)
