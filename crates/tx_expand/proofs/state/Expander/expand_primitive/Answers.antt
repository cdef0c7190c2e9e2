use Rattle.std.proofs.Common.{◌∙◌, sym}
use Rattle.tx_expand.proofs.state.Expander.expand_primitive.Goals as goal

pub returns-in-CsName : goal.returns-in-CsName
returns-in-CsName c = rw c.in-CsName.is (c.scan.ensures c.args.mode)

pub returns-in-Convert : goal.returns-in-Convert
returns-in-Convert c = rw c.in-Convert.is (c.convert.ensures c.args.mode c.args.wanted c.args.token)

pub returns-in-The : goal.returns-in-The
returns-in-The c = rw c.in-The.is (rw c.destination.ensures at (c.scan-in-The.ensures c.args.mode))

pub returns-else-is_naming : goal.returns-else-is_naming
returns-else-is_naming c = rw (c.in-Input.is, sym c.is_naming.ensures ∙ c.if-is_naming.false) (c.scan-else-is_naming.ensures c.args.mode)

pub returns-in_ok-begin-in-Test : goal.returns-in_ok-begin-in-Test
returns-in_ok-begin-in-Test c = rw c.in-Test.is (rw (c.in_ok-begin-in-Test.ensures.ok, c.is_case.ensures) at (c.scan-in-Test.ensures c.args.mode))

pub returns-in-Mark : goal.returns-in-Mark
returns-in-Mark c = rw c.in-Mark.is (c.put_mark.ensures c.args.mode)
