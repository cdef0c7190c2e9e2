use Rattle.std.proofs.Common.{arith}
use Rattle.tx_files.proofs.Changing.{changing-begun, changing-on, changing-stops, changing-fits, changing-made, changing-small}
use Rattle.tx_files.proofs.file_set.FileSet.make_all.Goals as goal

pub loop-at-init : goal.loop-at-init
loop-at-init c = changing-begun c.args.self.now c.args.changes.now

pub loop-at-preserved : goal.loop-at-preserved
loop-at-preserved c = changing-on c.loop-at.invariant c.loop-at-test.true c.index-changes-at.is c.in-Ok.ensures.answer c.in-Ok.ensures.ok c.in-Ok.ensures.small

pub returns-in-Err-clause-answer : goal.returns-in-Err-clause-answer
returns-in-Err-clause-answer c = changing-stops c.loop-at.invariant c.loop-at-test.true c.index-changes-at.is (Unit {0}) (Unit {0}) c.in-Err.refusal c.in-Err.ensures.answer

pub returns-clause-answer : goal.returns-clause-answer
returns-clause-answer c = changing-fits c.loop-at.invariant (omega (arith, c.loop-at-test.false))

pub returns-clause-ok : goal.returns-clause-ok
returns-clause-ok c = changing-made c.loop-at.invariant (omega (arith, c.loop-at-test.false))

pub returns-clause-small : goal.returns-clause-small
returns-clause-small c = changing-small c.loop-at.invariant (omega (arith, c.loop-at-test.false))
