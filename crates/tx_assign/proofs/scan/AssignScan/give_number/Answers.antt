use Rattle.std.proofs.Common.{rules, to_z, of_z, w64}
use Rattle.tx_seen.specs.declared.fed.Fed.TheVariants as fed
use Rattle.tx_assign.specs.Rests.{rest, held}
use Rattle.tx_scan.proofs.Behind.{given-behind, given-one}
use Rattle.tx_assign.proofs.Givens.{number-more, number-need, number-wrong, number-ends, number-ends-before}
use Rattle.tx_assign.proofs.scan.AssignScan.give_number.Goals as goal

pub returns-in-More-clause-part : goal.returns-in-More-clause-part
returns-in-More-clause-part c =
    given-behind rest held c.args.self.now (record c.args.self.now { integer = c.give.new.self }) c.args.value.now c.args.behind.now (fed.More c.in-More.want) c.requires.few (number-more c.args.self.now c.give.new.self c.args.kind c.args.operation c.args.value.now c.in-More.want c.requires.stage (rw c.in-More.is at c.give.ensures.given))

pub returns-in-Need-clause-part : goal.returns-in-Need-clause-part
returns-in-Need-clause-part c =
    given-behind rest held c.args.self.now (record c.args.self.now { integer = c.give.new.self }) c.args.value.now c.args.behind.now (fed.Need c.in-Need.wanted) c.requires.few (number-need c.args.self.now c.give.new.self c.args.kind c.args.operation c.args.value.now c.in-Need.wanted c.requires.stage (rw c.in-Need.is at c.give.ensures.given))

pub returns-in-Need-clause-waits : goal.returns-in-Need-clause-waits
returns-in-Need-clause-waits c =
    (rw c.requires.stage tt, given-one rest held c.args.self.now (record c.args.self.now { integer = c.give.new.self }) c.args.value.now (fed.Need c.in-Need.wanted) c.requires.few (number-need c.args.self.now c.give.new.self c.args.kind c.args.operation c.args.value.now c.in-Need.wanted c.requires.stage (rw c.in-Need.is at c.give.ensures.given)))

pub returns-in-Done-default-eq0-clause-part : goal.returns-in-Done-default-eq0-clause-part
returns-in-Done-default-eq0-clause-part c =
    number-ends c.args.self.now c.end_number.new.self c.give.new.self c.args.kind c.args.operation c.args.value.now c.args.behind.now c.in-Done-default-eq0.number (to_z w64 (of_z w64 c.in-Done-default-eq0.number)) c.in-Done-default-eq0.field-1 c.end_number.result
    c.requires.stage (rw c.in-Done-default-eq0.is at c.give.ensures.given) (search rules) (search rules) c.end_number.ensures.answer

pub returns-in-Done-clause-part : goal.returns-in-Done-clause-part
returns-in-Done-clause-part c =
    number-ends-before c.args.self.now c.feed_behind_number.new.self c.give.new.self c.args.kind c.args.operation c.args.value.now c.args.behind.now c.in-Done.number (to_z w64 (of_z w64 c.in-Done.number)) c.in-Done.field-1 c.feed_behind_number.result
    c.requires.stage (rw c.in-Done.is at c.give.ensures.given) (search rules) (search rules) c.requires.few c.feed_behind_number.ensures.answer

pub returns-in-Wrong-clause-part : goal.returns-in-Wrong-clause-part
returns-in-Wrong-clause-part c =
    given-behind rest held c.args.self.now (record c.args.self.now { integer = c.give.new.self }) c.args.value.now c.args.behind.now (fed.Wrong c.in-Wrong.error) c.requires.few (number-wrong c.args.self.now (record c.args.self.now { integer = c.give.new.self }) c.give.new.self c.args.kind c.args.operation c.args.value.now c.in-Wrong.error c.requires.stage (rw c.in-Wrong.is at c.give.ensures.given))
