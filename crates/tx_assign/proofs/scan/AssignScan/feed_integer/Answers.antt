use Rattle.std.proofs.Common.{rules, to_z, of_z, w64}
use Rattle.tx_scan.specs.IntegerRests as integers
use Rattle.tx_seen.specs.declared.item.Item.TheVariants.{Took}
use Rattle.tx_assign.specs.Assignments.{valued}
use Rattle.tx_assign.specs.Rests.{more_needed}
use Rattle.tx_assign.proofs.Numbers.{end-all, end-needs, end-waits, few-held}
use Rattle.tx_assign.proofs.Parts.{integer-more, integer-need, integer-wrong}
use Rattle.tx_assign.proofs.scan.AssignScan.feed_integer.Goals as goal

pub returns-in-More-clause-answer : goal.returns-in-More-clause-answer
returns-in-More-clause-answer c =
    integer-more c.args.self.now c.feed.new.self c.args.purpose c.args.token.now c.in-More.want (rw c.in-More.is at c.in_ok-want.ensures.fed)

pub returns-in-Need-clause-answer : goal.returns-in-Need-clause-answer
returns-in-Need-clause-answer c =
    integer-need c.args.self.now c.feed.new.self c.args.purpose c.args.token.now c.in-Need.kind (rw c.in-Need.is at c.in_ok-want.ensures.fed)

pub returns-in-Done-clause-answer : goal.returns-in-Done-clause-answer
returns-in-Done-clause-answer c =
    end-all integers.rest integers.held (integers.most c.args.self.now.integer) (λ behind more. integers.rest c.args.self.now.integer behind (Took c.args.token.now) more) (valued c.args.purpose c.args.self.now.place) c.args.token.now c.feed.new.self c.end_integer.new.self c.in-Done.number (to_z w64 (of_z w64 c.in-Done.number)) c.in-Done.back c.end_integer.result
    (rw c.in-Done.is at c.in_ok-want.ensures.fed) (search rules) c.end_integer.ensures

pub returns-in-Wrong-clause-answer : goal.returns-in-Wrong-clause-answer
returns-in-Wrong-clause-answer c =
    integer-wrong c.args.self.now c.args.self.now c.feed.new.self c.args.purpose c.args.token.now c.in-Wrong.error (rw c.in-Wrong.is at c.in_ok-want.ensures.fed)

pub returns-in-Need-clause-waits : goal.returns-in-Need-clause-waits
returns-in-Need-clause-waits c =
    (tt, few-held c.args.self.now.integer c.feed.new.self c.args.token.now c.in-Need.kind (rw c.in-Need.is at c.in_ok-want.ensures.fed))

pub returns-in-Done-clause-waits : goal.returns-in-Done-clause-waits
returns-in-Done-clause-waits c =
    end-waits (valued c.args.purpose c.args.self.now.place (to_z w64 (of_z w64 c.in-Done.number))) c.in-Done.back c.end_integer.new.self c.end_integer.result c.end_integer.ensures

pub returns-in-Done-clause-needed : goal.returns-in-Done-clause-needed
returns-in-Done-clause-needed c =
    end-needs (integers.waiting c.args.self.now.integer) (more_needed c.end_integer.new.self) (valued c.args.purpose c.args.self.now.place (to_z w64 (of_z w64 c.in-Done.number))) c.in-Done.back c.end_integer.new.self c.end_integer.result c.end_integer.ensures
