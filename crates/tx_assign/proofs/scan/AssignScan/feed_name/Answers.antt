use Rattle.tx_assign.proofs.Parts.{name-more, name-done, name-wrong}
use Rattle.tx_assign.proofs.scan.AssignScan.feed_name.Goals as goal

pub returns-in-More-clause-answer : goal.returns-in-More-clause-answer
returns-in-More-clause-answer c =
    name-more c.args.self.now c.feed.new.self c.args.token.now c.in-More.want c.requires (rw c.in-More.is at c.in_ok-want.ensures.fed)

pub returns-in-Done-clause-answer : goal.returns-in-Done-clause-answer
returns-in-Done-clause-answer c =
    name-done c.args.self.now c.set_place.new.self c.raw.new.self c.feed.new.self c.args.token.now c.in-Done.place c.in-Done.field-1 c.raw.result
    (rw c.in-Done.is at c.in_ok-want.ensures.fed) c.set_place.ensures c.raw.ensures.scan c.raw.ensures.answer

pub returns-in-Wrong-clause-answer : goal.returns-in-Wrong-clause-answer
returns-in-Wrong-clause-answer c =
    name-wrong c.args.self.now c.feed.new.self c.args.token.now c.in-Wrong.error (rw c.in-Wrong.is at c.in_ok-want.ensures.fed)
