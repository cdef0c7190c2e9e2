use Rattle.tx_command.specs.declared.scans.Whole.TheVariants.{Command}
use Rattle.tx_reading.proofs.Stages.{shape-fed, shape-needs, shape-goes}
use Rattle.tx_reading.proofs.stage.feed_shaped.Goals as goal

pub returns-clause-fed : goal.returns-clause-fed
returns-clause-fed c = λ mode head.
    rw (c.put_shaped.ensures.made (record c.args.scans.now { shape = c.feed.new.self }))
    (shape-fed mode head c.args.scans.now (record c.args.scans.now { shape = c.feed.new.self }) c.args.token.now c.in_ok-feed.field-0 c.requires c.requires c.in_ok-feed.ensures.fed)

pub returns-clause-needs : goal.returns-clause-needs
returns-clause-needs c =
    rw c.put_shaped.ensures.answer
    (shape-needs (λ _. Command) c.args.scans.now (record c.args.scans.now { shape = c.feed.new.self }) c.in_ok-feed.field-0 c.requires c.requires c.in_ok-feed.ensures.needs)

pub returns-clause-on : goal.returns-clause-on
returns-clause-on c =
    rw c.put_shaped.ensures.answer
    (shape-goes (λ _. Command) (record c.args.scans.now { shape = c.feed.new.self }) c.in_ok-feed.field-0 c.requires c.in_ok-feed.ensures.waits)
