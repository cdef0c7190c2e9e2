use Rattle.tx_command.specs.declared.scans.Whole.TheVariants.{Assignment}
use Rattle.tx_reading.proofs.Stages.{assigned-fed, assign-needs, assign-goes, start-fed, start-needs, start-goes}
use Rattle.tx_reading.proofs.Told.{is-part}
use Rattle.tx_reading.proofs.stage.feed_scans.Goals as goal

pub returns-in_ok-feed-in-Assign-clause-fed : goal.returns-in_ok-feed-in-Assign-clause-fed
returns-in_ok-feed-in-Assign-clause-fed c =
    rw c.assigned.ensures
    (assigned-fed c.args.mode c.args.head.now c.args.scans.now (record c.args.scans.now { assignment = c.feed.new.self }) c.args.made.now c.args.token.now c.in_ok-feed-in-Assign.field-0 c.in-Assign.is c.in-Assign.is c.in_ok-feed-in-Assign.ensures.part)

pub returns-in_ok-feed-in-Assign-clause-needs : goal.returns-in_ok-feed-in-Assign-clause-needs
returns-in_ok-feed-in-Assign-clause-needs c =
    rw c.assigned.ensures
    (assign-needs (λ _. Assignment) c.args.scans.now (record c.args.scans.now { assignment = c.feed.new.self }) c.in_ok-feed-in-Assign.field-0 c.in-Assign.is c.in-Assign.is c.in_ok-feed-in-Assign.ensures.needed)

pub returns-in_ok-feed-in-Assign-clause-on : goal.returns-in_ok-feed-in-Assign-clause-on
returns-in_ok-feed-in-Assign-clause-on c =
    rw c.assigned.ensures
    (assign-goes (λ _. Assignment) (record c.args.scans.now { assignment = c.feed.new.self }) c.in_ok-feed-in-Assign.field-0 c.in-Assign.is c.in_ok-feed-in-Assign.ensures.waits)

pub returns-in-Start-clause-fed : goal.returns-in-Start-clause-fed
returns-in-Start-clause-fed c =
    start-fed c.args.mode c.args.head.now c.args.token.now c.args.scans.now c.feed_first.new.scans c.feed_first.new.made c.feed_first.result c.in-Start.is c.feed_first.ensures

pub returns-in-Start-clause-needs : goal.returns-in-Start-clause-needs
returns-in-Start-clause-needs c =
    start-needs c.args.mode c.args.head.now c.args.token.now c.args.scans.now c.feed_first.new.scans c.feed_first.new.made c.feed_first.result c.in-Start.is c.feed_first.ensures

pub returns-in-Start-clause-on : goal.returns-in-Start-clause-on
returns-in-Start-clause-on c = start-goes c.args.mode c.args.head.now c.args.token.now c.feed_first.new.scans c.feed_first.new.made c.feed_first.result c.feed_first.ensures

pub feed_other-requires-clause-part : goal.feed_other-requires-clause-part
feed_other-requires-clause-part c = is-part c.args.scans.now.stage c.in_default.not-Assign c.in_default.not-Shape c.in_default.not-Start

pub returns-in-Shape-clause-fed : goal.returns-in-Shape-clause-fed
returns-in-Shape-clause-fed c = c.feed_shaped.ensures.fed c.args.mode c.args.head.now
