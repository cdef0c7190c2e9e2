use Rattle.std.proofs.Common.{◌≡◌, rules}
use Rattle.tx_assign.specs.declared.types.Assigning.TheVariants.{Named}
use Rattle.tx_assign.specs.Rests.{IsBegun}
use Rattle.tx_command.specs.declared.scans.Stage.TheVariants.{Assign}
use Rattle.tx_reading.proofs.Stages.{first-assigned, named-begun}
use Rattle.tx_reading.proofs.stage.feed_defining.Goals as goal

pub returns : goal.returns
returns c = λ mode head made.
    let same : c.in_ok-clone.field-0 ≡ c.args.name.now = search rules in
    let begun : IsBegun (Named c.args.name.now c.args.kind) c.begin.new.self = named-begun c.in_ok-clone.field-0 c.args.name.now c.args.kind c.begin.new.self same c.begin.ensures.begun in
    rw c.assigned.ensures
    (first-assigned mode head (Named c.args.name.now c.args.kind) c.begin.new.self (record c.args.scans.now { stage = Assign; assignment = c.feed.new.self }) made c.args.token.now c.in_ok-feed.field-0 (search rules) begun c.begin.ensures.needed c.in_ok-feed.ensures.part c.in_ok-feed.ensures.needed c.in_ok-feed.ensures.waits)
