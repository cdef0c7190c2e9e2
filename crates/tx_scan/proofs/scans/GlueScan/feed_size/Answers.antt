use Rattle.std.proofs.Common.{rules}
use Rattle.tx_scan.specs.GlueRests.{more_needed}
use Rattle.tx_scan.proofs.Behind.{none-needs}
use Rattle.tx_scan.proofs.GlueSteps.{size-more, size-need, size-wrong, size-whole, size-before, size-needs-more, size-needs, size-waits, none-waits}
use Rattle.tx_scan.proofs.scans.GlueScan.feed_size.Goals as goal

pub returns-in-More-clause-part : goal.returns-in-More-clause-part
returns-in-More-clause-part c = size-more c.args.self.now c.feed.new.self c.args.part c.args.token.now c.in-More.want c.requires (rw c.in-More.is at c.in_ok-want.ensures.part)

pub returns-in-More-clause-needed : goal.returns-in-More-clause-needed
returns-in-More-clause-needed c = size-needs-more c.args.self.now c.feed.new.self c.args.part c.in-More.want c.requires (rw c.in-More.is at c.in_ok-want.ensures.needed)

pub returns-in-Need-clause-part : goal.returns-in-Need-clause-part
returns-in-Need-clause-part c = size-need c.args.self.now c.feed.new.self c.args.part c.args.token.now c.in-Need.kind c.requires (rw c.in-Need.is at c.in_ok-want.ensures.part)

pub returns-in-Need-clause-needed : goal.returns-in-Need-clause-needed
returns-in-Need-clause-needed c = size-needs c.args.self.now c.feed.new.self c.args.part c.in-Need.kind c.requires (rw c.in-Need.is at c.in_ok-want.ensures.needed)

pub returns-in-Need-clause-waits : goal.returns-in-Need-clause-waits
returns-in-Need-clause-waits c = size-waits c.args.self.now c.feed.new.self c.args.part c.args.token.now c.in-Need.kind c.requires (rw c.in-Need.is at c.in_ok-want.ensures.fed)

pub returns-in-Done-default-eq0-clause-part : goal.returns-in-Done-default-eq0-clause-part
returns-in-Done-default-eq0-clause-part c =
    size-whole c.args.self.now c.sized.new.self c.feed.new.self c.args.part c.in-Done-default-eq0.measure c.args.token.now c.in-Done-default-eq0.field-1 c.sized.result c.requires
    (rw c.in-Done-default-eq0.is at c.in_ok-want.ensures.fed) (search rules) c.sized.ensures.fed

pub returns-in-Done-default-eq0-clause-needed : goal.returns-in-Done-default-eq0-clause-needed
returns-in-Done-default-eq0-clause-needed c = none-needs (more_needed c.args.self.now) (more_needed c.sized.new.self) c.sized.result c.sized.ensures.fewer

pub returns-in-Done-default-eq0-clause-waits : goal.returns-in-Done-default-eq0-clause-waits
returns-in-Done-default-eq0-clause-waits c = none-waits c.sized.new.self c.sized.result c.sized.ensures.fewer

pub returns-in-Done-clause-part : goal.returns-in-Done-clause-part
returns-in-Done-clause-part c =
    size-before c.args.self.now c.sized_before.new.self c.feed.new.self c.args.part c.in-Done.measure c.args.token.now c.in-Done.field-1 c.sized_before.result c.requires
    (rw c.in-Done.is at c.in_ok-want.ensures.fed) (search rules) c.sized_before.ensures.fed

pub returns-in-Done-clause-needed : goal.returns-in-Done-clause-needed
returns-in-Done-clause-needed c = none-needs (more_needed c.args.self.now) (more_needed c.sized_before.new.self) c.sized_before.result c.sized_before.ensures.fewer

pub returns-in-Done-clause-waits : goal.returns-in-Done-clause-waits
returns-in-Done-clause-waits c = none-waits c.sized_before.new.self c.sized_before.result c.sized_before.ensures.fewer

pub returns-in-Wrong-clause-part : goal.returns-in-Wrong-clause-part
returns-in-Wrong-clause-part c = size-wrong c.args.self.now (record c.args.self.now { size = c.feed.new.self }) c.feed.new.self c.args.part c.args.token.now c.in-Wrong.error c.requires (rw c.in-Wrong.is at c.in_ok-want.ensures.part)
