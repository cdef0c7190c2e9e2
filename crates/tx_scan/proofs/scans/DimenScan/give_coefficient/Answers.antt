use Rattle.std.proofs.Common.{rules, to_z, of_z, w64}
use Rattle.tx_scan.specs.DimensionRests.{more_needed}
use Rattle.tx_scan.proofs.Quantities.{given-factor-more, given-factor-need, given-factor-wrong, given-factor-ends, given-factor-ends-before, ends-alone, ends-seen, ends-unseen, held-needs, fewer-behind-ok}
use Rattle.tx_scan.proofs.scans.DimenScan.give_coefficient.Goals as goal

pub returns-in-More-clause-part : goal.returns-in-More-clause-part
returns-in-More-clause-part c =
    given-factor-more c.args.self.now c.give.new.self c.args.value.now c.in-More.want c.requires (rw c.in-More.is at c.give.ensures.given)

pub returns-in-Need-clause-part : goal.returns-in-Need-clause-part
returns-in-Need-clause-part c =
    given-factor-need c.args.self.now c.give.new.self c.args.value.now c.in-Need.kind c.requires (rw c.in-Need.is at c.give.ensures.given)

pub returns-in-Done-default-eq0-clause-part : goal.returns-in-Done-default-eq0-clause-part
returns-in-Done-default-eq0-clause-part c =
    given-factor-ends c.args.self.now c.to_unit.new.self c.give.new.self c.args.value.now c.in-Done-default-eq0.number (to_z w64 (of_z w64 c.in-Done-default-eq0.number)) c.in-Done-default-eq0.field-1 c.to_unit.result
    c.requires (rw c.in-Done-default-eq0.is at c.give.ensures.given)
    (ends-alone c.args.self.now c.give.new.self c.args.value.now c.in-Done-default-eq0.number c.in-Done-default-eq0.field-1 (rw c.in-Done-default-eq0.is at c.give.ensures.given) (search rules))
    (search rules) c.to_unit.ensures.fed

pub returns-in-Some-clause-part : goal.returns-in-Some-clause-part
returns-in-Some-clause-part c =
    given-factor-ends-before c.args.self.now c.feed_numbered.new.self c.give.new.self c.args.value.now c.in-Done.number (to_z w64 (of_z w64 c.in-Done.number)) c.in-Done.field-1 c.in-Some.token c.feed_numbered.result
    c.requires (rw c.in-Done.is at c.give.ensures.given)
    (ends-seen c.args.self.now c.give.new.self c.args.value.now c.in-Done.number c.in-Done.field-1 c.in-Some.token (rw c.in-Done.is at c.give.ensures.given) (search rules) (search rules))
    (search rules) c.feed_numbered.ensures.fed

pub returns-in-None-clause-part : goal.returns-in-None-clause-part
returns-in-None-clause-part c =
    given-factor-ends c.args.self.now c.to_unit-in-None.new.self c.give.new.self c.args.value.now c.in-Done.number (to_z w64 (of_z w64 c.in-Done.number)) c.in-Done.field-1 c.to_unit-in-None.result
    c.requires (rw c.in-Done.is at c.give.ensures.given)
    (ends-unseen c.args.self.now (search rules))
    (search rules) c.to_unit-in-None.ensures.fed

pub returns-in-Wrong-clause-part : goal.returns-in-Wrong-clause-part
returns-in-Wrong-clause-part c =
    given-factor-wrong c.args.self.now c.args.self.now c.give.new.self c.args.value.now c.in-Wrong.error c.requires (rw c.in-Wrong.is at c.give.ensures.given)

pub returns-in-Some-clause-fewer : goal.returns-in-Some-clause-fewer
returns-in-Some-clause-fewer c =
    fewer-behind-ok c.feed_numbered.result (more_needed c.args.self.now) (more_needed c.feed_numbered.new.self)
    (held-needs c.args.self.now c.give.new.self c.args.value.now c.in-Done.number c.in-Done.field-1 c.requires (rw c.in-Done.is at c.give.ensures.given) (search rules)) c.feed_numbered.ensures.needed
