use Rattle.std.proofs.Common.{rules, ap}
use Rattle.tx_shape.specs.declared.loading.LoadScan.{LoadScan}
use Rattle.tx_shape.proofs.LoadSteps.{name-before, name-more, name-there, name-wrong}
use Rattle.tx_shape.proofs.loading.LoadScan.feed_name.Goals as goal

pub returns-in-More : goal.returns-in-More
returns-in-More c =
    name-more c.args.self.now c.feed.new.self c.args.token.now c.in-More.want c.requires (rw c.in-More.is at c.in_ok-want.ensures.fed)

pub returns-in-Done-default-eq0 : goal.returns-in-Done-default-eq0
returns-in-Done-default-eq0 c =
    rw c.on.ensures.answer (name-there c.args.self.now c.on.new.self c.feed.new.self c.args.token.now c.in-Done-default-eq0.name c.in-Done-default-eq0.field-1 c.requires (rw c.in-Done-default-eq0.is at c.in_ok-want.ensures.fed) (search rules) (ap (λ (s : LoadScan). s.stage) c.on.ensures.scan) (ap (λ (s : LoadScan). s.place) c.on.ensures.scan) (ap (λ (s : LoadScan). s.name) c.on.ensures.scan))

pub returns-in-Done : goal.returns-in-Done
returns-in-Done c =
    name-before c.args.self.now c.feed_at.new.self c.feed.new.self c.args.token.now c.in-Done.name c.in-Done.field-1 c.feed_at.result c.requires (rw c.in-Done.is at c.in_ok-want.ensures.fed) (search rules) c.feed_at.ensures

pub returns-in-Wrong : goal.returns-in-Wrong
returns-in-Wrong c =
    name-wrong c.args.self.now _ c.feed.new.self c.args.token.now c.in-Wrong.error c.requires (rw c.in-Wrong.is at c.in_ok-want.ensures.fed)
