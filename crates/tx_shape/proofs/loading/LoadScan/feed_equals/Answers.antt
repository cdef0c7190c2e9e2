use Rattle.std.proofs.Common.{rules, refl, ap, ◌∙◌}
use Rattle.tx_shape.specs.declared.loading.LoadScan.{LoadScan}
use Rattle.tx_shape.proofs.LoadSteps.{equals-before, equals-on, equals-there, equals-wrong}
use Rattle.tx_shape.proofs.loading.LoadScan.feed_equals.Goals as goal

pub returns-in-More : goal.returns-in-More
returns-in-More c = equals-on c.feed.new.self c.args.token.now _ c.in-More.want (rw c.in-More.is at c.feed.ensures.fed) refl

pub returns-in-Done-default-eq0 : goal.returns-in-Done-default-eq0
returns-in-Done-default-eq0 c =
    rw c.on.ensures.answer (equals-there c.args.self.now.place c.feed.new.self c.args.token.now c.on.new.self c.in-Done-default-eq0.field-0 c.in-Done-default-eq0.field-1 (rw c.in-Done-default-eq0.is at c.feed.ensures.fed) (search rules) (ap (λ (s : LoadScan). s.stage) c.on.ensures.scan) (ap (λ (s : LoadScan). s.place) c.on.ensures.scan) (ap (λ (s : LoadScan). s.file) c.on.ensures.scan ∙ c.restart.ensures.scan))

pub returns-in-Done : goal.returns-in-Done
returns-in-Done c =
    equals-before c.args.self.now.place c.feed.new.self c.args.token.now c.begin_name.new.self c.in-Done.field-0 c.in-Done.field-1 c.begin_name.result (rw c.in-Done.is at c.feed.ensures.fed) (search rules) c.begin_name.ensures

pub returns-in-Wrong : goal.returns-in-Wrong
returns-in-Wrong c =
    equals-wrong c.args.self.now.place c.feed.new.self c.args.token.now _ c.in-Wrong.error (rw c.in-Wrong.is at c.feed.ensures.fed)
