use Rattle.std.proofs.Common.{rules, refl}
use Rattle.tx_shape.proofs.Steps.{family-before, family-on, family-there, family-wrong}
use Rattle.tx_shape.proofs.scans.ShapeScan.feed_family.Goals as goal

pub returns-in-More : goal.returns-in-More
returns-in-More c =
    family-on c.args.size c.args.family c.feed.new.self c.args.token.now _ c.in-More.want (rw c.in-More.is at c.feed.ensures.fed) refl

pub returns-in-Done-default-eq0 : goal.returns-in-Done-default-eq0
returns-in-Done-default-eq0 c =
    rw c.on.ensures.answer (family-there c.args.size c.args.family c.feed.new.self c.args.token.now c.on.new.self c.in-Done-default-eq0.field-0 c.in-Done-default-eq0.field-1 (rw c.in-Done-default-eq0.is at c.feed.ensures.fed) (search rules) (search rules))

pub returns-in-Done : goal.returns-in-Done
returns-in-Done c =
    family-before c.args.size c.args.family c.feed.new.self c.args.token.now c.feed_family_font.new.self c.in-Done.field-0 c.in-Done.field-1 c.feed_family_font.result (rw c.in-Done.is at c.feed.ensures.fed) (search rules) c.feed_family_font.ensures

pub returns-in-Wrong : goal.returns-in-Wrong
returns-in-Wrong c =
    family-wrong c.args.size c.args.family c.feed.new.self c.args.token.now _ c.in-Wrong.error (rw c.in-Wrong.is at c.feed.ensures.fed)
