use Rattle.std.proofs.Common.{rules, refl}
use Rattle.tx_shape.proofs.Steps.{setting-before-ok, setting-on, setting-there, setting-wrong}
use Rattle.tx_shape.proofs.scans.ShapeScan.feed_setting.Goals as goal

pub returns-in-More : goal.returns-in-More
returns-in-More c =
    setting-on c.args.setting c.feed.new.self c.args.token.now _ c.in-More.want (rw c.in-More.is at c.feed.ensures.fed) refl

pub returns-in-Done-default-eq0 : goal.returns-in-Done-default-eq0
returns-in-Done-default-eq0 c =
    rw c.to_amount.ensures.answer (setting-there c.args.setting c.feed.new.self c.args.token.now c.to_amount.new.self c.in-Done-default-eq0.field-0 c.in-Done-default-eq0.field-1 c.args.self.now.glue (rw c.in-Done-default-eq0.is at c.feed.ensures.fed) (search rules) (rw (← c.amount_of.ensures) c.to_amount.ensures.scan))

pub returns-in-Done : goal.returns-in-Done
returns-in-Done c =
    setting-before-ok c.args.setting c.feed.new.self c.args.token.now c.begin_set.new.self c.in-Done.field-0 c.in-Done.field-1 c.begin_set.result (rw c.in-Done.is at c.feed.ensures.fed) (search rules) c.begin_set.ensures

pub returns-in-Wrong : goal.returns-in-Wrong
returns-in-Wrong c =
    setting-wrong c.args.setting c.feed.new.self c.args.token.now _ c.in-Wrong.error (rw c.in-Wrong.is at c.feed.ensures.fed)
