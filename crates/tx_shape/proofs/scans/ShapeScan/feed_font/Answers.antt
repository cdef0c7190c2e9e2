use Rattle.std.proofs.Common.{refl}
use Rattle.tx_shape.proofs.Steps.{font-done, font-on, font-wrong}
use Rattle.tx_shape.proofs.scans.ShapeScan.feed_font.Goals as goal

pub returns-in-More : goal.returns-in-More
returns-in-More c =
    font-on c.args.sought c.feed.new.self c.args.token.now _ c.in-More.want (rw c.in-More.is at c.feed.ensures.fed) refl

pub returns-in-Done : goal.returns-in-Done
returns-in-Done c =
    font-done c.args.sought c.feed.new.self c.args.token.now c.to_setting.new.self c.in-Done.font c.in-Done.field-1 c.to_setting.result (rw c.in-Done.is at c.feed.ensures.fed) c.to_setting.ensures.reads c.to_setting.ensures.needs c.to_setting.ensures.waits

pub returns-in-Wrong : goal.returns-in-Wrong
returns-in-Wrong c =
    font-wrong c.args.sought c.feed.new.self c.args.token.now _ c.in-Wrong.error (rw c.in-Wrong.is at c.feed.ensures.fed)
