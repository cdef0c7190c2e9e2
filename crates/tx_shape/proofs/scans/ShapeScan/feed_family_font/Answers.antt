use Rattle.std.proofs.Common.{refl}
use Rattle.tx_shape.proofs.Steps.{family-font-on, family-font-there, family-font-wrong}
use Rattle.tx_shape.proofs.scans.ShapeScan.feed_family_font.Goals as goal

pub returns-in-More : goal.returns-in-More
returns-in-More c =
    family-font-on c.args.size c.args.family c.feed.new.self c.args.token.now _ c.in-More.want (rw c.in-More.is at c.feed.ensures.fed) refl

pub returns-in-Done : goal.returns-in-Done
returns-in-Done c =
    family-font-there c.args.size c.args.family c.feed.new.self c.args.token.now c.args.self.now c.in-Done.font c.in-Done.back (rw c.in-Done.is at c.feed.ensures.fed)

pub returns-in-Wrong : goal.returns-in-Wrong
returns-in-Wrong c =
    family-font-wrong c.args.size c.args.family c.feed.new.self c.args.token.now _ c.in-Wrong.error (rw c.in-Wrong.is at c.feed.ensures.fed)
