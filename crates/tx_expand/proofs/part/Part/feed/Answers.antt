use Rattle.tx_expand.proofs.PartSteps.{quantity-first, shown-fed}
use Rattle.tx_expand.proofs.part.Part.feed.Goals as goal

pub returns-in-Quantity-clause-fed : goal.returns-in-Quantity-clause-fed
returns-in-Quantity-clause-fed c = quantity-first c.in-Quantity.to c.args.token.now c.args.self.now c.feed_quantity.new.self c.feed_quantity.result c.in-Quantity.is (rw c.in-Quantity.to-is at c.feed_quantity.ensures.fed)

pub returns-in_ok-feed-in-Shown-clause-fed : goal.returns-in_ok-feed-in-Shown-clause-fed
returns-in_ok-feed-in-Shown-clause-fed c =
    shown-fed c.in-Shown.to c.args.token.now c.args.self.now c.in-Shown.scan c.feed-in-Shown.new.self c.in_ok-feed-in-Shown.field-0 c.quantity_shown.result c.in-Shown.is c.in_ok-feed-in-Shown.ensures.part c.quantity_shown.ensures
