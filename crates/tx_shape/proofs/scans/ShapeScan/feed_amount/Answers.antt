use Rattle.std.proofs.Common.{[], lit≤}
use Rattle.tx_seen.specs.declared.item.Item.TheVariants.{Took}
use Rattle.tx_shape.specs.AmountRests.{amount_held, amount_needed, amount_rest}
use Rattle.tx_scan.proofs.Behind.{fed-one}
use Rattle.tx_shape.proofs.Amounts.{fed-whole}
use Rattle.tx_shape.proofs.scans.ShapeScan.feed_amount.Goals as goal

pub returns-clause-fed : goal.returns-clause-fed
returns-clause-fed c =
    fed-whole c.args.self.now c.go_on.new.self c.feed.new.self c.args.token.now c.in_ok-fed.fed c.go_on.result c.requires c.in_ok-fed.ensures.fed c.go_on.ensures.fed

pub returns-clause-needs : goal.returns-clause-needs
returns-clause-needs c =
    rw c.requires (c.go_on.ensures.needs (amount_needed c.args.self.now.amount) c.in_ok-fed.ensures.needs)

pub returns-clause-waits : goal.returns-clause-waits
returns-clause-waits c =
    c.go_on.ensures.waits (fed-one amount_rest amount_held 1 (λ more. amount_rest c.args.self.now.amount [] (Took c.args.token.now) more) c.args.token.now c.feed.new.self c.in_ok-fed.fed (lit≤ tt) (c.in_ok-fed.ensures.fed []))
