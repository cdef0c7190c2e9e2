use Rattle.tx_cond.proofs.Comparands.{number-fed-ok, size-fed}
use Rattle.tx_cond.proofs.test.ComparandScan.feed.Goals as goal

pub returns-in-Number-clause-fed : goal.returns-in-Number-clause-fed
returns-in-Number-clause-fed c = number-fed-ok c.args.self.now c.args.token.now c.feed.new.self c.feed.result c.in-Number.is c.feed.ensures.fed

pub returns-in_ok-feed-in-Size-clause-fed : goal.returns-in_ok-feed-in-Size-clause-fed
returns-in_ok-feed-in-Size-clause-fed c = rw c.in_points.ensures (size-fed c.args.self.now c.args.token.now c.feed-in-Size.new.self c.in_ok-feed-in-Size.field-0 c.in-Size.is c.in_ok-feed-in-Size.ensures.fed)
