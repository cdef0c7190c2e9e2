use Rattle.std.proofs.Common.{rules}
use Rattle.tx_num.specs.Decimals.{fraction_of}
use Rattle.tx_scan.proofs.Quantities.{size-begins, mathematical-begins, factor-begins}
use Rattle.tx_scan.proofs.scans.DimenScan.begin_quantity.Goals as goal

pub returns-then-not-is_size-clause-fed : goal.returns-then-not-is_size-clause-fed
returns-then-not-is_size-clause-fed c =
    factor-begins c.args.self.now.units c.args.self.now.negative c.args.self.now.behind c.restart.new.self c.args.token.now c.feed_coefficient.new.self c.feed_coefficient.result c.args.is_size (search rules) c.restart.ensures.scan c.feed_coefficient.ensures.fed

pub returns-then-self-clause-fed : goal.returns-then-self-clause-fed
returns-then-self-clause-fed c =
    mathematical-begins c.args.self.now.units c.args.self.now.negative (fraction_of c.args.self.now.digits) c.args.token.now c.beginning.result c.begin_mathematical.new.self c.begin_mathematical.result c.args.is_size (search rules) (search rules) (search rules) (c.begin_mathematical.ensures.fed c.args.token.now)

pub returns-clause-fed : goal.returns-clause-fed
returns-clause-fed c =
    size-begins c.args.self.now.units c.args.self.now.negative (fraction_of c.args.self.now.digits) c.restart.new.self c.args.token.now c.feed_quantity.new.self c.feed_quantity.result c.args.is_size (search rules) (search rules) c.restart.ensures.scan c.feed_quantity.ensures.fed
