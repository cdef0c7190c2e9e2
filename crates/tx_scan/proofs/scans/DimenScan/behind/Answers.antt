use Rattle.std.proofs.Common.{◌∷◌, refl, arith}
use Rattle.tx_num.specs.Decimals.{fraction_of}
use Rattle.tx_seen.specs.declared.item.Item.TheVariants.{Took}
use Rattle.tx_seen.specs.Readings.{next}
use Rattle.tx_scan.specs.IntegerRests as integers
use Rattle.tx_scan.specs.Dimensions.{ended_with, measured, numbered_unit}
use Rattle.tx_scan.specs.DimensionRests.{more_needed}
use Rattle.tx_scan.proofs.Mathematical.{mu-fed}
use Rattle.tx_scan.proofs.Mosts.{most-integer}
use Rattle.tx_scan.proofs.Quantities.{behind_it, fed-at, fed-at-all, needs-wider-ok}
use Rattle.tx_scan.proofs.scans.DimenScan.behind.Goals as goal

pub returns-in-Coefficient-clause-fed : goal.returns-in-Coefficient-clause-fed
returns-in-Coefficient-clause-fed c =
    fed-at (integers.most c.args.self.now.number) (λ more. next (integers.rest c.args.self.now.number (behind_it c.args.self.now) (Took c.args.token.now) more) (numbered_unit c.args.self.now.units c.args.self.now.negative)) c.args.self.now c.feed_coefficient.new.self c.args.token.now c.feed_coefficient.result
    (rw c.in-Coefficient.is (most-integer c.args.self.now.number)) (λ behind more. rw c.in-Coefficient.is refl) c.feed_coefficient.ensures.fed

pub returns-in-Coefficient-clause-needed : goal.returns-in-Coefficient-clause-needed
returns-in-Coefficient-clause-needed c =
    needs-wider-ok c.feed_coefficient.result (integers.waiting c.args.self.now.number) (more_needed c.args.self.now) (more_needed c.feed_coefficient.new.self) (rw c.in-Coefficient.is (omega arith)) c.feed_coefficient.ensures.needed

pub returns-in-Quantity-clause-fed : goal.returns-in-Quantity-clause-fed
returns-in-Quantity-clause-fed c =
    fed-at-all (integers.most c.args.self.now.number) (λ behind more. next (integers.rest c.args.self.now.number behind (Took c.args.token.now) more) (ended_with c.args.self.now.negative (fraction_of c.args.self.now.digits) c.in-Quantity.amount)) c.args.self.now c.feed_quantity.new.self c.args.token.now c.feed_quantity.result
    (rw c.in-Quantity.is (most-integer c.args.self.now.number)) (λ behind more. rw c.in-Quantity.is refl) c.feed_quantity.ensures.fed

pub returns-in-Unit-clause-fed : goal.returns-in-Unit-clause-fed
returns-in-Unit-clause-fed c =
    fed-at 0 (λ more. measured c.args.self.now.units c.args.self.now.negative c.in-Unit.whole (fraction_of c.args.self.now.digits) (Took c.args.token.now ∷ more)) c.args.self.now c.feed_unit.new.self c.args.token.now c.feed_unit.result
    (omega arith) (λ behind more. rw c.in-Unit.is refl) c.feed_unit.ensures.fed

pub returns-in_ok-fed-in-Mathematical-clause-fed : goal.returns-in_ok-fed-in-Mathematical-clause-fed
returns-in_ok-fed-in-Mathematical-clause-fed c =
    mu-fed c.args.self.now c.feed.new.self c.in-Mathematical.amount c.args.token.now c.in_ok-fed-in-Mathematical.fed c.mathematical.result
    c.in-Mathematical.is c.in_ok-fed-in-Mathematical.ensures.fed c.mathematical.ensures.answer
