use Rattle.std.proofs.Common.{refl, rules}
use Rattle.tx_scan.specs.declared.scans.IntStage.TheVariants.{Given}
use Rattle.tx_scan.proofs.IntegerSteps.{at-place, named-number}
use Rattle.tx_scan.proofs.scans.IntScan.feed_sign.Goals as goal

pub returns-in-Number-clause-fed : goal.returns-in-Number-clause-fed
returns-in-Number-clause-fed c =
    named-number c.args.self.now c.whole.new.self c.args.token.now c.in-Number.number _ c.whole.result
    c.requires (search rules) c.whole.ensures.whole (search rules)

pub returns-in-At-clause-fed : goal.returns-in-At-clause-fed
returns-in-At-clause-fed c =
    at-place c.args.self.now (record c.args.self.now { stage = Given 0 }) c.args.token.now c.in-At.place c.requires (search rules) refl
