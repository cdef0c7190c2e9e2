use Rattle.std.proofs.Common.{rules}
use Rattle.tx_scan.specs.declared.scans.DimenStage.TheVariants.{Mathematical}
use Rattle.tx_scan.proofs.Mathematical.{mu-behind, mu-font, mu-parameter}
use Rattle.tx_scan.proofs.scans.DimenScan.begin_mathematical.Goals as goal

pub returns-in-Numbered-clause-fed : goal.returns-in-Numbered-clause-fed
returns-in-Numbered-clause-fed c = λ t.
    rw c.in-Numbered.is (mu-behind c.args.self.now (record c.args.self.now { stage = Mathematical c.args.amount; quantity = c.begin_behind-fed.new.self }) c.args.amount c.in-Numbered.kind t c.mathematical-in-Numbered.result (search rules) (search rules))

pub returns-in-FontDimen-clause-fed : goal.returns-in-FontDimen-clause-fed
returns-in-FontDimen-clause-fed c = λ t.
    rw c.in-FontDimen.is (mu-parameter c.args.self.now (record c.args.self.now { stage = Mathematical c.args.amount; quantity = c.begin_parameter-fed.new.self }) c.args.amount t c.mathematical-in-FontDimen.result (search rules) (search rules))

pub returns-in-FontInteger-clause-fed : goal.returns-in-FontInteger-clause-fed
returns-in-FontInteger-clause-fed c = λ t.
    rw c.in-FontInteger.is (mu-font c.args.self.now (record c.args.self.now { stage = Mathematical c.args.amount; quantity = c.begin_font-fed.new.self }) c.args.amount c.in-FontInteger.kind t c.mathematical-in-FontInteger.result (search rules) (search rules))
