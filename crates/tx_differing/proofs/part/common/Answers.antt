use Rattle.std.proofs.Common.{◌≡◌, ◌+◌, drop, arith}
use Rattle.tx_differing.specs.Differing.{common}
use Rattle.tx_differing.proofs.Exchanged.{common-over}
use Rattle.tx_differing.proofs.part.common.Goals as goal

pub returns-clause-count : goal.returns-clause-count
returns-clause-count c =
    let over : c.loop-at.at + common (drop c.loop-at.at c.args.old.now) (drop c.loop-at.at c.args.new.now) ≡ c.loop-at.at =
    common-over c.loop-at.at c.args.old.now c.args.new.now (omega (arith, c.min-most.ensures, c.loop-at-test.false)) in
    omega (arith, over, c.loop-at.invariant, c.loop-at.auto.at-end, c.loop-at-test.false)
