use Rattle.std.proofs.Common.{◌≡◌, ◌-◌, ◌+◌, ◌≤◌, suc, ℕ, arith}
use Rattle.tx_script.proofs.Batches.{reading-begun, reading-on, reading-fails, reading-over}
use Rattle.tx_script.proofs.read.changes.Goals as goal

one_fewer : (count at : ℕ) → suc at ≤ count → count - at ≡ suc (count - (at + 1))
one_fewer count at below = omega arith

none_left : (count at : ℕ) → count ≤ at → count - at ≡ 0
none_left count at past = omega arith

pub loop-at-init : goal.loop-at-init
loop-at-init c = reading-begun c.args.count c.args.bytes.now c.new-changes.result c.new-changes.ensures

pub returns-in_err-change : goal.returns-in_err-change
returns-in_err-change c =
    reading-fails c.loop-at.invariant (c.args.count - (c.loop-at._at + 1)) (one_fewer c.args.count c.loop-at._at c.loop-at-test.true) (λ x. (x.0, x.1.now)) c.from_residual.result c.in_err-change.field-0.0 c.from_residual.ensures.1 c.in_err-change.ensures

pub loop-at-preserved : goal.loop-at-preserved
loop-at-preserved c =
    reading-on c.loop-at.invariant (c.args.count - (c.loop-at._at + 1)) (one_fewer c.args.count c.loop-at._at c.loop-at-test.true) c.in_ok-change.ensures c.in_ok-push.ensures.ok

pub returns : goal.returns
returns c = reading-over c.loop-at.invariant (none_left c.args.count c.loop-at._at c.loop-at-test.false)
