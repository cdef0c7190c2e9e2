use Rattle.std.proofs.Common.{◌≡◌, ◌-◌, ◌+◌, ◌≤◌, suc, ℕ, ◌∙◌, arith}
use Rattle.tx_request.specs.Reading.{changes_at}
use Rattle.tx_request.proofs.Batches.{going-on, going-over, going-stops}
use Rattle.tx_request.proofs.Streams.{err_as}
use Rattle.tx_request.proofs.read.changes.Goals as goal

one_fewer : (count at : ℕ) → suc at ≤ count → count - at ≡ suc (count - (at + 1))
one_fewer count at below = omega arith

none_left : (count at : ℕ) → count ≤ at → count - at ≡ 0
none_left count at past = omega arith

pub returns-in_err-change-clause-streams : goal.returns-in_err-change-clause-streams
returns-in_err-change-clause-streams g c =
    err_as c.from_residual.result c.in_err-change.field-0.0 (changes_at c.args.count) (g.I.Inlet.left c.args.inlet.now) (g.I.Inlet.left c.next_change.new.inlet) c.from_residual.ensures.1
    (going-stops (c.args.count - (c.loop-at._at + 1)) (c.args.count - c.loop-at._at) c.args.count (one_fewer c.args.count c.loop-at._at c.loop-at-test.true) c.loop-at.changes c.in_err-change.field-0.0
    (g.I.Inlet.left c.args.inlet.now) (g.I.Inlet.left c.loop-at.inlet) (g.I.Inlet.left c.next_change.new.inlet) c.loop-at.invariant.going c.in_err-change.ensures.streams)

pub loop-at-preserved : goal.loop-at-preserved
loop-at-preserved g c = record {
  going = going-on (c.args.count - (c.loop-at._at + 1)) (c.args.count - c.loop-at._at) c.args.count (one_fewer c.args.count c.loop-at._at c.loop-at-test.true) c.loop-at.changes c.push.new.self c.in_ok-change.change
      (g.I.Inlet.left c.args.inlet.now) (g.I.Inlet.left c.loop-at.inlet) (g.I.Inlet.left c.next_change.new.inlet) c.in_ok-push.ensures.ok c.loop-at.invariant.going c.in_ok-change.ensures.streams;
  counted = c.in_ok-change.ensures.cause ∙ c.loop-at.invariant.counted;
}

pub returns-clause-streams : goal.returns-clause-streams
returns-clause-streams g c =
    going-over (c.args.count - c.loop-at._at) c.args.count (none_left c.args.count c.loop-at._at c.loop-at-test.false) c.loop-at.changes (g.I.Inlet.left c.args.inlet.now) (g.I.Inlet.left c.loop-at.inlet) c.loop-at.invariant.going
