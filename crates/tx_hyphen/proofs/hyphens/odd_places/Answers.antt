use Rattle.std.proofs.Common.{◌∙◌}
use Rattle.tx_hyphen.proofs.Odd.{even-passed, odd-taken}
use Rattle.tx_hyphen.proofs.hyphens.odd_places.Goals as goal
use Rattle.tx_hyphen.proofs.hyphens.odd_places.Goals.{then-level_at-eq1+in_ok-push, else-level_at-eq1}

pub loop-place-preserved : goal.loop-place-preserved
loop-place-preserved c =
    elim c.if-level_at-eq1.branch [
      | then-level_at-eq1+in_ok-push w ↦
          odd-taken _ _ _ _ _ _ _ c.loop-place-test.true c.level_at.ensures w.if-level_at-eq1.true (w.places-is ∙ w.in_ok-push.ensures.ok)
          c.loop-place.invariant
      | else-level_at-eq1 w ↦
          even-passed _ _ _ _ _ _ _ c.loop-place-test.true c.level_at.ensures w.if-level_at-eq1.false w.places-is c.loop-place.invariant
    ]
