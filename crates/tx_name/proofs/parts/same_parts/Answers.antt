use Rattle.std.proofs.Common.{refl, sym, ◌∙◌}
use mathlib.Core.Bool.{false≢true}
use Rattle.tx_name.proofs.Held.{same-here, same-more}
use Rattle.tx_name.proofs.parts.same_parts.Goals as goal

pub returns-then-not-same : goal.returns-then-not-same
returns-then-not-same g c = (
  λ no. absurd (false≢true no),
  λ same. c.if-not-same.ensures.1 (c.as_ref.ensures ∙ same-here _ _ _ _ _ c.loop-k-test.true c.if-some-others.false c.index-some-k.is c.index-others-k.is same ∙ sym c.as_ref-in-loop-k.ensures),
)

pub loop-k-preserved : goal.loop-k-preserved
loop-k-preserved g c = same-more _ _ _ _ _ c.loop-k-test.true c.if-some-others.false c.index-some-k.is c.index-others-k.is c.loop-k.invariant (sym c.as_ref.ensures ∙ c.if-not-same.ensures.0 refl ∙ c.as_ref-in-loop-k.ensures)
