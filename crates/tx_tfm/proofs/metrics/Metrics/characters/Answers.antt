use Rattle.std.proofs.Common.{ℕ, ◌+◌, ◌<◌, List, get_or, sym, subst, arith}
use Rattle.tx_tfm.specs.declared.characters.CharacterMetrics.{CharacterMetrics}
use Rattle.tx_tfm.specs.Characters.{IsSaid, unsaid}
use Rattle.tx_tfm.proofs.Said.{said-more}
use Rattle.tx_tfm.proofs.metrics.Metrics.characters.Goals as goal

pub loop-code-preserved : goal.loop-code-preserved
loop-code-preserved c = (
  omega (arith, c.in_ok-push.ensures.len, c.loop-code.invariant.0),
  subst (λ (items : List CharacterMetrics). (k : ℕ) → k < c.loop-code.code + 1 → IsSaid c.args.self.now k (get_or items k unsaid)) (sym c.in_ok-push.ensures.items)
      (said-more c.args.self.now c.loop-code.by_code.items c.loop-code.code _ c.character.result (omega (arith, c.loop-code.invariant.0, c.loop-code.by_code.ok.0)) c.loop-code.invariant.1 c.character.ensures (omega arith)),
)
