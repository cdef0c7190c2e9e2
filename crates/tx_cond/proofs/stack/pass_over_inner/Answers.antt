use Rattle.std.proofs.Common.{List, ap, arith, drop, rules, take, ◌-◌, ◌∙◌}
use Rattle.std.specs.Prelude.{reverse}
use Rattle.tx_cond.specs.declared.types.Conditional.{Conditional}
use Rattle.tx_cond.specs.Conditionals.{within_all}
use Rattle.tx_cond.proofs.Decided.{pass-skipped, pass-live}
use Rattle.tx_cond.proofs.stack.pass_over_inner.Goals as goal

pub loop-inner-preserved-then-is_skipping_from : goal.loop-inner-preserved-then-is_skipping_from
loop-inner-preserved-then-is_skipping_from c = record {
  place = search rules;
  left =
      ap (λ (zs : List Conditional). within_all (take (c.loop-inner.inner - 1) zs) (drop (c.loop-inner.inner - 1) zs)) c.put.ensures
      ∙ pass-skipped (reverse c.loop-inner.conditionals) (c.loop-inner.inner - 1) c.loop-inner.inner (omega (arith, c.loop-inner-test.true)) c.loop-inner.invariant.place (search rules)
      ∙ c.loop-inner.invariant.left;
}

pub loop-inner-preserved : goal.loop-inner-preserved
loop-inner-preserved c = record {
  place = omega (arith, c.loop-inner.invariant.place);
  left = pass-live _ _ c.loop-inner.inner (omega (arith, c.loop-inner-test.true)) c.loop-inner.invariant.place (search rules) ∙ c.loop-inner.invariant.left;
}
