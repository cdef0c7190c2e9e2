use Rattle.std.proofs.Common.{ℤ, ap, drop, sym, w64, ◌∙◌}
use Rattle.std.specs.Prelude.{reverse}
use Rattle.std.proofs.lemmas.Int.{to_z-of_z}
use Rattle.tx_cond.specs.Conditionals.{decide, within_all}
use Rattle.tx_cond.proofs.stack.CondStack.decide.Goals as goal

pub returns : goal.returns
returns c =
    let passed = to_z-of_z w64 c.args.branch c.ranges.branch in
    let outer = c.settle.ensures.outer ∙ ap (λ (b : ℤ). decide b (drop c.innermost_test-place.result (reverse c.self.inside.outermost_first))) passed in
    c.pass_over_inner.ensures
    ∙ (λ i. within_all (c.settle.ensures.inner i) (outer i))
    ∙ sym (c.innermost_test-place.ensures.inner c.args.branch)
    ∙ ap (decide c.args.branch) c.self.view_is
