use Rattle.std.proofs.Common.{◌≡◌, ℤ, Bool, false, cond, w64, to_z, of_z, rules, Result, Err, sym, ap, ◌∙◌}
use Rattle.tx_insert.specs.declared.error.SplitError.{SplitError}
use Rattle.tx_insert.specs.declared.kind.Kind.{Kind}
use Rattle.tx_insert.specs.declared.sums.Sums.{Sums}
use Rattle.tx_insert.specs.Kinds.{shrinks_endlessly}
use Rattle.tx_insert.specs.Sums.{with_item}
use Rattle.tx_pagebuilder.specs.declared.error.PageError.{PageError}
use Rattle.tx_pagebuilder.specs.declared.error.PageError.TheVariants.{EndlessShrink}
use Rattle.tx_pagebuilder.specs.declared.measures.Measures.{Measures}
use Rattle.tx_pagebuilder.specs.Placing as spec
use Rattle.tx_pagebuilder.proofs.placing.added.Goals as goal

-- what doesn't shrink infinitely is added with its sums
with-sums : (m : Measures) (kind : Kind) (most : ℤ) (sums : Result Sums SplitError) (made : Result Measures PageError)
    → shrinks_endlessly kind ≡ false → most ≡ m.most → sums ≡ with_item most m.sums kind → made ≡ spec.with_sums m kind sums → made ≡ spec.added m kind
with-sums m kind most sums made ends same has is =
    is
    ∙ ap (λ (r : Result Sums SplitError). spec.with_sums m kind r) (has ∙ ap (λ (z : ℤ). with_item z m.sums kind) same)
    ∙ sym (ap (λ (b : Bool). cond b (Err EndlessShrink) (spec.with_sums m kind (with_item m.most m.sums kind))) ends)

pub returns-clause-value : goal.returns-clause-value
returns-clause-value c =
    with-sums c.args.measures.now c.args.kind.now (to_z w64 (of_z w64 c.wide.result)) c.with_item-sums.result c.with_sums.result
    (sym c.shrinks_endlessly.ensures ∙ c.if-shrinks_endlessly.false) (search rules) c.with_item-sums.ensures.value c.with_sums.ensures.value
