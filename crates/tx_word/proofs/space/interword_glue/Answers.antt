use Rattle.std.proofs.Common.{◌≡◌, ◌↔◌, subst, w64, of_z, to_z, to_z-of_z}
use Rattle.std.specs.Prelude.{IsOk, IfOk}
use Rattle.tx_num.specs.Glue.{GlueSpec, IsGlue}
use Rattle.tx_word.specs.Sizes.{glue_of_sizes}
use Rattle.tx_word.proofs.Spaced.{factored, read_back}
use Rattle.tx_word.proofs.space.interword_glue.Goals as goal

pub returns-clause-glue : goal.returns-clause-glue
returns-clause-glue c =
    let factor : to_z w64 (of_z w64 c.args.factor) ≡ c.args.factor = to_z-of_z c.ranges.factor in
    subst (λ (g : GlueSpec). IfOk c.at_factor.result (λ (r : GlueSpec). r ≡ g))
    (factored c.args.fonts.now c.args.params.now c.args.font c.args.factor c.extra_space.result _ _ (glue_of_sizes c.plain_space.result)
    factor (read_back c.extra_space.result c.extra_space.ensures.small) c.if-is_xspaceskip.ensures c.extra_space.ensures.value c.plain_space.ensures.value)
    c.at_factor.ensures.glue

pub returns-clause-overflow : goal.returns-clause-overflow
returns-clause-overflow c =
    let factor : to_z w64 (of_z w64 c.args.factor) ≡ c.args.factor = to_z-of_z c.ranges.factor in
    subst (λ (g : GlueSpec). IsOk c.at_factor.result ↔ IsGlue g)
    (factored c.args.fonts.now c.args.params.now c.args.font c.args.factor c.extra_space.result _ _ (glue_of_sizes c.plain_space.result)
    factor (read_back c.extra_space.result c.extra_space.ensures.small) c.if-is_xspaceskip.ensures c.extra_space.ensures.value c.plain_space.ensures.value)
    c.at_factor.ensures.overflow
