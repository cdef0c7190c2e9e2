use Rattle.std.proofs.Common.{◌≡◌, ◌↔◌, ◌<◌, ℤ, pos, ◌*ℤ◌, refl, sym, ap, ◌∙◌, subst, arith, w64, of_z, to_z, to_z-of_z}
use Rattle.std.specs.Prelude.{IsOk, IfOk, int_div, unsigned_abs}
use Rattle.std.proofs.lemmas.Result.{err_from_is_err_and}
use Rattle.tx_num.specs.Glue.{GlueSpec, IsGlue, glue_of}
use Rattle.tx_word.specs.Sizes.{glue_of_sizes}
use Rattle.tx_word.specs.Spaces.{at_factor}
use Rattle.tx_word.proofs.Spaced.{read_back, read_quotient, read_sum}
use Rattle.tx_word.proofs.space.at_factor.Goals as goal

pub returns-in_err-shrink-clause-overflow : goal.returns-in_err-shrink-clause-overflow
returns-in_err-shrink-clause-overflow c =
    let p = err_from_is_err_and c.from_residual-in_err-shrink.result c.from_residual-in_err-shrink.ensures.1 in
    let shrink = read_back c.args.sizes.shrink c.requires.small.shrink_in in
    let factor : to_z w64 (of_z w64 c.args.factor) ≡ c.args.factor = to_z-of_z c.ranges.factor in
    let past : 1073741823 < unsigned_abs (int_div (c.args.sizes.shrink *ℤ pos 1000) c.args.factor) =
    subst (λ (z : ℤ). 1073741823 < unsigned_abs z) (λ i. int_div (shrink i *ℤ pos 1000) (factor i)) c.in_err-shrink.ensures.overflow in
    rw p.1 (λ ok. absurd (cc), λ g. absurd (omega (arith, g.shrink_in, past)))

pub returns-clause-glue : goal.returns-clause-glue
returns-clause-glue c =
    let stretch = read_back c.args.sizes.stretch c.requires.small.stretch_in in
    let shrink = read_back c.args.sizes.shrink c.requires.small.shrink_in in
    let factor : to_z w64 (of_z w64 c.args.factor) ≡ c.args.factor = to_z-of_z c.ranges.factor in
    subst (λ (g : GlueSpec). IfOk c.try_new.result (λ (r : GlueSpec). r ≡ g))
    (λ i. glue_of (read_sum c.args.sizes.width c.args.extra c.requires.small.width_in c.requires.extra_in i)
    (read_quotient c.in_ok-stretch.stretch c.args.sizes.stretch c.args.factor (pos 1000) _ _ (pos 1000) c.in_ok-stretch.ensures.overflow stretch factor refl c.in_ok-stretch.ensures.quotient i) c.args.sizes.stretch_order
    (read_quotient c.in_ok-shrink.shrink c.args.sizes.shrink (pos 1000) c.args.factor _ (pos 1000) _ c.in_ok-shrink.ensures.overflow shrink refl factor c.in_ok-shrink.ensures.quotient i) c.args.sizes.shrink_order)
    c.try_new.ensures.glue

pub returns-clause-overflow : goal.returns-clause-overflow
returns-clause-overflow c =
    let stretch = read_back c.args.sizes.stretch c.requires.small.stretch_in in
    let shrink = read_back c.args.sizes.shrink c.requires.small.shrink_in in
    let factor : to_z w64 (of_z w64 c.args.factor) ≡ c.args.factor = to_z-of_z c.ranges.factor in
    subst (λ (g : GlueSpec). IsOk c.try_new.result ↔ IsGlue g)
    (λ i. glue_of (read_sum c.args.sizes.width c.args.extra c.requires.small.width_in c.requires.extra_in i)
    (read_quotient c.in_ok-stretch.stretch c.args.sizes.stretch c.args.factor (pos 1000) _ _ (pos 1000) c.in_ok-stretch.ensures.overflow stretch factor refl c.in_ok-stretch.ensures.quotient i) c.args.sizes.stretch_order
    (read_quotient c.in_ok-shrink.shrink c.args.sizes.shrink (pos 1000) c.args.factor _ (pos 1000) _ c.in_ok-shrink.ensures.overflow shrink refl factor c.in_ok-shrink.ensures.quotient i) c.args.sizes.shrink_order)
    c.try_new.ensures.overflow

pub returns-then-factor-eq1000-clause-glue : goal.returns-then-factor-eq1000-clause-glue
returns-then-factor-eq1000-clause-glue c =
    let plain : pos 1000 ≡ c.args.factor = sym (ap (to_z w64) c.if-factor-eq1000.true) ∙ to_z-of_z c.ranges.factor in
    subst (λ (g : GlueSpec). IfOk c.at_plain_factor.result (λ (r : GlueSpec). r ≡ g))
    (λ i. at_factor (read_back c.args.extra c.requires.extra_in i) (plain i) (glue_of_sizes c.args.sizes))
    c.at_plain_factor.ensures.glue

pub returns-then-factor-eq1000-clause-overflow : goal.returns-then-factor-eq1000-clause-overflow
returns-then-factor-eq1000-clause-overflow c =
    let plain : pos 1000 ≡ c.args.factor = sym (ap (to_z w64) c.if-factor-eq1000.true) ∙ to_z-of_z c.ranges.factor in
    subst (λ (g : GlueSpec). IsOk c.at_plain_factor.result ↔ IsGlue g)
    (λ i. at_factor (read_back c.args.extra c.requires.extra_in i) (plain i) (glue_of_sizes c.args.sizes))
    c.at_plain_factor.ensures.overflow
