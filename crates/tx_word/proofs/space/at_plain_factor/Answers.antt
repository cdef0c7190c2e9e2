use Rattle.std.proofs.Common.{◌≡◌, ◌↔◌, subst}
use Rattle.std.specs.Prelude.{IsOk, IfOk}
use Rattle.tx_num.specs.Glue.{GlueSpec, IsGlue, glue_of}
use Rattle.tx_word.proofs.Spaced.{read_plain, read_sum}
use Rattle.tx_word.proofs.space.at_plain_factor.Goals as goal

pub returns-clause-glue : goal.returns-clause-glue
returns-clause-glue c =
    subst (λ (g : GlueSpec). IfOk c.try_new.result (λ (r : GlueSpec). r ≡ g))
    (λ i. glue_of (read_sum c.args.sizes.width c.args.extra c.requires.small.width_in c.requires.extra_in i)
    (read_plain c.args.sizes.stretch c.requires.small.stretch_in i) c.args.sizes.stretch_order
    (read_plain c.args.sizes.shrink c.requires.small.shrink_in i) c.args.sizes.shrink_order)
    c.try_new.ensures.glue

pub returns-clause-overflow : goal.returns-clause-overflow
returns-clause-overflow c =
    subst (λ (g : GlueSpec). IsOk c.try_new.result ↔ IsGlue g)
    (λ i. glue_of (read_sum c.args.sizes.width c.args.extra c.requires.small.width_in c.requires.extra_in i)
    (read_plain c.args.sizes.stretch c.requires.small.stretch_in i) c.args.sizes.stretch_order
    (read_plain c.args.sizes.shrink c.requires.small.shrink_in i) c.args.sizes.shrink_order)
    c.try_new.ensures.overflow
