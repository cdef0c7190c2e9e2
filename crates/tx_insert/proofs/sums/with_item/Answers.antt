use Rattle.std.proofs.Common.{◌∙◌, ap, to_z-of_z}
use Rattle.tx_insert.specs.Sums.{carried, if_fits}
use Rattle.tx_insert.proofs.sums.with_item.Goals as goal

pub returns-clause-value : goal.returns-clause-value
returns-clause-value c =
    c.checked.ensures.value
    ∙ ap if_fits c.carried.ensures
    ∙ ap (λ most. if_fits (carried most c.joined.result)) (to_z-of_z c.ranges.most)
    ∙ ap (λ sums. if_fits (carried c.args.most sums)) c.joined.ensures.value
