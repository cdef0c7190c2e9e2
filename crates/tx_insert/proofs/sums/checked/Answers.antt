use Rattle.std.proofs.Common.{◌∙◌, sym}
use Rattle.tx_insert.proofs.Fitting.{where-fit, where-unfit, small}
use Rattle.tx_insert.proofs.sums.checked.Goals as goal

pub returns-then-all_fit-clause-value : goal.returns-then-all_fit-clause-value
returns-then-all_fit-clause-value c = where-fit c.args.sums (sym c.all_fit.ensures ∙ c.if-all_fit.true)

pub returns-then-all_fit-clause-small : goal.returns-then-all_fit-clause-small
returns-then-all_fit-clause-small c = small c.args.sums (sym c.all_fit.ensures ∙ c.if-all_fit.true)

pub returns-else-all_fit-clause-value : goal.returns-else-all_fit-clause-value
returns-else-all_fit-clause-value c = where-unfit c.args.sums (sym c.all_fit.ensures ∙ c.if-all_fit.false)
