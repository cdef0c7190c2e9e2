use Rattle.std.proofs.Common.{◌≤◌, ◌^◌, unsigned_abs, sym, subst}
use Rattle.tx_linebreak.proofs.Costs.{cost_back, cost_fits, cost_small}
use Rattle.tx_linebreak.proofs.demerits.cost.Goals as goal

pub overflow_add-result-4 : goal.overflow_add-result-4
overflow_add-result-4 c = cost_fits c.args.badness c.args.penalty c.args.class c.args.double c.args.last c.requires.badness c.requires.penalty c.requires.class c.requires.double c.requires.last

pub returns-clause-value : goal.returns-clause-value
returns-clause-value c = cost_back c.args.badness c.args.penalty c.args.class c.args.double c.args.last c.requires.badness c.requires.penalty c.requires.class c.requires.double c.requires.last

pub returns-clause-small : goal.returns-clause-small
returns-clause-small c = subst (λ z. unsigned_abs z ≤ 2 ^ 63) (sym (cost_back c.args.badness c.args.penalty c.args.class c.args.double c.args.last c.requires.badness c.requires.penalty c.requires.class c.requires.double c.requires.last)) (cost_small c.args.badness c.args.penalty c.args.class c.args.double c.args.last c.requires.badness c.requires.penalty c.requires.class c.requires.double c.requires.last)
