use Rattle.std.proofs.Common.{sym}
use Rattle.tx_node.specs.Nodes.{item_of}
use Rattle.tx_pack.proofs.Tests.{joined-fits, sums-are}
use Rattle.tx_pack.proofs.sums.any_if_fit.Goals as goal

pub returns-then-all_fit-clause-value : goal.returns-then-all_fit-clause-value
returns-then-all_fit-clause-value c = joined-fits c.args.direction c.args.sums.now (item_of c.args.node.now) c.joined-more.ensures c.if-asked_fit.ensures c.if-all_fit.ensures

pub returns-then-all_fit-clause-small : goal.returns-then-all_fit-clause-small
returns-then-all_fit-clause-small c = sums-are c.joined-more.result (sym c.if-all_fit.ensures)
