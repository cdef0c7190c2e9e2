use Rattle.tx_quiesce.proofs.Candidates.{next-is}
use Rattle.tx_quiesce.proofs.tails.next_ascending.Goals as goal

pub returns : goal.returns
returns c = next-is c.args.origin c.args.from c.next_equal.result c.args.numbers.now c.next_equal.ensures
