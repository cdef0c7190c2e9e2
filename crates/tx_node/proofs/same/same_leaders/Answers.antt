use Rattle.tx_node.proofs.Equal.{same-leaders}
use Rattle.tx_node.proofs.same.same_leaders.Goals as goal

pub returns : goal.returns
returns c = same-leaders c.args.a c.args.b (c.same_kind.ensures.0 c.if-not-same_kind.false) (c.same_glue.ensures.0 c.if-not-same_glue.false) c.same_rule.ensures
