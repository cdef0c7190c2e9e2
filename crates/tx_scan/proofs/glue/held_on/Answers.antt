use Rattle.std.proofs.Common.{rules}
use Rattle.tx_scan.proofs.GlueSteps.{held-more, held-none, held-space, held-first}
use Rattle.tx_scan.proofs.glue.held_on.Goals as goal

pub returns-then-held-gt0 : goal.returns-then-held-gt0
returns-then-held-gt0 c = held-more c.args.held c.args.read c.args.token.now (search rules)

pub returns-then-read-eq0 : goal.returns-then-read-eq0
returns-then-read-eq0 c = held-none c.args.held c.args.read c.args.token.now (search rules) (search rules)

pub returns-then-is_space : goal.returns-then-is_space
returns-then-is_space c = held-space c.args.held c.args.read c.args.token.now (search rules) (search rules) (search rules)

pub returns-else-is_space : goal.returns-else-is_space
returns-else-is_space c = held-first c.args.held c.args.read c.args.token.now (search rules) (search rules) (search rules)
