use Rattle.std.proofs.Common.{ap, sym, ◌∙◌}
use Rattle.std.specs.Prelude.{reverse}
use Rattle.tx_cond.specs.Conditionals.{begins_with_test}
use Rattle.tx_cond.proofs.Decided.{drop-at, drop-past}
use Rattle.tx_cond.proofs.stack.is_tested_at.Goals as goal

pub returns-in-Some : goal.returns-in-Some
returns-in-Some c = c.is_tested.ensures ∙ sym (ap begins_with_test (drop-at (reverse c.args.conditionals.now) c.args.place c.in-Some.conditional (sym c.open_at.ensures ∙ c.in-Some.is)))

pub returns-in-None : goal.returns-in-None
returns-in-None c = sym (ap begins_with_test (drop-past (reverse c.args.conditionals.now) c.args.place (sym c.open_at.ensures ∙ c.in-None.is)))
