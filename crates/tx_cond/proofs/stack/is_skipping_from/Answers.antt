use Rattle.std.proofs.Common.{ap, sym, ◌∙◌}
use Rattle.std.specs.Prelude.{reverse}
use Rattle.tx_cond.specs.Conditionals.{is_skipped}
use Rattle.tx_cond.proofs.Decided.{drop-at, drop-past}
use Rattle.tx_cond.proofs.stack.is_skipping_from.Goals as goal

pub returns-in-Some : goal.returns-in-Some
returns-in-Some c = c.is_skipping.ensures ∙ sym (ap is_skipped (drop-at (reverse c.args.conditionals.now) c.args.place c.in-Some.conditional (sym c.open_at.ensures ∙ c.in-Some.is)))

pub returns-in-None : goal.returns-in-None
returns-in-None c = sym (ap is_skipped (drop-past (reverse c.args.conditionals.now) c.args.place (sym c.open_at.ensures ∙ c.in-None.is)))
