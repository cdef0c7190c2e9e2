use Rattle.std.proofs.Common.{List, ℕ, sym, subst}
use Rattle.std.specs.List.{AllByRecursion}
use Rattle.tx_gen.specs.Edits.{commands_of, IsReplacement}
use Rattle.tx_gen.proofs.Scripts.{commands-script, commands-replace}
use Rattle.tx_gen.proofs.making.make.Goals as goal

pub returns-clause-made : goal.returns-clause-made
returns-clause-made c = λ i. record { book = c.in_ok-fill.ensures.book i; font = c.in_ok-fill.ensures.font i; script = c.in_ok-fill.ensures.script i }

pub returns-clause-reads : goal.returns-clause-reads
returns-clause-reads c few = (commands-script c.args.seed c.args.pages few, c.in_ok-fill.ensures.script)

pub returns-clause-replaces : goal.returns-clause-replaces
returns-clause-replaces c =
    subst (λ (book : List ℕ). AllByRecursion (IsReplacement book) (commands_of c.args.seed c.args.pages)) (sym c.in_ok-fill.ensures.book) (commands-replace c.args.seed c.args.pages)
