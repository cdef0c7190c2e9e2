use Rattle.std.proofs.Common.{List, ℕ, ◌-◌, length, take, rules, ap, sym, ◌∙◌}
use Rattle.tx_pending.specs.declared.source.Source.{Source}
use Rattle.tx_pending.specs.Elements.{begins_entry}
use Rattle.tx_pending.specs.Sources.{stack_elements}
use Rattle.tx_pending.proofs.StackSteps.{entry-taken, none-begins}
use Rattle.tx_pending.proofs.pending.take_entry.Goals as goal

pub returns-then-ends_part-clause-left : goal.returns-then-ends_part-clause-left
returns-then-ends_part-clause-left c =
    ap stack_elements c.pop.ensures.rest
    ∙ ap (λ (n : ℕ). stack_elements (take (n - 1) c.args.stack.now.items)) (sym c.deref.ensures.len ∙ ap length c.deref.ensures.value)
    ∙ entry-taken c.args.stack.now.items c.requires (sym (ap (λ (xs : List Source). begins_entry (stack_elements xs)) c.deref.ensures.value) ∙ (sym c.ends_part.ensures ∙ c.if-ends_part.true))

pub returns-clause-left : goal.returns-clause-left
returns-clause-left c = none-begins (stack_elements c.args.stack.now.items) (search rules)
