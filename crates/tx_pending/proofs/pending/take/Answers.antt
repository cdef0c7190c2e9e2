use Rattle.std.proofs.Common.{arith, ap, sym, subst, ◌∙◌, ◌≡◌, ◌≢◌, ◌+◌, ◌-◌, List, length, false-eqb}
use Rattle.tx_pending.specs.declared.source.Source.{Source}
use Rattle.tx_pending.specs.Sources.{stack_elements}
use Rattle.tx_pending.specs.Steps.{Takes}
use Rattle.tx_pending.proofs.StackSteps.{takes-top, takes-line}
use Rattle.tx_pending.proofs.pending.take.Goals as goal
use Rattle.tx_pending.proofs.pending.take.Goals.{then-is_used, else-is_used}

pub returns : goal.returns
returns g c =
    let stack = c.args.stack.now.items in
    let P : List Source → Type 0 = λ left. Takes c.args.codes.now c.args.closing (stack_elements stack) c.in_ok-next.next (stack_elements left) in
    let some : c.args.stack.now.len ≢ 0 = false-eqb c.args.stack.now.len 0 (sym (sym c.is_empty.ensures ∙ c.if-is_empty.false)) in
    let long : length stack ≡ c.len-top.result - 1 + 1 = omega (arith, c.args.stack.now.ok, c.len-top.ensures) in
    elim c.if-is_used.branch [
      | then-is_used w ↦
          subst P (sym (ap (λ v. v.items) w.stack-is ∙ w.truncate.ensures.items))
          (takes-line c.args.codes.now c.args.closing stack (c.len-top.result - 1) c.index_mut.result.now c.next.new.self c.in_ok-next.next long c.index_mut.ensures.value c.in_ok-next.ensures (sym c.is_used.ensures ∙ w.if-is_used.true))
      | else-is_used w ↦
          subst P (sym (ap (λ v. v.items) w.stack-is))
          (takes-top c.args.codes.now c.args.closing stack (c.len-top.result - 1) c.index_mut.result.now c.next.new.self c.in_ok-next.next long c.index_mut.ensures.value c.in_ok-next.ensures (sym c.is_used.ensures ∙ w.if-is_used.false))
    ]
