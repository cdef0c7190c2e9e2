use Rattle.std.proofs.Common.{Option, ap, arith, drop, sym, ◌++◌, ◌∙◌}
use Rattle.std.specs.Prelude.{option_to_list, reverse}
use Rattle.std.proofs.lemmas.List.{length-reverse}
use Rattle.tx_list.proofs.Reversed.{rest-reversed}
use Rattle.tx_cond.specs.declared.types.Conditional.{Conditional}
use Rattle.tx_cond.proofs.FromInside.{set-first}
use Rattle.tx_cond.proofs.stack.follow.Goals as goal

pub returns-in-Some : goal.returns-in-Some
returns-in-Some c =
    let xs = reverse c.args.conditionals.now in
    c.put.ensures
    ∙ set-first xs c.in-Some.next (omega (arith, length-reverse c.args.conditionals.now, c.requires))
    ∙ sym (ap (λ (next : Option Conditional). option_to_list next ++ drop 1 xs) c.in-Some.is)

pub returns-in-None : goal.returns-in-None
returns-in-None c =
    rest-reversed c.pop.result c.args.conditionals.now c.pop.new.self c.pop.ensures
    ∙ sym (ap (λ (next : Option Conditional). option_to_list next ++ drop 1 (reverse c.args.conditionals.now)) c.in-None.is)
