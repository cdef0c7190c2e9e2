use Rattle.std.proofs.Common.{List, ap, ◌∙◌, arith, drop}
use Rattle.tx_char.specs.declared.tokens.Token.{Token}
use Rattle.tx_pending.specs.Tails.{ListTail}
use Rattle.tx_pending.proofs.ListSteps.{left-passed}
use Rattle.tx_pending.proofs.list.ListReading.pass.Goals as goal

pub returns-then-self : goal.returns-then-self
returns-then-self c =
    let tail : List Token → ListTail = λ l. record { left = l; marked = c.self.inside.marked } in
    ap tail (left-passed c.self.inside.list c.self.inside.read c.self.inside.end (omega arith)) ∙ ap (λ (t : ListTail). record { left = drop 1 t.left; marked = t.marked }) c.self.view_is
