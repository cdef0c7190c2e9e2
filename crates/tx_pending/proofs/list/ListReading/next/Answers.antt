use Rattle.std.proofs.Common.{◌≡◌, List, ap, sym, ◌∙◌, arith, get_or}
use Rattle.tx_char.specs.declared.tokens.Token.{Token}
use Rattle.tx_pending.specs.Tails.{ListTail}
use Rattle.tx_pending.proofs.ListSteps.{left-cons}
use Rattle.tx_pending.proofs.list.ListReading.next.Goals as goal

pub returns : goal.returns
returns c =
    let tail : List Token → ListTail = λ l. record { left = l; marked = c.self.inside.marked } in
    let is : c.in_ok-token.token ≡ get_or c.self.inside.list c.self.inside.read c.in_ok-token.token = cc (c.in_ok-token.ensures.cases) in
    sym c.self.view_is ∙ ap tail (left-cons c.self.inside.list c.self.inside.read c.self.inside.end c.in_ok-token.token (omega arith) (omega arith) is)
