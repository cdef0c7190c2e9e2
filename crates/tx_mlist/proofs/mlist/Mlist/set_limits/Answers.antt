use Rattle.std.proofs.Common.{◌≡◌, ◌∙◌, ◌++◌, ◌∷◌, [], List, subst, sym, ap, OnOk}
use Rattle.tx_mlist.specs.Building as spec
use Rattle.tx_mlist.specs.Noads.{math_of}
use Rattle.tx_mlist.specs.Items.{MathItem}
use Rattle.tx_mlist.proofs.Lists.{changed_last}
use Rattle.tx_mlist.proofs.mlist.Mlist.set_limits.Goals as goal

pub returns-in_ok-with_limits-in-Some : goal.returns-in_ok-with_limits-in-Some
returns-in_ok-with_limits-in-Some c =
    let whole : c.args.self.now ≡ c.pop.new.self ++ math_of c.in-Some.noad ∷ [] = c.in-Some.ensures in
    let put : spec.limited c.args.limits c.args.self.now ≡ c.pop.new.self ++ math_of c.in_ok-with_limits-in-Some.field-0 ∷ [] =
    changed_last (spec.with_limits c.args.limits) c.args.self.now c.pop.new.self (math_of c.in-Some.noad) whole
    ∙ ap (λ item. c.pop.new.self ++ item ∷ []) (sym c.in_ok-with_limits-in-Some.ensures) in
    subst (λ (list : List MathItem). OnOk c.push.result (c.push.new.self ≡ list)) (sym put) c.push.ensures.ok
