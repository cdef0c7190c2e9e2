use Rattle.std.proofs.Common.{◌≡◌, ◌+◌, ◌<◌, List, length, get_or, arith, ap, sym, ◌∙◌}
use Rattle.std.proofs.lemmas.Result.{IfOk-weaker}
use Rattle.tx_char.specs.declared.tokens.Token.{Token}
use Rattle.tx_macro.specs.Rests.{others}
use Rattle.tx_macro.proofs.Same.{never}
use Rattle.tx_macro.proofs.Uses.{before-fails, before-over}
use Rattle.tx_macro.proofs.advance.advance_before.Goals as goal

pub returns-then-not-wanted-clause-rest : goal.returns-then-not-wanted-clause-rest
returns-then-not-wanted-clause-rest c more =
    let x = c.index-before-met.result in
    let is : x ≡ get_or c.args.made.now.parameters.before c.args.met x = c.index-before-met.is ∙ ap (λ (l : List Token). get_or l c.args.met x) c.before-before.ensures.lent in
    before-fails c.args.made.now c.args.met x c.args.token more c.requires is (λ e. never c.if-not-wanted.true (c.same-wanted.ensures.1 e))

pub returns-clause-rest : goal.returns-clause-rest
returns-clause-rest c =
    let x = c.index-before-met.result in
    let is : x ≡ get_or c.args.made.now.parameters.before c.args.met x = c.index-before-met.is ∙ ap (λ (l : List Token). get_or l c.args.met x) c.before-before.ensures.lent in
    let l : length c.before-before.result.now ≡ length c.args.made.now.parameters.before = ap length c.before-before.ensures.lent in
    let short : c.args.met < length c.args.made.now.parameters.before = c.requires in
    let last : c.args.met + 1 ≡ length c.args.made.now.parameters.before = omega (arith, c.if-met-before.false) in
    IfOk-weaker c.begin.result _ _ (λ now h more.
    before-over c.args.made.now c.args.met x c.args.token more last is (c.same-wanted.ensures.0 c.if-not-wanted.false)
    ∙ ap (λ (from : List (List Token)). others c.args.made.now from more) (sym c.clear.ensures)
    ∙ h more)
    c.begin.ensures.rest
