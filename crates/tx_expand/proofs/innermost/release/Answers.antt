use Rattle.std.proofs.Common.{◌≡◌, ◌∙◌, ap, sym, rules, List, Some}
use Rattle.tx_expand.specs.declared.begun.Begun.{Begun}
use Rattle.tx_expand.specs.Expanding.{reader}
use Rattle.tx_expand.specs.Turns.{held_back}
use Rattle.tx_expand.proofs.Releasing.{fewer-held, none-held, one-released}
use Rattle.tx_expand.proofs.innermost.release.Goals as goal

pub loop-token-preserved : goal.loop-token-preserved
loop-token-preserved c =
    let held : held_back c.loop-token.begun ≡ Some c.in-Some.token = sym c.in_ok-token.ensures ∙ c.in-Some.is in
    λ conditionals job.
    one-released c.loop-token.begun c.drop_first.new.self c.in-Some.token c.loop-token.input c.give_back.new.self conditionals job held
    c.drop_first.ensures (search rules)
    ∙ c.loop-token.invariant conditionals job

pub loop-token-smaller : goal.loop-token-smaller
loop-token-smaller c =
    fewer-held c.loop-token.begun c.drop_first.new.self c.in-Some.token (sym c.in_ok-token.ensures ∙ c.in-Some.is) c.drop_first.ensures

pub returns : goal.returns
returns c = λ conditionals job.
    ap (λ (bs : List Begun). reader bs c.loop-token.input conditionals job) c.drop_once.ensures
    ∙ (sym (none-held c.loop-token.begun c.loop-token.input conditionals job (search rules))
    ∙ c.loop-token.invariant conditionals job)
