use Rattle.std.proofs.Common.{◌≡◌, sym, ap, ◌∙◌, subst, IfSome, ⊎_elim, inl, inr}
use Rattle.tx_seen.specs.Errors.{all, number_of, numbered}
use Rattle.tx_seen.proofs.Found.{found, has-number}
use Rattle.tx_seen.proofs.error.TexError.of_number.Goals as goal

pub returns-clause-numbered : goal.returns-clause-numbered
returns-clause-numbered c = subst (λ r. IfSome r (λ e. number_of e ≡ c.args.number)) (sym c.first_numbered.ensures) (has-number _ c.args.number)

pub returns-clause-each : goal.returns-clause-each
returns-clause-each c e is =
    ⊎_elim (λ first. inl (c.first_numbered.ensures ∙ ap (λ es. numbered es c.args.number) c.all.ensures ∙ ap (numbered all) (sym is) ∙ first)) (λ other. inr other) (found e)
