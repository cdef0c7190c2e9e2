use Rattle.std.proofs.Common.{sym, ap, ◌∙◌, subst, IfSome, ◌≡◌}
use Rattle.tx_prim.specs.Expandables.{all, name_of, named}
use Rattle.tx_prim.proofs.Expanding.{found, has-name}
use Rattle.tx_prim.proofs.expandable.Expandable.of_name.Goals as goal

pub returns-clause-named : goal.returns-clause-named
returns-clause-named c = subst (λ r. IfSome r (λ e. name_of e ≡ c.args.name.now)) (sym c.first_named.ensures) (has-name _ c.args.name.now)

pub returns-clause-each : goal.returns-clause-each
returns-clause-each c e same = c.first_named.ensures ∙ ap (λ es. named es c.args.name.now) c.all.ensures ∙ ap (named all) (sym same) ∙ found e
