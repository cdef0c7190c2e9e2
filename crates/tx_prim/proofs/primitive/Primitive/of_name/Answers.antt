use Rattle.std.proofs.Common.{sym, ap, ◌∙◌, subst, IfSome, ◌≡◌}
use Rattle.tx_prim.specs.Table.{all, name_of, named}
use Rattle.tx_prim.proofs.Found.{found, has-name}
use Rattle.tx_prim.proofs.primitive.Primitive.of_name.Goals as goal

pub returns-clause-named : goal.returns-clause-named
returns-clause-named c = subst (λ r. IfSome r (λ p. name_of p ≡ c.args.name.now)) (sym c.first_named.ensures) (has-name _ c.args.name.now)

pub returns-clause-each : goal.returns-clause-each
returns-clause-each c p e = c.first_named.ensures ∙ ap (λ ps. named ps c.args.name.now) c.all.ensures ∙ ap (named all) (sym e) ∙ found p
