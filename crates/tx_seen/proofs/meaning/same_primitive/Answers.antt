use Rattle.std.proofs.Common.{rules, sym, ap, ◌∙◌}
use Rattle.std.specs.Option.{unwrap_or}
use Rattle.std.proofs.lemmas.Slice.Eq.{slice_eq-Decides}
use Rattle.tx_prim.specs.Table.{all, name_of, named}
use Rattle.tx_prim.proofs.Found.{found}
use Rattle.tx_seen.proofs.meaning.same_primitive.Goals as goal

-- a name leads back to its primitive
pub returns : goal.returns
returns c =
    let names = slice_eq-Decides (λ a b. search rules) _ _ _ c.eq.ensures in (
      λ true. ap (λ o. unwrap_or o c.args.one) (sym (found c.args.one) ∙ ap (named all) (sym c.name.ensures ∙ names.0 true ∙ c.name-2.ensures) ∙ found c.args.other),
      λ same. names.1 (c.name.ensures ∙ ap name_of same ∙ sym c.name-2.ensures),
    )
