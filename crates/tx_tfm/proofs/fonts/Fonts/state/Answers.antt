use Rattle.std.proofs.Common.{List, ◌-◌, subst, sym}
use Rattle.std.specs.List.{All}
use Rattle.std.proofs.lemmas.List.Elements.{All-tail}
use Rattle.tx_tfm.specs.declared.state.FontState.{FontState}
use Rattle.tx_tfm.specs.Fonts.{IsState}
use Rattle.tx_tfm.proofs.Numbered.{lent_state}
use Rattle.tx_tfm.proofs.fonts.Fonts.state.Goals as goal

pub returns-clause-tellable : goal.returns-clause-tellable
returns-clause-tellable c =
    lent_state c.deref.result.now (subst (λ (fonts : List FontState). All IsState fonts) (sym c.deref.ensures.value) (All-tail IsState c.self.inside.null c.self.inside.loaded.items c.self.invariant.states))
    (c.from.result - 1) c.get.result c.get.ensures.lookup
