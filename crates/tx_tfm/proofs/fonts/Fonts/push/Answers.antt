use Rattle.std.proofs.Common.{◌<◌, List, ◌∷◌, length, subst, sym, is_ok}
use Rattle.tx_tfm.specs.declared.state.FontState.{FontState}
use Rattle.tx_tfm.specs.Fonts.{IsState}
use Rattle.tx_tfm.proofs.Numbered.{more_kept}
use Rattle.tx_tfm.proofs.fonts.Fonts.push.Goals as goal

pub invariant_of-self-2 : goal.invariant_of-self-2
invariant_of-self-2 c =
    let room : length (c.self.inside.null ∷ c.self.inside.loaded.items) < 256 = subst (λ (fonts : List FontState). length fonts < 256) (sym c.self.view_is) c.requires.room in
    let is : IsState c.in_ok-state.state = subst IsState (sym c.in_ok-state.ensures) c.tellable.ensures in
    more_kept c.self.inside.null c.self.inside.loaded.items c.self.invariant c.in_ok-state.state c.push.new.self.items (is_ok c.push.result) room is c.push.ensures.items
