use Rattle.std.proofs.Common.{◌∙◌, ◌≡◌, ◌+◌, ◌≤◌, false, length, sym, subst, arith}
use Rattle.std.specs.Prelude.{All}
use Rattle.std.proofs.lemmas.List.{take_all}
use Rattle.tx_linebreak.specs.Chosen.{beats}
use Rattle.tx_linebreak.specs.Shared.{chain_of}
use Rattle.tx_linebreak.proofs.Choosing.{IsBestTo, best-changes, best-stays}
use Rattle.tx_linebreak.proofs.best.best.Goals as goal
use Rattle.tx_linebreak.proofs.best.best.Goals.{then-beats, else-beats}

pub loop-link-preserved : goal.loop-link-preserved
loop-link-preserved c = elim c.if-beats.branch [
  | then-beats w ↦ subst (IsBestTo c.args.chains.now c.args.links.now (c.loop-link.link-index + 1)) (sym w.best-is) (best-changes c.args.chains.now c.args.links.now c.loop-link.link-index c.loop-link.best _ c.loop-link-test.true (sym c.beats.ensures ∙ w.if-beats.true) c.loop-link.invariant)
  | else-beats w ↦ subst (IsBestTo c.args.chains.now c.args.links.now (c.loop-link.link-index + 1)) (sym w.best-is) (best-stays c.args.chains.now c.args.links.now c.loop-link.link-index c.loop-link.best _ c.loop-link-test.true (sym c.beats.ensures ∙ w.if-beats.false) c.loop-link.invariant)
]

pub returns-clause-unbeaten : goal.returns-clause-unbeaten
returns-clause-unbeaten c =
    let over : length c.args.links.now ≤ c.loop-link.link-index = omega arith in
    subst (All (λ link. beats (chain_of c.args.chains.now link) (chain_of c.args.chains.now c.loop-link.best) ≡ false)) (take_all c.loop-link.link-index c.args.links.now over) c.loop-link.invariant.unbeaten
