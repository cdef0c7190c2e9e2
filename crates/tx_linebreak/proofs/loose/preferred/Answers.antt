use Rattle.std.proofs.Common.{◌≡◌, ◌∙◌, ◌+◌, ◌≤◌, false, length, sym, subst, arith}
use Rattle.std.specs.Prelude.{All}
use Rattle.std.proofs.lemmas.List.{take_all}
use Rattle.tx_linebreak.specs.Chosen.{is_preferred}
use Rattle.tx_linebreak.specs.Shared.{chain_of}
use Rattle.tx_linebreak.proofs.Asking.{IsAskedTo, asked-begins, asked-changes, asked-stays}
use Rattle.tx_linebreak.proofs.loose.preferred.Goals as goal
use Rattle.tx_linebreak.proofs.loose.preferred.Goals.{then-is_preferred, else-is_preferred}

pub loop-link-init : goal.loop-link-init
loop-link-init c = asked-begins c.args.chains.now c.args.asked c.args.best.now c.args.links.now c.requires.best

pub loop-link-preserved : goal.loop-link-preserved
loop-link-preserved c = elim c.if-is_preferred.branch [
  | then-is_preferred w ↦ subst (IsAskedTo c.args.chains.now c.args.asked c.args.best.now c.args.links.now (c.loop-link.link-index + 1)) (sym w.chosen-is) (asked-changes c.args.chains.now c.args.asked c.args.best.now c.args.links.now c.loop-link.link-index c.loop-link.chosen _ c.loop-link-test.true (sym c.is_preferred.ensures ∙ w.if-is_preferred.true) c.loop-link.invariant)
  | else-is_preferred w ↦ subst (IsAskedTo c.args.chains.now c.args.asked c.args.best.now c.args.links.now (c.loop-link.link-index + 1)) (sym w.chosen-is) (asked-stays c.args.chains.now c.args.asked c.args.best.now c.args.links.now c.loop-link.link-index c.loop-link.chosen _ c.loop-link-test.true (sym c.is_preferred.ensures ∙ w.if-is_preferred.false) c.loop-link.invariant)
]

pub returns-clause-unpreferred : goal.returns-clause-unpreferred
returns-clause-unpreferred c =
    let over : length c.args.links.now ≤ c.loop-link.link-index = omega arith in
    subst (All (λ link. is_preferred c.args.asked (chain_of c.args.chains.now link) (chain_of c.args.chains.now c.loop-link.chosen) ≡ false)) (take_all c.loop-link.link-index c.args.links.now over) c.loop-link.invariant.unpreferred
