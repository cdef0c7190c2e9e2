use Rattle.std.proofs.Common.{◌≡◌, ◌∙◌, [], map, get_or, w32, to_z, of_z, refl, sym, ap, subst, arith}
use Rattle.std.specs.Prelude.{All}
use Rattle.std.proofs.lemmas.Int.{to_z-of_z}
use Rattle.std.proofs.lemmas.List.Elements.{All-get_or}
use Rattle.tx_linebreak.specs.Chains.{from_living}
use Rattle.tx_linebreak.specs.Kept.{all_offered, last_by, last_special, offered}
use Rattle.tx_linebreak.specs.Shared.{IsMade, chain_of}
use Rattle.tx_linebreak.specs.Tasks.{attempt_of}
use Rattle.tx_linebreak.specs.Trials.{IsTrial, chain_tried, is_stuck_by}
use Rattle.tx_linebreak.proofs.Reaching.{link-chain, link-made, reaching-all, reaching-leaves, reaching-none, reaching-takes, tolerable-by}
use Rattle.tx_linebreak.proofs.Trying.{stuck-by}
use Rattle.tx_linebreak.proofs.attempt.Task.reach.Goals as goal
use Rattle.tx_linebreak.proofs.attempt.Task.reach.Goals.{then-taken+in_ok-offer, else-taken}

pub loop-trial-init : goal.loop-trial-init
loop-trial-init c =
    let a = attempt_of c.args.self.now in
    reaching-none a c.args.place (to_z w32 (of_z w32 c.args.penalty)) c.is_stuck-stuck.result c.args.chains.now c.clear.new.self.items c.args.trials.now c.clear.ensures.items
    (c.is_stuck-stuck.ensures
    ∙ ap (λ z. is_stuck_by a z c.args.trials.now) (to_z-of_z w32 c.args.penalty c.ranges.penalty)
    ∙ stuck-by a c.args.chains.now c.args.place c.args.penalty c.args.trials.now c.requires.legal c.requires.trials)

pub offer-requires-clause-link : goal.offer-requires-clause-link
offer-requires-clause-link c =
    let a = attempt_of c.args.self.now in
    link-made a c.args.chains.now c.args.place _ c.line-line.result c.link-link.result (All-get_or (IsTrial a c.args.chains.now c.args.place) c.args.trials.now c.loop-trial.trial-index _ c.loop-trial-test.true c.requires.trials)
    c.link-link.ensures.line c.link-link.ensures.before c.link-link.ensures.total c.line-line.ensures.number c.line-line.ensures.place c.line-line.ensures.demerits

pub offer-requires-clause-placed : goal.offer-requires-clause-placed
offer-requires-clause-placed c =
    subst (λ place. All (λ link. link.line.place ≡ place) c.loop-trial.links.items) (sym (ap (λ line. line.place) c.link-link.ensures.line ∙ c.line-line.ensures.place)) c.loop-trial.invariant.placed

pub loop-trial-preserved : goal.loop-trial-preserved
loop-trial-preserved c =
    let a = attempt_of c.args.self.now in
    let tolerance = to_z-of_z w32 c.tolerance-tolerance.result (record { sfits = c.tolerance-tolerance.type_inv }) ∙ c.tolerance-tolerance.ensures in
    let tolerable = tolerable-by _ _ _ _ tolerance c.is_tolerable.ensures in
    elim c.if-taken.branch [
      | then-taken+in_ok-offer w ↦
          reaching-takes a c.args.place (to_z w32 (of_z w32 c.args.penalty)) _ c.is_stuck-stuck.result c.is_tolerable.result _ c.args.chains.now c.loop-trial.links.items c.if-taken.links.items c.args.trials.now c.loop-trial.trial-index _ w.line-line.result w.link-link.result c.requires.trials c.loop-trial-test.true tolerable w.if-taken.true refl w.line-line.ensures.value (link-chain c.args.chains.now (get_or c.args.trials.now c.loop-trial.trial-index _) w.line-line.result w.link-link.result w.link-link.ensures.line w.link-link.ensures.before)
          (ap (λ links. map (chain_of c.args.chains.now) links.items) w.links-is ∙ w.in_ok-offer.ensures.offered ∙ ap (λ special. offered special (map (chain_of c.args.chains.now) c.loop-trial.links.items) (chain_of c.args.chains.now w.link-link.result)) c.last_special-special.ensures)
          (subst (λ links. All (IsMade c.args.chains.now) links.items) (sym w.links-is) w.in_ok-offer.ensures.made)
          (subst (λ links. All (λ link. link.line.place ≡ c.args.place) links.items) (sym w.links-is) (subst (λ place. All (λ link. link.line.place ≡ place) w.offer.new.links.items) (ap (λ line. line.place) w.link-link.ensures.line ∙ w.line-line.ensures.place) w.in_ok-offer.ensures.placed))
          c.loop-trial.invariant
      | else-taken w ↦
          reaching-leaves a c.args.place (to_z w32 (of_z w32 c.args.penalty)) c.is_stuck-stuck.result c.is_tolerable.result _ c.args.chains.now c.loop-trial.links.items c.if-taken.links.items c.args.trials.now c.loop-trial.trial-index _ (ap (λ links. links.items) w.links-is) c.requires.trials c.loop-trial-test.true tolerable w.if-taken.false c.loop-trial.invariant
    ]

pub returns-clause-chains : goal.returns-clause-chains
returns-clause-chains c =
    let a = attempt_of c.args.self.now in
    let tried = map (chain_tried c.args.chains.now) c.args.trials.now in
    reaching-all _ _ _ _ _ c.args.chains.now c.loop-trial.links.items c.args.trials.now c.loop-trial.trial-index (omega arith) c.loop-trial.invariant
    ∙ ap (λ z. all_offered (last_special a) [] (from_living a c.args.place z tried)) (to_z-of_z w32 c.args.penalty c.ranges.penalty)
    ∙ sym (ap (λ o. all_offered (last_special a) [] (last_by a c.args.place o tried)) c.requires.legal)
