use Rattle.std.proofs.Common.{◌≡◌, ◌≤◌, ◌∙◌, [], suc, ◌+◌, ◌-◌, length, map, refl, sym, ap, subst, arith}
use Rattle.std.specs.Prelude.{All}
use Rattle.tx_linebreak.specs.Breaks.{context_from, outset, penalty_at}
use Rattle.tx_linebreak.specs.Chains.{next_place}
use Rattle.tx_linebreak.specs.Kept.{all_offered, kept_before, kept_by, last_by, last_special}
use Rattle.tx_linebreak.specs.Shared.{chain_of}
use Rattle.tx_linebreak.specs.Tasks.{attempt_of}
use Rattle.tx_linebreak.specs.Trials.{IsKept, chain_tried}
use Rattle.tx_linebreak.proofs.Advancing.{context-here, kept-earlier, kept-next, last-are, starts, starts-kept}
use Rattle.tx_linebreak.proofs.attempt.Task.ends.Goals as goal
use Rattle.tx_linebreak.proofs.attempt.Task.ends.Goals.{in-Some+in_ok-advance, in_default}

pub loop-place-init : goal.loop-place-init
loop-place-init c =
    let chains = c.args.chains.now in
    let trials = c.in_ok-trials.trials.items in
    let first = c.first_trial.result in
    let first_is = c.first_trial.ensures in
    (starts chains trials first c.requires.start c.in_ok-trials.ensures.items first_is.chain, starts-kept (attempt_of c.args.self.now) chains trials first c.requires.start c.in_ok-trials.ensures.items first_is.chain first_is.from first_is.total first_is.start, c.outset-context.ensures ∙ sym (context-here outset c.args.self.now.pieces.now))

pub advance-requires-clause-before : goal.advance-requires-clause-before
advance-requires-clause-before c = kept-earlier (attempt_of c.args.self.now) c.loop-place.place c.loop-place.chains c.loop-place.trials.items c.loop-place.invariant.0 c.loop-place.invariant.1

pub loop-place-preserved : goal.loop-place-preserved
loop-place-preserved c =
    let a = attempt_of c.args.self.now in
    let place = c.loop-place.place in
    let pieces = c.args.self.now.pieces.now in
    let penalty = penalty_at a.params a.pass pieces place in
    let next : suc place ≡ place + 1 = omega arith in
    let context : c.penalty_past.new.context ≡ context_from outset pieces (place + 1) = c.penalty_past.ensures.context ∙ ap (context_from outset pieces) next in
    elim c.match-penalty_past.branch [
      | in-Some+in_ok-advance w ↦ (
        (λ i. map (chain_tried (w.chains-is i)) (w.trials-is i).items)
            ∙ w.in_ok-advance.ensures.chains
            ∙ ap (kept_by a place penalty) c.loop-place.invariant.0
            ∙ sym (kept-next a place penalty refl),
        subst (λ chains. All (IsKept a chains) c.match-penalty_past.trials.items) (sym w.chains-is) (subst (λ trials. All (IsKept a w.advance.new.chains) trials.items) (sym w.trials-is) w.in_ok-advance.ensures.kept),
        context,
      )
      | in_default w ↦ (
        (λ i. map (chain_tried (w.chains-is i)) (w.trials-is i).items)
            ∙ c.loop-place.invariant.0
            ∙ ap (λ o. kept_by a place o (kept_before a place)) w.in_default.ensures.penalty
            ∙ sym (kept-next a place penalty refl),
        subst (λ chains. All (IsKept a chains) c.match-penalty_past.trials.items) (sym w.chains-is) (subst (λ trials. All (IsKept a c.loop-place.chains) trials.items) (sym w.trials-is) c.loop-place.invariant.1),
        context,
      )
    ]

pub returns-in-None-clause-chains : goal.returns-in-None-clause-chains
returns-in-None-clause-chains c =
    let a = attempt_of c.args.self.now in
    let last = length a.pieces - 1 in
    ap (map (chain_of c.loop-place.chains)) c.new.ensures.items
    ∙ ap (all_offered (last_special a) []) (ap (λ o. last_by a last o (kept_before a last)) c.in-None.ensures ∙ sym (last-are a))

pub try_break-requires-clause-before : goal.try_break-requires-clause-before
try_break-requires-clause-before c =
    let last : c.loop-place.place ≡ length c.args.self.now.pieces.now - 1 = omega arith in
    subst (λ place. All (λ trial. next_place trial.from.place ≤ place) c.loop-place.trials.items) last
    (kept-earlier (attempt_of c.args.self.now) c.loop-place.place c.loop-place.chains c.loop-place.trials.items c.loop-place.invariant.0 c.loop-place.invariant.1)

pub returns-clause-chains : goal.returns-clause-chains
returns-clause-chains c =
    let a = attempt_of c.args.self.now in
    let last = length a.pieces - 1 in
    let penalty = penalty_at a.params a.pass a.pieces last in
    let at : c.loop-place.place ≡ length c.args.self.now.pieces.now - 1 = omega arith in
    let kept = c.loop-place.invariant.0 ∙ ap (kept_before a) at in
    c.in_ok-try_break-in-Some-penalty.ensures.chains
    ∙ ap (λ kept. all_offered (last_special a) [] (last_by a last penalty kept)) kept
    ∙ ap (all_offered (last_special a) []) (sym (last-are a))
