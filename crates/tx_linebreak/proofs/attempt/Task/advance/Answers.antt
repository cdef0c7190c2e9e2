use Rattle.std.proofs.Common.{◌≡◌, ◌<◌, ◌++◌, [], ◌∙◌, length, map, w32, sym, ap, subst, arith}
use Rattle.std.specs.Prelude.{All, filter, not, ◌||◌}
use Rattle.std.proofs.lemmas.Int.{to_z-of_z}
use Rattle.std.proofs.lemmas.List.Elements.{All-weaker}
use Rattle.tx_linebreak.specs.Breaks.{is_forced}
use Rattle.tx_linebreak.specs.Chains.{is_overfull}
use Rattle.tx_linebreak.specs.Kept.{all_offered, kept_by, last_by, last_special}
use Rattle.tx_linebreak.specs.Shared.{IsMade, chain_of}
use Rattle.tx_linebreak.specs.Tasks.{attempt_of}
use Rattle.tx_linebreak.specs.Trials.{IsKept, chain_tried}
use Rattle.tx_linebreak.proofs.Advancing.{kept-made}
use Rattle.tx_linebreak.proofs.Trying.{passing-kept}
use Rattle.tx_linebreak.proofs.attempt.Task.advance.Goals as goal

pub add-requires-clause-links : goal.add-requires-clause-links
add-requires-clause-links c = subst (All (IsMade c.args.chains.now)) (sym c.as_slice.ensures.value) c.in_ok-try_break.ensures.made

pub add-requires-clause-places : goal.add-requires-clause-places
add-requires-clause-places c =
    subst (All (λ link. link.line.place < length c.args.self.now.pieces.now)) (sym c.as_slice.ensures.value)
    (All-weaker (λ link. link.line.place ≡ c.args.place) (λ link. link.line.place < length c.args.self.now.pieces.now) (λ link is. omega arith) _ c.in_ok-try_break.ensures.placed)

pub add-requires-clause-kept : goal.add-requires-clause-kept
add-requires-clause-kept c =
    let a = attempt_of c.args.self.now in
    subst (All (IsKept a c.args.chains.now)) (sym c.keep_living.ensures) (passing-kept a c.args.chains.now c.args.place _ _ c.try_break.ensures.trials)

pub returns-clause-chains : goal.returns-clause-chains
returns-clause-chains c =
    let a = attempt_of c.args.self.now in
    let chains = c.args.chains.now in
    let back = to_z-of_z w32 c.args.penalty c.ranges.penalty in
    c.in_ok-add.ensures.chains
    ∙ (λ i. map (chain_tried chains) c.keep_living.new.trials.items ++ map (chain_of chains) (c.as_slice.ensures.value i))
    ∙ kept-made a c.args.place c.args.penalty chains c.args.trials.now.items c.try_break.new.trials.items c.keep_living.new.trials.items c.try_break.new.links.items c.requires.legal c.try_break.ensures.trials c.try_break.ensures.same
    (c.keep_living.ensures ∙ (λ i. filter (λ t. not (is_forced (back i) || is_overfull t.fit)) c.try_break.new.trials.items))
    (c.in_ok-try_break.ensures.chains
    ∙ (λ i. all_offered (last_special a) [] (last_by a c.args.place (c.requires.legal i) (map (chain_tried chains) c.args.trials.now.items))))
    ∙ sym (ap (λ o. kept_by a c.args.place o (map (chain_tried chains) c.args.trials.now.items)) c.requires.legal)
