use Rattle.std.proofs.Common.{◌≡◌, ◌∙◌, [], length, map, ap, subst, arith}
use Rattle.std.specs.Prelude.{OnOk}
use Rattle.tx_linebreak.specs.Breaks.{penalty_at}
use Rattle.tx_linebreak.specs.Kept.{all_offered, last_by, last_special}
use Rattle.tx_linebreak.specs.Shared.{chain_of}
use Rattle.tx_linebreak.specs.Tasks.{attempt_of}
use Rattle.tx_linebreak.specs.Trials.{AreMeasured, chain_tried}
use Rattle.tx_linebreak.proofs.Trying.{measured-same, written-back}
use Rattle.tx_linebreak.proofs.attempt.Task.try_break.Goals as goal

pub returns-clause-same : goal.returns-clause-same
returns-clause-same c =
    let a = attempt_of c.args.self.now in
    let chains = c.args.chains.now in
    let before = c.args.trials.now.items in
    let new = c.measure.new.trials in
    let measured : AreMeasured a c.args.place before new = subst (λ list. AreMeasured a c.args.place list new) c.as_mut_slice.ensures.value c.measure.ensures in
    let whole = c.args.trials.now.ok.0 in
    let long : length new ≡ length before = measured.length_is in
    ap (map (chain_tried chains)) (written-back c.args.trials.now.len before new (omega arith)) ∙ measured-same a chains c.args.place before new measured

pub returns-clause-chains : goal.returns-clause-chains
returns-clause-chains c =
    let a = attempt_of c.args.self.now in
    let chains = c.args.chains.now in
    let before = c.args.trials.now.items in
    let new = c.measure.new.trials in
    let measured : AreMeasured a c.args.place before new = subst (λ list. AreMeasured a c.args.place list new) c.as_mut_slice.ensures.value c.measure.ensures in
    let whole = c.args.trials.now.ok.0 in
    let long : length new ≡ length before = measured.length_is in
    let same = ap (map (chain_tried chains)) (c.as_slice.ensures.value ∙ written-back c.args.trials.now.len before new (omega arith)) ∙ measured-same a chains c.args.place before new measured in
    subst (λ tried. OnOk c.reach.result (map (chain_of chains) c.reach.new.links.items ≡ all_offered (last_special a) [] (last_by a c.args.place (penalty_at a.params a.pass a.pieces c.args.place) tried))) same c.reach.ensures.chains
