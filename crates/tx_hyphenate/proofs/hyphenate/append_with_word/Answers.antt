use Rattle.std.proofs.Common.{◌≡◌, ◌∙◌, false, List, length, rules, ap, sym}
use Rattle.std.specs.Prelude.{◌==◌}
use Rattle.std.specs.List.{prefix_len}
use Rattle.std.proofs.lemmas.Result.{on_ok_weaker}
use Rattle.tx_node.specs.declared.node.Node.{Node}
use Rattle.tx_node.specs.Nodes.{list_of}
use Rattle.tx_hyphenate.specs.Finding.{is_in_run}
use Rattle.tx_hyphenate.specs.Hyphenated.{joined}
use Rattle.tx_hyphenate.proofs.Placing.{from-place}
use Rattle.tx_hyphenate.proofs.Wording.{word-run}
use Rattle.tx_hyphenate.proofs.hyphenate.append_with_word.Goals as goal

pub returns : goal.returns
returns c =
    let nodes : List Node = c.as_slice-nodes.result.now in
    let is : list_of nodes ≡ c.args.items = search rules in
    let behind = c.run_behind.ensures.value ∙ ap (λ (rest : List Node). prefix_len (is_in_run c.args.font) (list_of rest)) (from-place nodes c.args.word) in
    let some : (length c.args.places.now == 0) ≡ false = search rules in
    on_ok_weaker c.append_between.result
    (λ e. e ∙ ap (joined c.args.made.now) (sym (word-run c.args.fonts.now c.args.font c.args.word c.args.places.now c.args.items nodes c.run_before.result c.run_behind.result is c.run_before.ensures.value behind some)))
    c.append_between.ensures
