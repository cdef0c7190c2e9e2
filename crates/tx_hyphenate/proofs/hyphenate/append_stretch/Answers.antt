use Rattle.std.proofs.Common.{◌≡◌, Some, List, rules, to_z, of_z, w64, ap, sym, ◌∙◌}
use Rattle.std.proofs.lemmas.Result.{on_ok_weaker}
use Rattle.tx_node.specs.declared.node.Node.{Node}
use Rattle.tx_node.specs.Nodes.{list_of}
use Rattle.tx_hyphenate.specs.Finding.{word_start}
use Rattle.tx_hyphenate.specs.Hyphenated.{joined, ways, word_places}
use Rattle.tx_hyphenate.proofs.Placing.{from-place}
use Rattle.tx_hyphenate.proofs.Wording.{stretch-is}
use Rattle.tx_hyphenate.proofs.hyphenate.append_stretch.Goals as goal

pub returns : goal.returns
returns c =
    let w = ways c.args.fonts.now c.args.hyphens.now c.args.lower.now c.args.params in
    let nodes : List Node = c.as_slice-nodes.result.now in
    let is : list_of nodes ≡ c.args.items = search rules in
    let same : to_z w64 (of_z w64 c.args.params.uc_hyph) ≡ c.args.params.uc_hyph = search rules in
    let started : word_start c.args.lower.now c.args.params.uc_hyph (list_of nodes) ≡ Some c.in-Some.word = sym (rw same at c.word_start.ensures.value) ∙ c.in-Some.is in
    let places = c.as_slice.ensures ∙ c.in_ok-places.ensures ∙ ap (λ (rest : List Node). word_places w c.font_at-font.result (list_of rest)) (from-place nodes c.in-Some.word) in
    on_ok_weaker c.append_with_word.result
    (λ e. e ∙ ap (joined c.args.made.now) (stretch-is w c.args.items nodes c.in-Some.word c.font_at-font.result c.as_slice.result.now is started c.font_at-font.ensures places))
    c.append_with_word.ensures
