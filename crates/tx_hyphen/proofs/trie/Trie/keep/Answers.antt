use Rattle.std.proofs.Common.{◌∙◌, ap}
use Rattle.tx_hyphen.specs.Trie.{kept}
use Rattle.tx_hyphen.proofs.Placed.{kept-elsewhere, kept-placed, linked-placed}
use Rattle.tx_hyphen.proofs.trie.Trie.keep.Goals as goal

pub invariant_of-self-2 : goal.invariant_of-self-2
invariant_of-self-2 c =
    rw c.keep_at.ensures
    (linked-placed c.node_for.new.nodes.items c.in_ok-at.at c.args.place c.in_ok-at.ensures.linked c.in_ok-at.ensures.inside)

pub returns-clause-here : goal.returns-clause-here
returns-clause-here c =
    rw c.keep_at.ensures
    (kept-placed c.node_for.new.nodes.items c.in_ok-at.at c.args.place c.args.letters.now c.in_ok-at.ensures.inside
    c.in_ok-at.ensures.led)

pub returns-clause-others : goal.returns-clause-others
returns-clause-others c = λ others apart.
    ap (λ n. kept n others) c.keep_at.ensures
    ∙ kept-elsewhere c.node_for.new.nodes.items c.in_ok-at.at c.args.place c.args.letters.now others
    c.in_ok-at.ensures.linked c.in_ok-at.ensures.inside c.in_ok-at.ensures.led apart
    ∙ c.in_ok-at.ensures.kept others ∙ ap (λ n. kept n others) c.self.view_is
