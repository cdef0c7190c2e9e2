use Rattle.std.proofs.Common.{◌≡◌, ◌≤◌, ◌∙◌, ℕ, length, ap, sym, subst}
use Rattle.std.specs.Prelude.{IfOk}
use Rattle.tx_node.specs.Nodes.{list_of}
use Rattle.tx_hyphenate.specs.Hyphenated.{codes_between, placed}
use Rattle.tx_hyphenate.proofs.hyphenate.run_places.Goals as goal

pub moved-requires : goal.moved-requires
moved-requires c =
    let count : c.len.result ≡ length (codes_between c.args.start c.args.word (list_of c.args.nodes.now)) = c.len.ensures ∙ ap length c.in_ok-before.ensures in
    subst (λ (n : ℕ). n ≤ c.args.count) (sym count) c.requires.few

pub returns-clause-value : goal.returns-clause-value
returns-clause-value c =
    let count : c.len.result ≡ length (codes_between c.args.start c.args.word (list_of c.args.nodes.now)) = c.len.ensures ∙ ap length c.in_ok-before.ensures in
    subst (λ (n : ℕ). IfOk c.moved.result (λ further. further ≡ placed n c.args.count c.args.places.now)) count c.moved.ensures.value
