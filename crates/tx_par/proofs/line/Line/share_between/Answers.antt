use Rattle.std.proofs.Common.{List, fold, ap, sym, ◌∙◌}
use Rattle.std.proofs.lemmas.List.{at_drop_all}
use Rattle.tx_node.specs.declared.node.Node.{Node}
use Rattle.tx_node.specs.Items.{Item}
use Rattle.tx_node.specs.Nodes.{list_of}
use Rattle.tx_par.specs.Adding.{with_kept}
use Rattle.tx_par.proofs.Kept.{kept}
use Rattle.tx_par.proofs.line.Line.share_between.Goals as goal

pub returns : goal.returns
returns c =
    sym (at_drop_all (λ (nodes : List Node). fold (with_kept c.args.first_pass) c.loop-node.self (list_of nodes)) c.args.nodes.now c.loop-node.node-index c.loop-node-test.false)
    ∙ c.loop-node.invariant
    ∙ ap (λ (own : List Item). fold (with_kept c.args.first_pass) (record c.args.self.now { own = own }) (list_of c.args.nodes.now)) c.in_ok-reserve.ensures
    ∙ kept c.args.first_pass (list_of c.args.nodes.now) c.args.self.now
