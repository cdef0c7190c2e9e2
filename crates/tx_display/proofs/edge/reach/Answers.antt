use Rattle.std.proofs.Common.{◌≤◌, ◌∙◌, List, length, sym}
use Rattle.std.proofs.lemmas.List.{at_drop_all}
use Rattle.tx_node.specs.declared.node.Node.{Node}
use Rattle.tx_node.specs.Nodes.{list_of}
use Rattle.tx_display.specs.Reaching.{reach_from}
use Rattle.tx_display.proofs.Reaches.{reaches}
use Rattle.tx_display.proofs.edge.reach.Goals as goal

pub returns-clause-value : goal.returns-clause-value
returns-clause-value c =
    let over : length c.args.list.now ≤ c.loop-at.at = c.loop-at-test.false in
    sym (at_drop_all (λ (nodes : List Node). reach_from c.loop-at.at c.loop-at.found (list_of nodes)) c.args.list.now c.loop-at.at over)
    ∙ c.loop-at.invariant.value
    ∙ reaches (list_of c.args.list.now)
