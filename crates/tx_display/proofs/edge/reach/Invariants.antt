use Rattle.std.proofs.Common.{◌≡◌, ◌≤◌, drop}
use Rattle.tx_node.specs.Nodes.{list_of}
use Rattle.tx_display.specs.Reaching.{reach_from}
use Rattle.tx_display.proofs.edge.reach.Given as goal

-- what reaches up to the last node that shows is found among those so far, or behind them
abbrev pub invariant-loop-at : goal.invariant-loop-at
invariant-loop-at l = record {
  value : reach_from l.at l.found (list_of (drop l.at l.list)) ≡ reach_from 0 0 (list_of l.list);
  within : l.found ≤ l.at;
}
