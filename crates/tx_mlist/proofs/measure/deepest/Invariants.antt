use Rattle.std.proofs.Common.{◌≡◌, ◌≤◌, max, drop}
use Rattle.tx_mlist.specs.Noads.{mlist_of}
use Rattle.tx_mlist.specs.Items.{gathered}
use Rattle.tx_mlist.specs.Counts.{depth_of}
use Rattle.tx_mlist.proofs.measure.deepest.Given as goal

abbrev pub invariant-loop-noad : goal.invariant-loop-noad
invariant-loop-noad l = record {
  deepest : max l.most (depth_of (gathered (mlist_of (drop l.noad-index l.list)))) ≡ depth_of (gathered (mlist_of l.list));
  within : l.most ≤ 510;
}
