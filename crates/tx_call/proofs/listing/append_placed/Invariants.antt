use Rattle.std.proofs.Common.{◌≡◌, ◌++◌, drop}
use Rattle.tx_call.specs.Listing.{placed_lines}
use Rattle.tx_call.proofs.listing.append_placed.Given as goal

abbrev pub invariant-loop-thing : goal.invariant-loop-thing
invariant-loop-thing l = l.lines ++ placed_lines (drop l.thing-index l.placed) ≡ l.initial.lines ++ placed_lines l.placed
