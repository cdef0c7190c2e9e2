use Rattle.std.proofs.Common.{◌≡◌, ◌+◌, ◌++◌, drop}
use Rattle.tx_call.specs.Listing.{pages_lines}
use Rattle.tx_call.proofs.listing.append_pages.Given as goal

abbrev pub invariant-loop-at : goal.invariant-loop-at
invariant-loop-at l = l.lines ++ pages_lines (l.at + 1) (drop l.at l.pages) ≡ l.initial.lines ++ pages_lines 1 l.pages
