use Rattle.std.proofs.Common.{◌≡◌, ◌++◌, drop}
use Rattle.tx_call.specs.Listing.{counts_text}
use Rattle.tx_call.proofs.listing.append_counts.Given as goal

abbrev pub invariant-loop-count : goal.invariant-loop-count
invariant-loop-count l = l.text ++ counts_text (drop l.count-index l.counts) ≡ l.initial.text ++ counts_text l.counts
