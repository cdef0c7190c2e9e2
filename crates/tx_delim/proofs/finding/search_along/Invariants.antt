use Rattle.std.proofs.Common.{◌≡◌, Some}
use Rattle.tx_delim.specs.Searching.{along}
use Rattle.tx_delim.proofs.finding.search_along.Given as goal

abbrev pub invariant-loop-left : goal.invariant-loop-left
invariant-loop-left l = along l.left l.fonts l.asked l.font l.at l.search ≡ along 256 l.fonts l.asked l.font (Some l.fn.code) l.fn.begun

abbrev pub decreases-loop-left : goal.decreases-loop-left
decreases-loop-left l = l.left
