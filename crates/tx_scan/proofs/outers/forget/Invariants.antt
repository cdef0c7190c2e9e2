use Rattle.std.proofs.Common.{length}
use Rattle.tx_scan.proofs.outers.forget.Given as goal

-- each turn takes one number
abbrev pub decreases-loop : goal.decreases-loop
decreases-loop l = length l.outers
