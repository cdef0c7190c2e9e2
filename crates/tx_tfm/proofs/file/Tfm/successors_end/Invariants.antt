use Rattle.std.proofs.Common.{◌≡◌, ◌<◌, ◌^◌}
use Rattle.tx_tfm.specs.Rules.{successors_end}
use Rattle.tx_tfm.proofs.file.Tfm.successors_end.Given as goal

abbrev pub invariant-loop-left : goal.invariant-loop-left
invariant-loop-left l =
    (successors_end l.self l.left l.code ≡ successors_end l.self 256 l.fn.start) × (l.code < 2 ^ 17)

abbrev pub decreases-loop-left : goal.decreases-loop-left
decreases-loop-left l = l.left
