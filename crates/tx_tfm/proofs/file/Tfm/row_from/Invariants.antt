use Rattle.std.proofs.Common.{◌+◌, ◌*◌, ◌<◌, ◌^◌}
use Rattle.tx_tfm.proofs.Walks.{Walks}
use Rattle.tx_tfm.proofs.file.Tfm.row_from.Given as goal

abbrev pub invariant-loop-left : goal.invariant-loop-left
invariant-loop-left l = Walks l.self l.start l.filling l.place l.left × (l.place + 256 * l.left < 2 ^ 25)

abbrev pub decreases-loop-left : goal.decreases-loop-left
decreases-loop-left l = l.left
