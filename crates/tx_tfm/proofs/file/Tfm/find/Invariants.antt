use Rattle.std.proofs.Common.{◌≡◌, ◌+◌, ◌*◌, ◌<◌, ◌^◌}
use Rattle.tx_tfm.specs.LigKern.{found}
use Rattle.tx_tfm.proofs.file.Tfm.find.Given as goal

abbrev pub invariant-loop-left : goal.invariant-loop-left
invariant-loop-left l =
    (found l.self l.left l.place l.code ≡ found l.self l.self.lengths.commands l.fn.start l.code)
    × (l.place + 256 * l.left < 2 ^ 25)

abbrev pub decreases-loop-left : goal.decreases-loop-left
decreases-loop-left l = l.left
