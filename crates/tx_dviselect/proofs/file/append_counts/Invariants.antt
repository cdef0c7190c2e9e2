use Rattle.std.proofs.Common.{◌≡◌, ◌++◌, take}
use Rattle.std.specs.List.{flat_map}
use Rattle.tx_dvi.specs.Dvi as dvi
use Rattle.tx_dviselect.proofs.file.append_counts.Given as goal

abbrev pub invariant-loop-count : goal.invariant-loop-count
invariant-loop-count l = l.file ≡ l.initial.file ++ flat_map dvi.four_bytes (take l.count-index l.counts)
