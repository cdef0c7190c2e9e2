use Rattle.std.proofs.Common.{◌≡◌, ◌++◌, take}
use Rattle.std.specs.List.{flat_map}
use Rattle.tx_dvi.specs.Dvi as dvi
use Rattle.tx_dviselect.proofs.file.append_all.Given as goal

abbrev pub invariant-loop-font : goal.invariant-loop-font
invariant-loop-font l = l.file ≡ l.initial.file ++ flat_map dvi.definition_bytes (take l.font-index l.fonts)
