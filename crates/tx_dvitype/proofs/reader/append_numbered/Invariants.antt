use Rattle.std.proofs.Common.{◌≡◌, ◌++◌, take}
use Rattle.tx_dvitype.specs.Files as spec
use Rattle.tx_dvitype.proofs.reader.append_numbered.Given as goal

abbrev pub invariant-loop-definition : goal.invariant-loop-definition
invariant-loop-definition l = l.file ≡ l.initial.file ++ spec.all_bytes (spec.numbered_as l.number (take l.definition-index l.definitions))
