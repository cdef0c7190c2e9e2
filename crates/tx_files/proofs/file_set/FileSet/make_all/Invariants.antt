use Rattle.tx_files.proofs.Changing.{Changing}
use Rattle.tx_files.proofs.file_set.FileSet.make_all.Given as goal

abbrev pub invariant-loop-at : goal.invariant-loop-at
invariant-loop-at l = Changing l.initial.self l.self l.changes l.at
