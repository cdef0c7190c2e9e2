use Rattle.std.proofs.Common.{◌-◌, length}
use Rattle.tx_lex.proofs.Loops.{Spelling}
use Rattle.tx_lex.proofs.names.read_spelled_word.Given as goal

abbrev pub invariant-loop-found : goal.invariant-loop-found
invariant-loop-found l = Spelling l.codes l.line l.begin l.name l.place

abbrev pub decreases-loop-found : goal.decreases-loop-found
decreases-loop-found l = length l.line - l.place
