use Rattle.std.proofs.Common.{◌-◌, length}
use Rattle.tx_lex.proofs.Words.{Standing}
use Rattle.tx_lex.proofs.names.read_word.Given as goal

abbrev pub invariant-loop-found : goal.invariant-loop-found
invariant-loop-found g l = Standing l.codes l.line l.begin l.place

abbrev pub decreases-loop-found : goal.decreases-loop-found
decreases-loop-found g l = length l.line - l.place
