use Rattle.tx_gen.specs.Book.{line}
use Rattle.tx_gen.proofs.Times.{Grown}
use Rattle.tx_gen.proofs.book.append_lines.Given as goal

abbrev pub invariant-loop-line : goal.invariant-loop-line
invariant-loop-line l = Grown line l._line l.initial.text l.initial.draws l.text l.draws
