use Rattle.tx_gen.specs.Book.{letter_text}
use Rattle.tx_gen.proofs.Times.{Grown}
use Rattle.tx_gen.proofs.book.append_letters.Given as goal

abbrev pub invariant-loop-letter : goal.invariant-loop-letter
invariant-loop-letter l = Grown letter_text l._letter l.initial.text l.initial.draws l.text l.draws
