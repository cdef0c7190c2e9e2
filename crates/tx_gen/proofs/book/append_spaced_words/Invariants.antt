use Rattle.tx_gen.specs.Book.{spaced_word}
use Rattle.tx_gen.proofs.Times.{Grown}
use Rattle.tx_gen.proofs.book.append_spaced_words.Given as goal

abbrev pub invariant-loop-word : goal.invariant-loop-word
invariant-loop-word l = Grown spaced_word l._word l.initial.text l.initial.draws l.text l.draws
