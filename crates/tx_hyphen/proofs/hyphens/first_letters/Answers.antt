use Rattle.std.proofs.Common.{arith, sym}
use Rattle.std.proofs.lemmas.List.{length-take-le, take_all}
use Rattle.tx_hyphen.proofs.hyphens.first_letters.Goals as goal

pub slice_bounds-result-end : goal.slice_bounds-result-end
slice_bounds-result-end c = sym (length-take-le 63 c.args.word.now (omega arith))

pub returns-else-word-gt-MOST_LETTERS-clause-first : goal.returns-else-word-gt-MOST_LETTERS-clause-first
returns-else-word-gt-MOST_LETTERS-clause-first c = sym (take_all 63 c.args.word.now c.if-word-gt-MOST_LETTERS.false)

pub returns-then-word-gt-MOST_LETTERS-clause-short : goal.returns-then-word-gt-MOST_LETTERS-clause-short
returns-then-word-gt-MOST_LETTERS-clause-short c = omega (arith, length-take-le 63 c.args.word.now (omega arith))
