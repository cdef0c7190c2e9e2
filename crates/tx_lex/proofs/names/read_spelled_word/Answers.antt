use Rattle.std.proofs.Common.{ap, sym, ◌∙◌}
use Rattle.tx_lex.specs.Reading.{is_letter}
use Rattle.tx_lex.proofs.Loops.{spelling-on, spelling-end}
use Rattle.tx_lex.proofs.names.read_spelled_word.Goals as goal

pub loop-found-preserved : goal.loop-found-preserved
loop-found-preserved c =
    rw c.in_ok-push.ensures.ok
    (spelling-on c.loop-found.invariant c.in-Some.ensures.read (ap is_letter (sym c.get.ensures.value) ∙ sym c.if-not-is_letter_category.ensures))

pub returns-clause-reading : goal.returns-clause-reading
returns-clause-reading c = rw (c.word-2.ensures, c.in_ok-name-2.ensures) (spelling-end c.loop-found.invariant c.in_default.ensures.read)
