use Rattle.std.proofs.Common.{ap, sym, ◌∙◌}
use Rattle.tx_lex.specs.Reading.{is_letter}
use Rattle.tx_lex.proofs.Words.{standing-begins, standing-on, standing-end}
use Rattle.tx_lex.proofs.names.read_word.Goals as goal

pub loop-found-init : goal.loop-found-init
loop-found-init g c = standing-begins c.requires

pub loop-found-preserved : goal.loop-found-preserved
loop-found-preserved g c =
    standing-on c.loop-found.invariant c.in-Some.ensures.read (ap is_letter (sym c.get.ensures.value) ∙ sym c.if-not-is_letter_category.ensures)
    c.if-found-place.false (c.in-Some.ensures.plain c.if-found-place.false)

pub returns-clause-reading : goal.returns-clause-reading
returns-clause-reading g c = rw (c.word-2.ensures, c.in_ok-name-2.ensures) (standing-end c.loop-found.invariant c.in_default.ensures.read)
