use Rattle.std.proofs.Common.{ap, ◌∙◌}
use Rattle.tx_char.specs.declared.category.Cat.TheVariants.{Escape, EndOfLine, Space, Comment, Invalid}
use Rattle.tx_lex.specs.Reading.{meant}
use Rattle.tx_lex.proofs.Readings.{meaning-along, reading-first, reading-nothing, reading-plain}
use Rattle.tx_lex.proofs.lexer.lex_on.Goals as goal

pub returns-in_default-clause-reading : goal.returns-in_default-clause-reading
returns-in_default-clause-reading g c = reading-nothing _ _ _ c.in_default.ensures

pub returns-in-Escape-clause-reading : goal.returns-in-Escape-clause-reading
returns-in-Escape-clause-reading g c = meaning-along _ c.read_name.result (reading-first c.in-Some.ensures Escape c.in-Escape.ensures.value) c.read_name.ensures.reading

pub returns-in-EndOfLine-clause-reading : goal.returns-in-EndOfLine-clause-reading
returns-in-EndOfLine-clause-reading g c = meaning-along _ c.line_end.result (reading-first c.in-Some.ensures EndOfLine c.in-EndOfLine.ensures.value) c.line_end.ensures.reading

pub returns-in-Space-clause-reading : goal.returns-in-Space-clause-reading
returns-in-Space-clause-reading g c = ap (meant c.args.rest.now) c.character.ensures ∙ reading-first c.in-Some.ensures Space c.in-Space.ensures.value

pub returns-in-Comment-clause-reading : goal.returns-in-Comment-clause-reading
returns-in-Comment-clause-reading g c = reading-first c.in-Some.ensures Comment c.in-Comment.ensures.value

pub returns-in-Invalid-clause-reading : goal.returns-in-Invalid-clause-reading
returns-in-Invalid-clause-reading g c = reading-first c.in-Some.ensures Invalid c.in-Invalid.ensures.value

pub returns-in_default-category-clause-reading : goal.returns-in_default-category-clause-reading
returns-in_default-category-clause-reading g c =
    ap (meant c.args.rest.now) c.character-in_default-category.ensures
    ∙ reading-plain c.in-Some.ensures _ c.get-category.ensures.value c.in_default-category.not-Escape c.in_default-category.not-EndOfLine
    c.in_default-category.not-Space c.in_default-category.not-Comment c.in_default-category.not-Invalid
