use Rattle.std.proofs.Common.{ℕ, List, ◌++◌, ap, ◌∙◌}
use Rattle.tx_gen.specs.Draws.{times}
use Rattle.tx_gen.specs.Book.{page, page_starts}
use Rattle.tx_gen.proofs.Scripts.{script-is}
use Rattle.tx_gen.proofs.making.fill.Goals as goal

pub returns-clause-font : goal.returns-clause-font
returns-clause-font c = c.in_ok-append.ensures.ok ∙ ap (λ (f : List ℕ). f ++ c.font.result.now) c.requires.no_font ∙ c.font.ensures

pub returns-clause-script : goal.returns-clause-script
returns-clause-script c =
    script-is c.args.seed c.args.pages
    (c.as_slice.ensures ∙ c.in_ok-append_book.ensures.starts ∙ ap (λ (s : ℕ). page_starts s c.args.pages) c.new-draws.ensures)
    (c.in_ok-append_book.ensures.draws ∙ ap (λ (s : ℕ). (times c.args.pages page s).1) c.new-draws.ensures)
    c.requires.no_script c.in_ok-append_edits.ensures
