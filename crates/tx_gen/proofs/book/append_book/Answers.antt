use Rattle.std.proofs.Common.{ℕ, List, ◌++◌, ap, ◌∙◌}
use Rattle.tx_gen.proofs.book.append_book.Goals as goal

pub append_pages-requires-clause-opened : goal.append_pages-requires-clause-opened
append_pages-requires-clause-opened c = c.in_ok-append.ensures.ok ∙ ap (λ (t : List ℕ). t ++ c.opening.result.now) c.requires.empty ∙ c.opening.ensures
