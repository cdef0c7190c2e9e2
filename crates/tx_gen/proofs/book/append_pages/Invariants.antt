use Rattle.std.proofs.Common.{◌≡◌}
use Rattle.tx_gen.specs.Book.{page, page_starts}
use Rattle.tx_gen.proofs.Times.{Grown}
use Rattle.tx_gen.proofs.book.append_pages.Given as goal

abbrev pub invariant-loop-page : goal.invariant-loop-page
invariant-loop-page l = record {
  grown : Grown page l._page l.initial.text l.initial.draws l.text l.draws;
  noted : l.starts ≡ page_starts l.initial.draws l._page;
}
