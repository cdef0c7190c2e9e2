use Rattle.tx_dvi.proofs.Pages.{Written}
use Rattle.tx_dvi.proofs.file.append_pages.Given as goal

abbrev pub invariant-loop-page : goal.invariant-loop-page
invariant-loop-page l = Written l.initial.file l.file l.pages l.page-index l.pointer
