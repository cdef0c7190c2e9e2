use Rattle.std.proofs.Common.{◌≡◌, take}
use Rattle.tx_dvi.specs.Dvi as spec
use Rattle.tx_dvi.proofs.file.greatest_height.Given as goal

abbrev pub invariant-loop-page : goal.invariant-loop-page
invariant-loop-page l = l.most ≡ spec.greatest_height (take l.page-index l.pages)
