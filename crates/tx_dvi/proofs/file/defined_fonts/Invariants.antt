use Rattle.std.proofs.Common.{◌≡◌, take}
use Rattle.std.specs.List.{All}
use Rattle.tx_dvi.specs.Dvi as spec
use Rattle.tx_dvi.specs.Page.{IsNamed}
use Rattle.tx_dvi.proofs.file.defined_fonts.Given as goal

abbrev pub invariant-loop-page : goal.invariant-loop-page
invariant-loop-page l = (l.fonts ≡ spec.fonts_of (take l.page-index l.pages)) × All IsNamed l.fonts
