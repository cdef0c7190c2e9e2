use Rattle.std.proofs.Common.{◌≡◌, ◌++◌, take}
use Rattle.std.specs.List.{All}
use Rattle.tx_dvi.specs.Dvi as dvi
use Rattle.tx_dvi.specs.Page.{IsNamed}
use Rattle.tx_dviselect.proofs.file.append_fonts.Given as goal

abbrev pub invariant-loop-page : goal.invariant-loop-page
invariant-loop-page l = (l.fonts ≡ l.initial.fonts ++ dvi.fonts_of (take l.page-index l.pages)) × (All IsNamed l.initial.fonts → All IsNamed l.fonts)
