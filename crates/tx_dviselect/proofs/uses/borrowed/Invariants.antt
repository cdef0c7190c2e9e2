use Rattle.std.proofs.Common.{◌≡◌, take}
use Rattle.std.specs.List.{All}
use Rattle.tx_dvi.specs.Page.{IsNamed}
use Rattle.tx_dviselect.specs.Uses.{borrowed}
use Rattle.tx_dviselect.proofs.uses.borrowed.Given as goal

abbrev pub invariant-loop-font : goal.invariant-loop-font
invariant-loop-font l = (l.fonts ≡ borrowed (take l.font-index l.earlier) l.body) × All IsNamed l.fonts
