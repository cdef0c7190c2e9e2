use Rattle.std.proofs.Common.{◌≡◌, ◌++◌, map, take}
use Rattle.tx_dvi.specs.declared.font.FontDefinition.{FontDefinition}
use Rattle.tx_makeup.proofs.page.join_defined.Given as goal

-- the numbers of the fonts so far have joined
abbrev pub invariant-loop-font : goal.invariant-loop-font
invariant-loop-font l = l.defined ≡ l.initial.defined ++ map (λ (f : FontDefinition). f.number) (take l.font-index l.fonts)
