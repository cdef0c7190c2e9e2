use Rattle.std.proofs.Common.{◌≡◌, ◌≤◌, [], ◌∷◌, ◌++◌, take}
use Rattle.tx_macro.specs.Agreement.{agreement}
use Rattle.tx_macro.proofs.borders.agreed.Given as goal

abbrev pub invariant-loop-before : goal.invariant-loop-before
invariant-loop-before l = record {
  fewer : l.agreed ≤ l.before;
  same : agreement l.delimiter (take l.agreed l.delimiter ++ l.token ∷ []) ≡ agreement l.delimiter (take l.before l.delimiter ++ l.token ∷ []);
}

abbrev pub decreases-loop-before : goal.decreases-loop-before
decreases-loop-before l = l.agreed
