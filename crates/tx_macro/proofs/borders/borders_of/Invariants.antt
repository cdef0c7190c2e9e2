use Rattle.std.proofs.Common.{◌≡◌, ◌+◌, take, drop, length}
use Rattle.tx_macro.specs.Agreement.{IsTable, agreement}
use Rattle.tx_macro.proofs.borders.borders_of.Given as goal

abbrev pub invariant-loop-k : goal.invariant-loop-k
invariant-loop-k l = record {
  table : IsTable l.delimiter l.borders.items l.k;
  count : length l.borders.items ≡ l.k + 1;
  border_is : l.border ≡ agreement l.delimiter (drop 1 (take l.k l.delimiter));
}
