use Rattle.std.proofs.Common.{◌≡◌, ◌≤◌, false}
use Rattle.tx_insert.specs.Breaks.{no_break}
use Rattle.tx_insert.specs.Sums.{IsSmall, no_sums}
use Rattle.tx_insert.proofs.Searching.{search_from}
use Rattle.tx_insert.proofs.Places.{kinds_from}
use Rattle.tx_insert.proofs.breaking.found.Given as goal

abbrev pub invariant-loop-place : goal.invariant-loop-place
invariant-loop-place l = record {
  rest : search_from l.goal l.maxdepth l.best l.place l.after_solid l.sums (kinds_from l.list l.place)
      ≡ search_from l.goal l.maxdepth no_break 0 false no_sums (kinds_from l.list 0);
  small : IsSmall l.sums;
  within : l.best.place ≤ l.place;
}
