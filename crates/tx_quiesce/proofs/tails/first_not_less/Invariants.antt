use Rattle.std.proofs.Common.{◌-◌, ◌≤◌, ◌<◌, ℕ, length, slice_index_or}
use Rattle.tx_quiesce.proofs.tails.first_not_less.Given as goal

-- numbers before the low place are less, those from the high one on are not
abbrev pub invariant-loop-low : goal.invariant-loop-low
invariant-loop-low l = record {
  past : l.from ≤ l.low;
  order : l.low ≤ l.high;
  within : l.high ≤ length l.numbers;
  less : (k d : ℕ) → l.from ≤ k → k < l.low → slice_index_or l.numbers k d < l.value;
  not_less : (k d : ℕ) → l.high ≤ k → k < length l.numbers → l.value ≤ slice_index_or l.numbers k d;
}

abbrev pub decreases-loop-low : goal.decreases-loop-low
decreases-loop-low l = l.high - l.low
