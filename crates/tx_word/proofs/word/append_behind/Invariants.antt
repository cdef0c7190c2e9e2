use Rattle.std.proofs.Common.{◌≡◌, ◌<◌, ◌-◌, ◌++◌, false, drop, length}
use Rattle.tx_word.specs.Composed.{word_list}
use Rattle.tx_word.proofs.word.append_behind.Given as goal

abbrev pub invariant-loop-at : goal.invariant-loop-at
invariant-loop-at l = record {
  put : l.list ++ word_list l.fonts l.font (drop l.at l.chars) false l.right l.hyphen ≡ l.initial.list ++ word_list l.fonts l.font l.chars false l.right l.hyphen;
  inside : l.at < length l.chars;
}

abbrev pub decreases-loop-at : goal.decreases-loop-at
decreases-loop-at l = length l.chars - l.at
