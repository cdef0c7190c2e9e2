use Rattle.std.proofs.Common.{◌≡◌, ◌++◌}
use Rattle.std.specs.List.{flat_map}
use Rattle.tx_word.specs.Words.{word_items}
use Rattle.tx_word.proofs.word.append_items.Given as goal

abbrev pub invariant-loop-item : goal.invariant-loop-item
invariant-loop-item l =
    l.list ++ flat_map (word_items l.fonts l.font l.hyphen) l.item-iterator.rest.items ≡ l.initial.list ++ flat_map (word_items l.fonts l.font l.hyphen) l.fn.items
