use Rattle.std.proofs.Common.{◌≡◌, ◌++◌, ◌+◌, length, map}
use Rattle.tx_word.specs.Dividing.{parted_in}
use Rattle.tx_word.specs.Divisions.{divided, part_item}
use Rattle.tx_word.proofs.dividing.Letters.append_parts.Given as goal

abbrev pub invariant-loop-item : goal.invariant-loop-item
invariant-loop-item l = record {
  made : l.list ++ map (part_item l.self.fonts.now l.self.font) (divided (parted_in l.self) l.divisions l.place l.item-iterator.rest.items)
      ≡ l.initial.list ++ map (part_item l.self.fonts.now l.self.font) (divided (parted_in l.self) l.divisions 0 l.fn.items);
  counted : l.place + length l.item-iterator.rest.items ≡ length l.fn.items;
}
