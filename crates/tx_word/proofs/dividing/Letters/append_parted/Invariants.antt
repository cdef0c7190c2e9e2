use Rattle.std.proofs.Common.{◌≡◌, ◌++◌, drop, map}
use Rattle.tx_word.specs.Dividing.{parted_in}
use Rattle.tx_word.specs.Divisions.{part_item, parted_at}
use Rattle.tx_word.proofs.dividing.Letters.append_parted.Given as goal

abbrev pub invariant-loop-division : goal.invariant-loop-division
invariant-loop-division l =
    l.list ++ map (part_item l.self.fonts.now l.self.font) (parted_at (parted_in l.self) (drop l.division-index l.divisions) l.item)
    ≡ l.initial.list ++ map (part_item l.self.fonts.now l.self.font) (parted_at (parted_in l.self) l.divisions l.item)
