use Rattle.std.proofs.Common.{◌≡◌, take, map, length}
use Rattle.tx_char.specs.Category.{initial_category, numbers_below}
use Rattle.tx_char.proofs.table.initex_categories.Given as goal

-- the categories below this code are written
abbrev pub invariant-loop-code : goal.invariant-loop-code
invariant-loop-code l = (length l.by_code ≡ 256) × (take l.code l.by_code ≡ map initial_category (numbers_below l.code))
