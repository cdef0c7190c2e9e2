use Rattle.std.proofs.Common.{◌≡◌, length, map}
use Rattle.tx_char.specs.Category.{numbers_below}
use Rattle.tx_paragraph.specs.Hyphens.{lower_code}
use Rattle.tx_paragraph.proofs.hyphens.lower_codes.Given as goal

-- the codes so far are those of the characters below
abbrev pub invariant-loop-code : goal.invariant-loop-code
invariant-loop-code l = record {
  value : l.codes ≡ map (lower_code l.table.table) (numbers_below l.code);
  count : length l.codes ≡ l.code;
}
