-- How much room columns take with the skips behind them (TeX: The Program, sections 796 and 802).
use Rattle.std.specs.Prelude.{◌≡◌, ◌-ℤ◌, ◌+ℤ◌, ℤ, pos, List, [], ◌∷◌, drop, Ok}
use Rattle.tx_align.specs.declared.entry.Entry.{Entry}
use Rattle.tx_align.specs.declared.sized.SizedColumn.{SizedColumn}
use Rattle.tx_align.specs.declared.sized.Sizing.{Sizing}
use Rattle.tx_align.specs.Preambles.{Forming}
use Rattle.tx_align.specs.Widths.{left_over, none_sized, sized_from}

abbrev pub extent : List SizedColumn → ℤ
extent [] = pos 0
extent (c ∷ rest) = c.width +ℤ c.skip.width +ℤ extent rest

-- what an entry leaves to the column in which it ends is its width, less the widths of the columns before that which it spans and the skips
-- between
abbrev pub IsLeft : Sizing → Entry → Type 0
IsLeft s entry = left_over s entry ≡ entry.width -ℤ extent (drop entry.first s.columns)

-- and so it is at each column, when those before it have their widths
abbrev pub LeavesRoom : Forming → Type 0
LeavesRoom p = (groups : List (List Entry)) (s : Sizing) (entry : Entry) → sized_from p (none_sized p) groups ≡ Ok s → IsLeft s entry
