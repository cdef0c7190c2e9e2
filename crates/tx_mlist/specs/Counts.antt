-- How deep lists nest in one another, and how much they hold.
use Rattle.std.specs.Prelude.{ℕ, suc, ◌+◌, max, List}
use Rattle.tx_mlist.specs.Items.{MathItem, Part, MathItems, atom, fraction, choice, small, material, empty, letter, packed, formula, nothing, followed, gathered}

-- how deep lists nest in a list: 0 where there is none in it, 1 where none of these has one in it
abbrev mutual
  pub depth_of : MathItems → ℕ
  depth_of nothing = 0
  depth_of (followed item rest) = max (item_depth item) (depth_of rest)

  pub item_depth : MathItem → ℕ
  item_depth (atom kind nucleus superscript subscript) = max (part_depth nucleus) (max (part_depth superscript) (part_depth subscript))
  item_depth (fraction head above below) = suc (max (depth_of above) (depth_of below))
  item_depth (choice display text script script_script) = suc (max (max (depth_of display) (depth_of text)) (max (depth_of script) (depth_of script_script)))
  item_depth (small s) = 0
  item_depth (material i) = 0

  pub part_depth : Part → ℕ
  part_depth empty = 0
  part_depth (letter c) = 0
  part_depth (packed shift b) = 0
  part_depth (formula items) = suc (depth_of items)

-- how many items a list holds, with all in its lists; each list counts too
abbrev mutual
  pub count_of : MathItems → ℕ
  count_of nothing = 0
  count_of (followed item rest) = item_count item + count_of rest

  pub item_count : MathItem → ℕ
  item_count (atom kind nucleus superscript subscript) = suc (part_count nucleus + part_count superscript + part_count subscript)
  item_count (fraction head above below) = suc (count_of above + count_of below)
  item_count (choice display text script script_script) = suc (count_of display + count_of text + count_of script + count_of script_script)
  item_count (small s) = 1
  item_count (material i) = 1

  pub part_count : Part → ℕ
  part_count empty = 0
  part_count (letter c) = 0
  part_count (packed shift b) = 0
  part_count (formula items) = suc (count_of items)

-- more than each list in a list counts
abbrev pub list_size : List MathItem → ℕ
list_size list = suc (count_of (gathered list))
