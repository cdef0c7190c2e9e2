-- What leaves an \hbox that is appended to a vertical list: marks, insertions and the lists of its \vadjust (TeX: The Program, section
-- 655).
use Rattle.std.specs.Prelude.{Bool, true, false, ◌||◌, List, [], ◌∷◌}
use Rattle.tx_node.specs.declared.plain.Shared.{Shared}
use Rattle.tx_node.specs.declared.plain.Shared.TheVariants.{Rule, Leaders, Special, Ligature, Mark}
use Rattle.tx_node.specs.Items.{Item, plain, shared, boxed, discretionary, adjustment, insertion, box_leaders}

abbrev pub larger_leaves : Shared → Bool
larger_leaves (Rule r) = false
larger_leaves (Leaders l) = false
larger_leaves (Special text) = false
larger_leaves (Ligature l) = false
larger_leaves (Mark text) = true

abbrev pub leaves_box : Item → Bool
leaves_box (plain p) = false
leaves_box (shared s) = larger_leaves s
leaves_box (boxed shift head inner) = false
leaves_box (discretionary head before behind) = false
leaves_box (adjustment inner) = true
leaves_box (insertion head inner) = true
leaves_box (box_leaders head repeated inner) = false

-- whether anything of a list does
abbrev pub any_leaves_box : List Item → Bool
any_leaves_box [] = false
any_leaves_box (item ∷ rest) = leaves_box item || any_leaves_box rest
