use Rattle.std.proofs.Common.{◌≡◌, ◌+◌, ◌*◌, drop}
use Rattle.tx_math.specs.Converting.{entries_in, pieces_in}
use Rattle.tx_math.specs.Formula.{inward, pieces_of}
use Rattle.tx_math.specs.Setters.{math_in}
use Rattle.tx_math.proofs.Telling.{behind_pieces}
use Rattle.tx_math.proofs.setter.Setter.+set.Given as goal

-- levels that are left, and below each the way from a list to its parts
abbrev pub invariant-pieces_of-loop-at : goal.invariant-pieces_of-loop-at
invariant-pieces_of-loop-at l =
    behind_pieces (pieces_in l.pieces) (pieces_of (inward l.levels (math_in l.self)) (math_in l.self) (entries_in (drop l.at l.entries)) l.report)
    ≡ pieces_of (inward l.levels (math_in l.self)) (math_in l.self) (entries_in l.entries) l.initial.report

abbrev pub decreases-list_in : goal.decreases-list_in
decreases-list_in l = 20 * l.levels

abbrev pub decreases-pieces_of : goal.decreases-pieces_of
decreases-pieces_of l = 20 * l.levels + 17

abbrev pub decreases-piece_of : goal.decreases-piece_of
decreases-piece_of l = 20 * l.levels + 16

abbrev pub decreases-fraction_items : goal.decreases-fraction_items
decreases-fraction_items l = 20 * l.levels + 9

abbrev pub decreases-atom_list : goal.decreases-atom_list
decreases-atom_list l = 20 * l.levels + 15

abbrev pub decreases-limits_list : goal.decreases-limits_list
decreases-limits_list l = 20 * l.levels + 9

abbrev pub decreases-scripted_operator : goal.decreases-scripted_operator
decreases-scripted_operator l = 20 * l.levels + 9

abbrev pub decreases-limits_about : goal.decreases-limits_about
decreases-limits_about l = 20 * l.levels + 8

abbrev pub decreases-scripts_about : goal.decreases-scripts_about
decreases-scripts_about l = 20 * l.levels + 8

abbrev pub decreases-boxed_list : goal.decreases-boxed_list
decreases-boxed_list l = 20 * l.levels + 8

abbrev pub decreases-scripted : goal.decreases-scripted
decreases-scripted l = 20 * l.levels + 8

abbrev pub decreases-with_scripts : goal.decreases-with_scripts
decreases-with_scripts l = 20 * l.levels + 7

abbrev pub decreases-nucleus_of : goal.decreases-nucleus_of
decreases-nucleus_of l = 20 * l.levels + 6

abbrev pub decreases-part_list : goal.decreases-part_list
decreases-part_list l = 20 * l.levels + 5

abbrev pub decreases-cleaned : goal.decreases-cleaned
decreases-cleaned l = 20 * l.levels + 6

abbrev pub decreases-cleaned_inner : goal.decreases-cleaned_inner
decreases-cleaned_inner l = 20 * l.levels + 6

abbrev pub decreases-script_box : goal.decreases-script_box
decreases-script_box l = 20 * l.levels + 6

abbrev pub decreases-limits_below : goal.decreases-limits_below
decreases-limits_below l = 20 * l.levels + 7

abbrev pub decreases-accented : goal.decreases-accented
decreases-accented l = 20 * l.levels + 14

abbrev pub decreases-accent_over : goal.decreases-accent_over
decreases-accent_over l = 20 * l.levels + 13

abbrev pub decreases-accent_on : goal.decreases-accent_on
decreases-accent_on l = 20 * l.levels + 11

abbrev pub decreases-accent_with : goal.decreases-accent_with
decreases-accent_with l = 20 * l.levels + 10

abbrev pub decreases-scripted_box : goal.decreases-scripted_box
decreases-scripted_box l = 20 * l.levels + 9

abbrev pub decreases-accent_before : goal.decreases-accent_before
decreases-accent_before l = 20 * l.levels + 8

abbrev pub decreases-accent_moved : goal.decreases-accent_moved
decreases-accent_moved l = 20 * l.levels + 12

abbrev pub decreases-accent_alone : goal.decreases-accent_alone
decreases-accent_alone l = 20 * l.levels + 9
