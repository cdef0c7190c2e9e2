-- What walks through lists go down: four times what they count, a list standing above its items, an item above the atom, fraction or
-- choice that it is, and this above its parts and lists.
use Rattle.std.proofs.Common.{◌≡◌, ℕ, zero, suc, ◌+◌, ◌*◌, ◌<◌, ◌≤◌, List, [], ◌∷◌, length, get_or, arith, subst, sym}
use Rattle.tx_mlist.specs.declared.noad.Atom.{Atom}
use Rattle.tx_mlist.specs.declared.noad.Choice.{Choice}
use Rattle.tx_mlist.specs.declared.noad.Field.{Field}
use Rattle.tx_mlist.specs.declared.noad.Fraction.{Fraction}
use Rattle.tx_mlist.specs.declared.noad.Noad.{Noad}
use Rattle.tx_mlist.specs.Items.{MathItem, gathered}
use Rattle.tx_mlist.specs.Counts.{count_of, item_count, part_count}
use Rattle.tx_mlist.specs.Noads.{atom_of, choice_of, fraction_of, math_of, mlist_of, part_of}

abbrev pub list_measure : List Noad → ℕ
list_measure xs = 4 * count_of (gathered (mlist_of xs)) + 3

abbrev pub noad_measure : Noad → ℕ
noad_measure x = 4 * item_count (math_of x) + 2

abbrev pub atom_measure : Atom → ℕ
atom_measure a = 4 * item_count (atom_of a) + 1

abbrev pub fraction_measure : Fraction → ℕ
fraction_measure f = 4 * item_count (fraction_of f) + 1

abbrev pub choice_measure : Choice → ℕ
choice_measure c = 4 * item_count (choice_of c) + 1

abbrev pub part_measure : Field → ℕ
part_measure f = 4 * part_count (part_of f) + 1

-- a list that a noad has
abbrev pub inner_measure : List MathItem → ℕ
inner_measure list = 4 * count_of (gathered list) + 4

counts : (xs : List Noad) (i : ℕ) (d : Noad) → i < length xs → item_count (math_of (get_or xs i d)) ≤ count_of (gathered (mlist_of xs))
counts [] i d h = absurd (omega arith)
counts (x ∷ xs) zero d h = omega arith
counts (x ∷ xs) (suc i) d h = omega (arith, counts xs i d (omega arith))

-- from a list to one of its items
pub to-item : (xs : List Noad) (i : ℕ) {x : Noad} → i < length xs → x ≡ get_or xs i x → noad_measure x < list_measure xs
to-item xs i {x} h is = subst (λ y. noad_measure y < list_measure xs) (sym is) (omega (arith, counts xs i x h))

-- from a list that a noad has to its noads
pub to-noads : (list : List MathItem) (xs : List Noad) → mlist_of xs ≡ list → list_measure xs < inner_measure list
to-noads list xs is = rw is (omega arith)
