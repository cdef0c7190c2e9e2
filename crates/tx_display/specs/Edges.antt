-- \predisplaysize: how far the line before a display reaches (TeX: The Program, sections 1146 to 1148).
use Rattle.std.specs.Prelude.{ℕ, zero, suc, ◌==◌, ◌||◌, Bool, true, false, not, ℤ, pos, neg_ℤ, ◌+ℤ◌, unsigned_abs, List, [], ◌∷◌, take, Option, Some, None, if◌then◌else◌}
use Rattle.tx_node.specs.declared.head.Direction.TheVariants.{Horizontal}
use Rattle.tx_node.specs.declared.head.Setting.{Setting}
use Rattle.tx_node.specs.declared.plain.Plain.{Plain}
use Rattle.tx_node.specs.declared.plain.Plain.TheVariants.{Kern, Glue, Penalty, Character}
use Rattle.tx_node.specs.declared.plain.Shared.{Shared}
use Rattle.tx_node.specs.declared.plain.Shared.TheVariants.{Rule, Leaders, Special, Ligature, Mark}
use Rattle.tx_node.specs.Items.{Item, PackedBox, plain, shared, boxed, discretionary, adjustment, insertion, box_leaders}
use Rattle.tx_node.specs.Setting.{share}
use Rattle.tx_nest.specs.Lasts.{list_from}
use Rattle.tx_pack.specs.declared.sums.Sums.{Sums}
use Rattle.tx_pack.specs.Packing.{if_fits}
use Rattle.tx_pack.specs.Sums.{sums_of}

-- what shows in a line: characters, ligatures, rules and boxes, and leaders, which are filled with such
abbrev pub plain_shows : Plain → Bool
plain_shows (Kern kind size) = false
plain_shows (Glue g) = false
plain_shows (Penalty n) = false
plain_shows (Character c) = true

abbrev pub shared_shows : Shared → Bool
shared_shows (Rule r) = true
shared_shows (Leaders l) = true
shared_shows (Special text) = false
shared_shows (Ligature l) = true
shared_shows (Mark text) = false

abbrev pub shows : Item → Bool
shows (plain p) = plain_shows p
shows (shared s) = shared_shows s
shows (boxed shift head inner) = true
shows (discretionary head before behind) = false
shows (adjustment inner) = false
shows (insertion head inner) = false
shows (box_leaders head repeated inner) = true

-- how many items there are up to the last one that shows, which counts too; 0 where none does
abbrev pub up_to : Bool → ℕ → ℕ
up_to shown zero = if shown then suc zero else zero
up_to shown (suc n) = suc (suc n)

abbrev pub reach : List Item → ℕ
reach [] = 0
reach (item ∷ rest) = up_to (shows item) (reach rest)

-- whether glue of an item is set: it stretches or shrinks in a box that is set so
abbrev pub is_set : Setting → Item → Bool
is_set setting item = not (unsigned_abs (share setting item) == 0)

abbrev pub any_is_set : Setting → List Item → Bool
any_is_set setting [] = false
any_is_set setting (item ∷ rest) = is_set setting item || any_is_set setting rest

-- the least and the greatest dimension
abbrev pub least_size : ℤ
least_size = neg_ℤ (pos 1073741823)

abbrev pub greatest_size : ℤ
greatest_size = pos 1073741823

-- the edge of what reaches so far in a line that is so far to the right, and two quads more
unfoldable pub free_edge : ℤ → ℤ → ℤ → ℤ
free_edge width shift quad = width +ℤ shift +ℤ quad +ℤ quad

-- that of items with these sums, at natural places; None where that is no dimension
abbrev pub edge_by : Option Sums → ℤ → ℤ → Option ℤ
edge_by None shift quad = None
edge_by (Some sums) shift quad = if_fits (free_edge sums.width shift quad)

-- that of the items that a line begins with, up to the last one that shows: the greatest dimension where glue of them is set
unfoldable pub size_of_part : Setting → List Item → ℤ → ℤ → Option ℤ
size_of_part setting part shift quad =
    if any_is_set setting part then Some greatest_size else edge_by (sums_of Horizontal part) shift quad

-- where nothing shows it is the least dimension
unfoldable pub size_by : ℕ → Setting → List Item → ℤ → ℤ → Option ℤ
size_by shown setting list shift quad = if shown == 0 then Some least_size else size_of_part setting (take shown list) shift quad

abbrev pub size_of_line : ℤ → PackedBox → ℤ → Option ℤ
size_of_line shift line quad = size_by (reach line.list) line.head.setting line.list shift quad

-- that of the item of a list that is the line; where there is none it is the least dimension
abbrev pub size_behind : Option Item → ℤ → Option ℤ
size_behind None quad = Some least_size
size_behind (Some (plain p)) quad = Some least_size
size_behind (Some (shared s)) quad = Some least_size
size_behind (Some (boxed shift head inner)) quad = size_of_line shift (record { head = head; list = list_from inner }) quad
size_behind (Some (discretionary head before behind)) quad = Some least_size
size_behind (Some (adjustment inner)) quad = Some least_size
size_behind (Some (insertion head inner)) quad = Some least_size
size_behind (Some (box_leaders head repeated inner)) quad = Some least_size
