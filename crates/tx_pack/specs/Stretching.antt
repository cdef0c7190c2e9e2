-- How the glue of a box is set (TeX: The Program, sections 657 to 659, 664 and 665).
use Rattle.std.specs.Prelude.{ℕ, Bool, ◌==◌, ◌&&◌, ℤ, pos, neg_ℤ, int_lt, unsigned_abs, if◌then◌else◌}
use Rattle.tx_node.specs.declared.head.Change.{Change}
use Rattle.tx_node.specs.declared.head.Change.TheVariants.{Stretch, Shrink}
use Rattle.tx_node.specs.declared.head.Setting.{Setting}
use Rattle.tx_node.specs.declared.head.Setting.TheVariants.{Natural, Set}
use Rattle.tx_pack.specs.declared.sums.Orders.{Orders}
use Rattle.tx_pack.specs.declared.sums.Sums.{Sums}
use Rattle.tx_pack.specs.declared.stretching.Most.{Most}

abbrev pub is_nothing : ℤ → Bool
is_nothing size = unsigned_abs size == 0

-- an order and how much there is of it
abbrev pub most_of : ℕ → ℤ → Most
most_of order total = record { order = order; total = total }

-- the highest order of which there is something; normal where there is nothing
abbrev pub highest : Orders → Most
highest orders =
    if is_nothing orders.filll then (
    if is_nothing orders.fill then (
    if is_nothing orders.fil then most_of 0 orders.normal else most_of 1 orders.fil
    ) else most_of 2 orders.fill
    ) else most_of 3 orders.filll

-- glue is set by what there is of that order, if there is something
abbrev pub set_by : Change → Most → ℤ → Setting
set_by change most excess =
    if is_nothing most.total then Natural
    else Set (record { change = change; order = most.order; total = most.total; excess = excess })

-- a list that has to become shorter by more than its shrink of normal order
abbrev pub is_overfull : Most → ℤ → Bool
is_overfull most excess = most.order == 0 && int_lt most.total (neg_ℤ excess)

-- shrink of normal order goes no further than its total
abbrev pub held : Most → ℤ → ℤ
held most excess = if is_overfull most excess then neg_ℤ most.total else excess

-- how the glue of a list with these sums is set where it has to grow by so much; it shrinks where that is negative
abbrev pub setting_for : Sums → ℤ → Setting
setting_for sums excess =
    if int_lt (pos 0) excess then set_by Stretch (highest sums.stretch) excess
    else if int_lt excess (pos 0) then set_by Shrink (highest sums.shrink) (held (highest sums.shrink) excess)
    else Natural
