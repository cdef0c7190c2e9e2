-- What a break costs (TeX: The Program, sections 974, 975, 1005 and 1007).
use Rattle.std.specs.Prelude.{ℕ, Bool, ◌==◌, not, ◌||◌, nat_lt, ℤ, pos, neg_ℤ, ◌+ℤ◌, ◌-ℤ◌, int_lt, int_le, unsigned_abs, is_none, Option, Some, None, if◌then◌else◌}
use Rattle.std.specs.Option.{unwrap_or}
use Rattle.tx_num.specs.Badness.{badness_of}
use Rattle.tx_insert.specs.declared.sums.Sums.{Sums}
use Rattle.tx_insert.specs.declared.trial.Trial.{Trial}
use Rattle.tx_insert.specs.Sums.{reach}

-- the cost of a break at which the list is overfull, and of one with badness 10000
abbrev pub awful : ℤ
awful = pos 1073741823

abbrev pub deplorable : ℤ
deplorable = pos 100000

abbrev pub not_nothing : ℤ → Bool
not_nothing size = not (unsigned_abs size == 0)

-- how bad it is to set a list with these sums to a height: nothing where it has infinite stretch to grow by, None where it is overfull
abbrev pub has_infinite : Sums → Bool
has_infinite sums = not_nothing sums.fil || (not_nothing sums.fill || not_nothing sums.filll)

abbrev pub stretched : ℤ → Sums → ℕ
stretched excess sums = if has_infinite sums then 0 else badness_of excess sums.normal

abbrev pub shrunk : ℤ → Sums → Option ℕ
shrunk surplus sums = if int_lt sums.shrink surplus then None else Some (badness_of surplus sums.shrink)

abbrev pub badness_at : ℤ → Sums → Option ℕ
badness_at goal sums = if int_lt sums.height goal then Some (stretched (goal -ℤ sums.height) sums) else shrunk (sums.height -ℤ goal) sums

-- a break that is forced
abbrev pub is_forced : ℤ → Bool
is_forced penalty = int_le penalty (neg_ℤ (pos 10000))

-- the list is overfull, or the penalties of the inserts of a page forbid any break of it (section 1005)
abbrev pub is_awful : ℤ → Option ℕ → Bool
is_awful inserts badness = is_none badness || int_le (pos 10000) inserts

-- the cost of a break by its penalty, \insertpenalties, which are 0 but on a page, and that badness
abbrev pub cost_with : ℤ → ℤ → ℕ → ℤ
cost_with penalty inserts badness =
    if is_forced penalty then penalty
    else if nat_lt badness 10000 then pos badness +ℤ penalty +ℤ inserts
    else deplorable

abbrev pub cost_of : ℤ → ℤ → Option ℕ → ℤ
cost_of penalty inserts badness = if is_awful inserts badness then awful else cost_with penalty inserts (unwrap_or badness 0)

-- the break at a place, of this size, and whether nothing behind it is tried
abbrev pub trial_of : ℕ → ℤ → ℤ → ℤ → Option ℕ → Trial
trial_of place size penalty inserts badness = record {
  made = record { place = place; size = size; cost = cost_of penalty inserts badness };
  stops = is_awful inserts badness || is_forced penalty;
}

-- the break at a place of a list with this penalty, before which these sums stand
abbrev pub trial_at : ℤ → ℕ → ℤ → Sums → Trial
trial_at goal place penalty sums = trial_of place (reach sums) penalty (pos 0) (badness_at goal sums)
