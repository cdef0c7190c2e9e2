-- \prevgraf, which counts the lines of the last paragraph of the innermost vertical list (TeX: The Program, sections 212, 422, 1091
-- and 1244).
use Rattle.std.specs.Prelude.{ℕ, ◌+◌, nat_le, ℤ, pos, int_lt, unsigned_abs, [], Option, Some, None, if◌then◌else◌}
use Rattle.tx_prim.specs.declared.modes.Mode.{Mode}
use Rattle.tx_prim.specs.declared.modes.Mode.TheVariants as mode
use Rattle.tx_nest.specs.declared.list.ModeList.{ModeList}
use Rattle.tx_nest.specs.declared.state.ModeState.{ModeState}
use Rattle.tx_nest.specs.declared.state.ModeState.TheVariants.{Vertical, InternalVertical, Horizontal, RestrictedHorizontal, Math, DisplayMath}
use Rattle.tx_nest.specs.States.{begun}

-- a vertical list has its own, which is 0 at first; a paragraph counts from 0 for the list around it; all other lists go on with
-- what there is around them
abbrev pub begun_graf : Mode → ℕ → ℕ
begun_graf mode.Vertical around = 0
begun_graf mode.InternalVertical around = 0
begun_graf mode.Horizontal around = 0
begun_graf mode.RestrictedHorizontal around = around
begun_graf mode.Math around = around
begun_graf mode.DisplayMath around = around

-- an empty list that begins in another one
abbrev pub list_within : Mode → ModeList → ModeList
list_within mode around = record { state = begun mode; nodes = []; prev_graf = begun_graf mode around.prev_graf }

-- \prevgraf is set
abbrev pub with_graf : ModeList → ℕ → ModeList
with_graf list graf = record list { prev_graf = graf }

-- where a list ends that isn't vertical, the one around it goes on with its \prevgraf
abbrev pub behind_list : ModeState → ℕ → ModeList → ModeList
behind_list (Vertical depth) graf around = around
behind_list (InternalVertical depth) graf around = around
behind_list (Horizontal factor) graf around = with_graf around graf
behind_list (RestrictedHorizontal factor) graf around = with_graf around graf
behind_list Math graf around = with_graf around graf
behind_list DisplayMath graf around = with_graf around graf

-- a number that \prevgraf is to be: none that is negative
abbrev pub graf_of : ℤ → Option ℕ
graf_of n = if int_lt n (pos 0) then None else Some (unsigned_abs n)

-- with so many lines more, if that is an integer of TeX's
abbrev pub raised_graf : ℕ → ℕ → Option ℕ
raised_graf graf lines = if nat_le (graf + lines) 2147483647 then Some (graf + lines) else None
