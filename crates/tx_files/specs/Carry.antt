-- How a list of changes carries what stands behind them: change by change, in their order.
use Rattle.std.specs.Prelude.{ℕ, ◌+◌, nat_le, List, [], ◌∷◌, fold, Option, Some, None, if◌then◌else◌}
use Rattle.std.specs.Option.{option_and_then}
use Rattle.std.specs.Str.{bytes_eq}
use Rattle.tx_files.specs.Shift.{shifted}
use Rattle.tx_files.specs.declared.edit.Edit.{Edit as FileEdit}
use Rattle.tx_files.specs.declared.edit.Change.{Change}
use Rattle.tx_files.specs.declared.edit.Change.TheVariants.{Edit, Remove}

-- what each change makes of it
abbrev pub carried : {X : Type 0} → (Change → X → X) → List Change → X → X
carried by changes x = fold (λ y c. by c y) x changes

-- each change can make something of it, as the changes before leave it
abbrev pub CanCarry : {X : Type 0} → (Change → X → X) → (Change → X → Type 0) → List Change → X → Type 0
CanCarry by Can [] x = Unit {0}
CanCarry by Can (c ∷ changes) x = Can c x × CanCarry by Can changes (by c x)

-- a place of an edited file, after the edit: it has to stand behind the bytes that are taken out
abbrev pub moved_place : FileEdit → ℕ → Option ℕ
moved_place e offset = if nat_le (e.place + e.removed) offset then Some (shifted e offset) else None

-- a place of a file of this name, after a change: an edit of another file leaves it, and no place is left of a file that is
-- taken away
abbrev pub place_after : Change → List ℕ → ℕ → Option ℕ
place_after (Edit e) name offset = if bytes_eq name e.name then moved_place e offset else Some offset
place_after (Remove gone) name offset = if bytes_eq name gone then None else Some offset

-- and after a list of changes
abbrev pub carried_place : List Change → List ℕ → ℕ → Option ℕ
carried_place [] name offset = Some offset
carried_place (c ∷ changes) name offset = option_and_then (λ at. carried_place changes name at) (place_after c name offset)
