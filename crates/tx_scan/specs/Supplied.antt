-- Values from a table, as often as a scan needs one.
use Rattle.std.specs.Prelude.{◌<◌, ◌≤◌, ◌+◌, ℕ, zero, suc, ◌++◌, ◌∷◌, [], List, length}
use Rattle.tx_seen.specs.declared.fed.Kind.{Kind}
use Rattle.tx_seen.specs.declared.fed.Kind.TheVariants.{Quantity}
use Rattle.tx_seen.specs.declared.fed.Value.{Value}
use Rattle.tx_seen.specs.declared.fed.Fed.{Fed}
use Rattle.tx_seen.specs.declared.fed.Fed.TheVariants as fed
use Rattle.tx_seen.specs.declared.place.Place.{Place}
use Rattle.tx_seen.specs.declared.item.Item.{Item}
use Rattle.tx_seen.specs.declared.item.Item.TheVariants.{Gave}
use Rattle.tx_seen.specs.Readings.{Reading, More, Need, Done, Wrong}

-- the value that is needed
abbrev pub value_for : (Place → Value) → Kind → Value
value_for at (Quantity place) = at place

-- an answer that needs no value
abbrev pub NeedsNothing : {A : Type 0} → Fed A → Type 0
NeedsNothing (fed.More want) = Unit {0}
NeedsNothing (fed.Need kind) = ⊥
NeedsNothing (fed.Done value back) = Unit {0}
NeedsNothing (fed.Wrong error) = Unit {0}

-- where one more value is needed, fewer are needed from then on
abbrev pub NeedsFewer : {A : Type 0} → ℕ → ℕ → Fed A → Type 0
NeedsFewer old new (fed.More want) = new ≤ old
NeedsFewer old new (fed.Need kind) = new < old
NeedsFewer old new (fed.Done value back) = Unit {0}
NeedsFewer old new (fed.Wrong error) = Unit {0}

-- behind one more token one value more may be needed; where one is needed now, no more than before are from then on
abbrev pub NeedsNoMore : {A : Type 0} → ℕ → ℕ → Fed A → Type 0
NeedsNoMore old new (fed.More want) = new ≤ old + 1
NeedsNoMore old new (fed.Need kind) = new ≤ old
NeedsNoMore old new (fed.Done value back) = Unit {0}
NeedsNoMore old new (fed.Wrong error) = Unit {0}

-- how many values may be needed, by the answer and by how many are needed behind one more
abbrev pub needed : {A : Type 0} → Fed A → ℕ → ℕ
needed (fed.Need kind) more = suc more
needed _ more = zero

-- these items where reading them needs no value, and else what comes of them by what is needed
abbrev pub unless_needed : {A : Type 0} → Reading A → List Item → (Kind → List Item) → List Item
unless_needed (More want) items on = items
unless_needed (Need kind) items on = on kind
unless_needed (Done a rest) items on = items
unless_needed (Wrong error) items on = items

-- the items with the values that reading them needs behind them, as a table has them, at most so many
abbrev pub supplied : {A : Type 0} → ℕ → (Place → Value) → (List Item → Reading A) → List Item → List Item
supplied zero at reading items = items
supplied (suc count) at reading items = unless_needed (reading items) items (λ kind. supplied count at reading (items ++ Gave (value_for at kind) ∷ []))

-- the items with all of them: behind each token one more may be needed
abbrev pub with_values : {A : Type 0} → (Place → Value) → (List Item → Reading A) → List Item → List Item
with_values at reading items = supplied (suc (length items)) at reading items
