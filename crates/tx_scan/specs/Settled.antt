-- Items that were taken of what is read, and the values that it needs behind them, until it needs none.
use Rattle.std.specs.Prelude.{◌≡◌, ◌<◌, ◌≤◌, ◌+◌, ℕ, List, [], ◌∷◌, length}
use Rattle.tx_char.specs.declared.tokens.Token.{Token}
use Rattle.tx_seen.specs.declared.fed.Fed.{Fed}
use Rattle.tx_seen.specs.declared.fed.Fed.TheVariants as fed
use Rattle.tx_seen.specs.declared.fed.Value.{Value}
use Rattle.tx_seen.specs.declared.fed.Want.{Want}
use Rattle.tx_seen.specs.declared.item.Item.{Item}
use Rattle.tx_seen.specs.declared.item.Item.TheVariants.{Took, Gave}
use Rattle.tx_seen.specs.declared.place.Place.{Place}
use Rattle.tx_seen.specs.Readings.{Reading, More, Need, Done, Wrong, last}
use Rattle.tx_scan.specs.Supplied.{supplied}

-- the tokens among items, as they are read again
abbrev pub tokens_of : List Item → List Token
tokens_of [] = []
tokens_of (Took t ∷ rest) = t.token ∷ tokens_of rest
tokens_of (Gave v ∷ rest) = tokens_of rest

-- the scan of what has taken these items, and wants its next token so
pub record WantsNext {S A : Type 0} (reading : List Item → Reading A) (HasTaken : S → List Item → Type 0) (more_needed : S → ℕ) (taken : List Item) (want : Want) (scan : S) : Type 0 where
  pub reads : HasTaken scan taken
  pub wants : reading taken ≡ More want
  pub few : more_needed scan ≤ length taken + 1

-- the answer says what reading gives of these items, and those that were taken are they, or give the same tokens back
abbrev pub IsSettled : {S A : Type 0} → (List Item → Reading A) → (S → List Item → Type 0) → (S → ℕ) → List Item → List Item → S → Fed A → Type 0
IsSettled reading HasTaken more_needed items taken scan (fed.More want) = (taken ≡ items) × WantsNext reading HasTaken more_needed taken want scan
IsSettled reading HasTaken more_needed items taken scan (fed.Need kind) = ⊥
IsSettled reading HasTaken more_needed items taken scan (fed.Done value back) = (reading items ≡ Done value (last back items)) × (tokens_of (last back taken) ≡ tokens_of (last back items))
IsSettled reading HasTaken more_needed items taken scan (fed.Wrong error) = reading items ≡ Wrong error

-- the same; or a value is needed, and these items are the taken ones and so many values at most
abbrev pub IsPending : {S A : Type 0} → (Place → Value) → (List Item → Reading A) → (S → List Item → Type 0) → (S → ℕ) → List Item → List Item → S → Fed A → Type 0
IsPending at reading HasTaken more_needed items taken scan (fed.Need kind) =
    (count : ℕ) × ((more_needed scan < count) × ((supplied count at reading taken ≡ items) × ((reading taken ≡ Need kind) × (HasTaken scan taken × (more_needed scan ≤ length taken)))))
IsPending at reading HasTaken more_needed items taken scan (fed.More want) = IsSettled reading HasTaken more_needed items taken scan (fed.More want)
IsPending at reading HasTaken more_needed items taken scan (fed.Done value back) = IsSettled reading HasTaken more_needed items taken scan (fed.Done value back)
IsPending at reading HasTaken more_needed items taken scan (fed.Wrong error) = IsSettled reading HasTaken more_needed items taken scan (fed.Wrong error)
