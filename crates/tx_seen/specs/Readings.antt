-- Reading one thing off the items at the front of a list: this is what every scan's definition gives.
use Rattle.std.specs.Prelude.{◌≡◌, ℕ, ◌-◌, ◌++◌, ◌∷◌, [], List, length, drop}
use Rattle.tx_seen.specs.declared.error.TexError.{TexError}
use Rattle.tx_seen.specs.declared.fed.Want.{Want}
use Rattle.tx_seen.specs.declared.fed.Kind.{Kind}
use Rattle.tx_seen.specs.declared.item.Item.{Item}
use Rattle.tx_seen.specs.declared.item.Item.TheVariants.{Took, Gave}
use Rattle.tx_seen.specs.declared.fed.Fed.{Fed}
use Rattle.tx_seen.specs.declared.fed.Fed.TheVariants as fed

-- the items are a proper part of a thing, where one more token comes next, or a value of this kind; or begin with a
-- whole one, and these are behind it; or begin none, which is this error
pub data Reading (A : Type 0) : Type 0 where
  More : Want → Reading A
  Need : Kind → Reading A
  Done : A → List Item → Reading A
  Wrong : TexError → Reading A

-- one thing and then another
abbrev pub next : {A B : Type 0} → Reading A → (A → List Item → Reading B) → Reading B
next (More want) on = More want
next (Need kind) on = Need kind
next (Done a rest) on = on a rest
next (Wrong error) on = Wrong error

-- the tokens among them
abbrev pub tokens : List Item → List Item
tokens [] = []
tokens (Took t ∷ rest) = Took t ∷ tokens rest
tokens (Gave v ∷ rest) = tokens rest

-- the last ones of a list, so many
abbrev pub ending : {A : Type 0} → ℕ → List A → List A
ending count xs = drop (length xs - count) xs

-- the last tokens, so many of them: a value can be given after a token that goes back, as in \count1x
abbrev pub last : ℕ → List Item → List Item
last count items = ending count (tokens items)

-- an answer is what reading gives of the items taken, whatever comes behind them where the thing ends or goes wrong: the
-- last of them, so many, stand behind a thing that has ended. Before that the scan is the one that has taken them.
abbrev pub Answers : {S A : Type 0} → (List Item → Reading A) → (S → List Item → Type 0) → List Item → S → Fed A → Type 0
Answers reading HasTaken taken scan (fed.More want) = (reading taken ≡ More want) × HasTaken scan taken
Answers reading HasTaken taken scan (fed.Need kind) = (reading taken ≡ Need kind) × HasTaken scan taken
Answers reading HasTaken taken scan (fed.Done value back) = (more : List Item) → reading (taken ++ more) ≡ Done value (last back taken ++ more)
Answers reading HasTaken taken scan (fed.Wrong error) = (more : List Item) → reading (taken ++ more) ≡ Wrong error

-- reading on from here: what is whole stays so with more items behind it, and what is wrong stays wrong
abbrev pub ReadsOn : {A : Type 0} → List Item → Reading A → Reading A → Type 0
ReadsOn more (More want) longer = Unit {0}
ReadsOn more (Need kind) longer = Unit {0}
ReadsOn more (Done a rest) longer = longer ≡ Done a (rest ++ more)
ReadsOn more (Wrong error) longer = longer ≡ Wrong error
