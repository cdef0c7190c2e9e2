-- What a scan means that is fed item by item: the rest of what it reads.
use Rattle.std.specs.Prelude.{◌≡◌, ◌≤◌, ◌+◌, ℕ, zero, suc, ◌++◌, ◌∷◌, [], List, length}
use Rattle.tx_seen.specs.declared.seen.Seen.{Seen}
use Rattle.tx_seen.specs.declared.item.Item.{Item}
use Rattle.tx_seen.specs.declared.item.Item.TheVariants.{Took, Gave}
use Rattle.tx_seen.specs.declared.fed.Fed.{Fed}
use Rattle.tx_seen.specs.declared.fed.Fed.TheVariants as fed
use Rattle.tx_seen.specs.declared.fed.Value.{Value}
use Rattle.tx_seen.specs.Readings.{Reading, More, Need, Done, Wrong, ending, last}

-- the scan that has taken these items, and holds so many of its tokens, reads on as the thing that begins with them
abbrev pub HasTakenBy : {S A : Type 0} → (S → List Item → Item → List Item → Reading A) → (S → ℕ) → (List Item → Reading A) → S → List Item → Type 0
HasTakenBy rest held reading scan taken = (item : Item) (more : List Item) → rest scan (last (held scan) taken) item more ≡ reading (taken ++ item ∷ more)

-- an answer says what reading gives of the items behind these tokens; the scan then holds, or gives back, the last of
-- them, so many at most
abbrev pub IsRead : {S A : Type 0} → (S → List Item → Item → List Item → Reading A) → (S → ℕ) → ℕ → (List Item → Reading A) → List Item → S → Fed A → Type 0
IsRead rest held most reading tokens scan (fed.More want) = (reading [] ≡ More want) × (held scan ≤ most) × ((item : Item) (more : List Item) → reading (item ∷ more) ≡ rest scan (ending (held scan) tokens) item more)
IsRead rest held most reading tokens scan (fed.Need kind) = (reading [] ≡ Need kind) × (held scan ≤ most) × ((item : Item) (more : List Item) → reading (item ∷ more) ≡ rest scan (ending (held scan) tokens) item more)
IsRead rest held most reading tokens scan (fed.Done value back) = (back ≤ most) × ((more : List Item) → reading more ≡ Done value (ending back tokens ++ more))
IsRead rest held most reading tokens scan (fed.Wrong error) = (more : List Item) → reading more ≡ Wrong error

-- an answer to one more token says what reading on gives, whatever tokens the scan holds. So a scan can be a part of a
-- longer one.
abbrev pub IsFedBy : {S A : Type 0} → (S → List Item → Item → List Item → Reading A) → (S → ℕ) → S → Seen → S → Fed A → Type 0
IsFedBy rest held old t new answer = (behind : List Item) → length behind ≤ held old → IsRead rest held (held old + 1) (λ more. rest old behind (Took t) more) (behind ++ Took t ∷ []) new answer

-- none or one
abbrev pub kept : ℕ → Seen → List Item
kept zero t = []
kept (suc n) t = Took t ∷ []

-- the same of a scan that holds a token only while a value is needed: behind this one it holds, or gives back, so many
-- tokens at most, none or this one
abbrev pub IsAnswer : {S A : Type 0} → (S → List Item → Item → List Item → Reading A) → (S → ℕ) → ℕ → (List Item → Reading A) → Seen → S → Fed A → Type 0
IsAnswer rest held most reading t scan (fed.More want) = (reading [] ≡ More want) × (held scan ≡ 0) × ((item : Item) (more : List Item) → reading (item ∷ more) ≡ rest scan [] item more)
IsAnswer rest held most reading t scan (fed.Need kind) = (reading [] ≡ Need kind) × (held scan ≤ most) × ((item : Item) (more : List Item) → reading (item ∷ more) ≡ rest scan (kept (held scan) t) item more)
IsAnswer rest held most reading t scan (fed.Done value back) = (back ≤ most) × ((more : List Item) → reading more ≡ Done value (kept back t ++ more))
IsAnswer rest held most reading t scan (fed.Wrong error) = (more : List Item) → reading more ≡ Wrong error

-- the same where so many tokens, these, are held or given back
abbrev pub IsPassed : {S A : Type 0} → (S → List Item → Item → List Item → Reading A) → (S → ℕ) → (List Item → Reading A) → List Item → ℕ → S → Fed A → Type 0
IsPassed rest held reading behind count scan (fed.More want) = (reading [] ≡ More want) × (held scan ≡ count) × ((item : Item) (more : List Item) → reading (item ∷ more) ≡ rest scan behind item more)
IsPassed rest held reading behind count scan (fed.Need kind) = (reading [] ≡ Need kind) × (held scan ≡ count) × ((item : Item) (more : List Item) → reading (item ∷ more) ≡ rest scan behind item more)
IsPassed rest held reading behind count scan (fed.Done value back) = (back ≡ count) × ((more : List Item) → reading more ≡ Done value (behind ++ more))
IsPassed rest held reading behind count scan (fed.Wrong error) = (more : List Item) → reading more ≡ Wrong error

-- an answer to a value says what reading on gives, whatever tokens the scan holds; it holds them on, or gives them back
abbrev pub IsGivenBy : {S A : Type 0} → (S → List Item → Item → List Item → Reading A) → (S → ℕ) → S → Value → S → Fed A → Type 0
IsGivenBy rest held old v new answer = (behind : List Item) → length behind ≤ held old → IsPassed rest held (λ more. rest old behind (Gave v) more) behind (held old) new answer

-- an answer to a value says what reading on gives behind the token that was taken last, if that is held; it is held on, or
-- given back, or read as a part of what follows
abbrev pub IsGivenBehind : {S A : Type 0} → (S → List Item → Item → List Item → Reading A) → (S → ℕ) → S → Value → Seen → S → Fed A → Type 0
IsGivenBehind rest held old v t new answer = IsRead rest held (held old) (λ more. rest old (kept (held old) t) (Gave v) more) (kept (held old) t) new answer

-- an answer that ends a thing, where so many tokens behind it are given back
abbrev pub IsEnd : {A : Type 0} → (List Item → Reading A) → ℕ → Fed A → Type 0
IsEnd reading back (fed.More want) = ⊥
IsEnd reading back (fed.Need kind) = ⊥
IsEnd reading back (fed.Done value count) = (count ≡ back) × ((more : List Item) → reading more ≡ Done value more)
IsEnd reading back (fed.Wrong error) = (more : List Item) → reading more ≡ Wrong error

-- where a value is needed, one token at most is held
abbrev pub HoldsOne : {A : Type 0} → ℕ → Fed A → Type 0
HoldsOne n (fed.More want) = Unit {0}
HoldsOne n (fed.Need kind) = n ≤ 1
HoldsOne n (fed.Done value back) = Unit {0}
HoldsOne n (fed.Wrong error) = Unit {0}
