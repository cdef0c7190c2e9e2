-- A token, and the values that are needed behind it, as a table has them.
use Rattle.std.proofs.Common.{◌≡◌, ◌≤◌, ◌<◌, ◌+◌, ℕ, zero, suc, List, [], ◌∷◌, ◌++◌, length, refl, ap, sym, ◌∙◌, append-nil, length-append, arith}
use Rattle.tx_seen.specs.declared.fed.Fed.{Fed}
use Rattle.tx_seen.specs.declared.fed.Fed.TheVariants as fed
use Rattle.tx_seen.specs.declared.fed.Kind.{Kind}
use Rattle.tx_seen.specs.declared.fed.Value.{Value}
use Rattle.tx_seen.specs.declared.error.TexError.{TexError}
use Rattle.tx_seen.specs.declared.item.Item.{Item}
use Rattle.tx_seen.specs.declared.item.Item.TheVariants.{Took, Gave}
use Rattle.tx_seen.specs.declared.place.Place.{Place}
use Rattle.tx_seen.specs.declared.seen.Seen.{Seen}
use Rattle.tx_seen.specs.Readings.{Reading, More, Need, Done, Wrong, last, Answers}
use Rattle.tx_scan.specs.Rests.{HasTakenBy, IsFedBy, IsGivenBy}
use Rattle.tx_scan.specs.Settled.{tokens_of, IsSettled, IsPending}
use Rattle.tx_scan.specs.Supplied.{value_for, unless_needed, supplied, with_values, NeedsNoMore, NeedsFewer}
use Rattle.tx_scan.proofs.Answering.{fed-answers, given-answers}
use Rattle.tx_scan.proofs.Mappings.{Rest}

-- where no value is needed, none is given
given-none : {A : Type 0} (count : ℕ) (at : Place → Value) (reading : List Item → Reading A) (items : List Item) (answer : Reading A) → ((on : Kind → List Item) → unless_needed answer items on ≡ items) → reading items ≡ answer → supplied count at reading items ≡ items
given-none zero at reading items answer none is = refl
given-none (suc count) at reading items answer none is = ap (λ r. unless_needed r items (λ kind. supplied count at reading (items ++ Gave (value_for at kind) ∷ []))) is ∙ none (λ kind. supplied count at reading (items ++ Gave (value_for at kind) ∷ []))

-- one that is needed stands behind them
given-one : {A : Type 0} (count : ℕ) (at : Place → Value) (reading : List Item → Reading A) (items : List Item) (kind : Kind) → reading items ≡ Need kind → supplied (suc count) at reading items ≡ supplied count at reading (items ++ Gave (value_for at kind) ∷ [])
given-one count at reading items kind is = ap (λ r. unless_needed r items (λ kind. supplied count at reading (items ++ Gave (value_for at kind) ∷ []))) is

-- an answer that stands behind these items
whole-now : {A : Type 0} (reading : List Item → Reading A) (items : List Item) (a : A) (behind : List Item) → ((more : List Item) → reading (items ++ more) ≡ Done a (behind ++ more)) → reading items ≡ Done a behind
whole-now reading items a behind k = ap reading (sym (append-nil items)) ∙ (k [] ∙ ap (λ (xs : List Item). Done a xs) (append-nil behind))

wrong-now : {A : Type 0} (reading : List Item → Reading A) (items : List Item) (e : TexError) → ((more : List Item) → reading (items ++ more) ≡ Wrong e) → reading items ≡ Wrong e
wrong-now reading items e k = ap reading (sym (append-nil items)) ∙ k []

-- an answer to what was taken, behind which so many values at most make these items of it
answered : {S A : Type 0} (at : Place → Value) (reading : List Item → Reading A) (HasTaken : S → List Item → Type 0) (more_needed : S → ℕ) (items taken : List Item) (new : S) (most count : ℕ) (answer : Fed A) → Answers reading HasTaken taken new answer → most ≤ length taken + 1 → most ≤ count → supplied count at reading taken ≡ items → NeedsFewer most (more_needed new) answer → IsPending at reading HasTaken more_needed items taken new answer
answered at reading HasTaken more_needed items taken new most count (fed.More want) a short enough same n = (
  sym (given-none count at reading taken (More want) (λ on. refl) a.0) ∙ same,
  record { reads = a.1; wants = a.0; few = omega (arith, short, n) },
)
answered at reading HasTaken more_needed items taken new most count (fed.Need kind) a short enough same n =
    (count, (omega (arith, enough, n), (same, (a.0, (a.1, omega (arith, short, n))))))
answered at reading HasTaken more_needed items taken new most count (fed.Done value back) a short enough same n =
    let is : reading taken ≡ Done value (last back taken) = whole-now reading taken value (last back taken) a in
    let all : taken ≡ items = sym (given-none count at reading taken (Done value (last back taken)) (λ on. refl) is) ∙ same in
    (ap reading (sym all) ∙ (is ∙ ap (λ (xs : List Item). Done value (last back xs)) all), ap (λ (xs : List Item). tokens_of (last back xs)) all)
answered at reading HasTaken more_needed items taken new most count (fed.Wrong error) a short enough same n =
    let is : reading taken ≡ Wrong error = wrong-now reading taken error a in
    ap reading (sym (sym (given-none count at reading taken (Wrong error) (λ on. refl) is) ∙ same)) ∙ is

fewer : {A : Type 0} (old new : ℕ) (answer : Fed A) → NeedsNoMore old new answer → NeedsFewer (old + 1) new answer
fewer old new (fed.More want) n = n
fewer old new (fed.Need kind) n = omega (arith, n)
fewer old new (fed.Done value back) n = tt
fewer old new (fed.Wrong error) n = tt

-- behind one more token values may be needed
pub token-pending : {S A : Type 0} (at : Place → Value) (rest : Rest S A) (held more_needed : S → ℕ) (reading : List Item → Reading A) (taken : List Item) (t : Seen) (old new : S) (answer : Fed A) → HasTakenBy rest held reading old taken → more_needed old ≤ length taken + 1 → IsFedBy rest held old t new answer → NeedsNoMore (more_needed old) (more_needed new) answer → IsPending at reading (HasTakenBy rest held reading) more_needed (with_values at reading (taken ++ Took t ∷ [])) (taken ++ Took t ∷ []) new answer
token-pending at rest held more_needed reading taken t old new answer reads few fits n =
    let items : List Item = taken ++ Took t ∷ [] in
    let long : length items ≡ length taken + 1 = grind (arith, length-append) in
    answered at reading (HasTakenBy rest held reading) more_needed (with_values at reading items) items new (more_needed old + 1) (suc (length items)) answer
    (fed-answers rest held reading old new taken t answer reads fits) (omega (arith, long, few)) (omega (arith, long, few)) refl
    (fewer (more_needed old) (more_needed new) answer n)

value-by : {S A : Type 0} (at : Place → Value) (reading : List Item → Reading A) (HasTaken : S → List Item → Type 0) (more_needed : S → ℕ) (items taken : List Item) (kind : Kind) (old new : S) (answer : Fed A) (count : ℕ) → more_needed old < count → supplied count at reading taken ≡ items → reading taken ≡ Need kind → more_needed old ≤ length taken → Answers reading HasTaken (taken ++ Gave (value_for at kind) ∷ []) new answer → NeedsFewer (more_needed old) (more_needed new) answer → IsPending at reading HasTaken more_needed items (taken ++ Gave (value_for at kind) ∷ []) new answer
value-by at reading HasTaken more_needed items taken kind old new answer zero c same is few a n = absurd (omega (arith, c))
value-by at reading HasTaken more_needed items taken kind old new answer (suc count) c same is few a n =
    let now : List Item = taken ++ Gave (value_for at kind) ∷ [] in
    let long : length now ≡ length taken + 1 = grind (arith, length-append) in
    answered at reading HasTaken more_needed items now new (more_needed old) count answer a (omega (arith, long, few)) (omega (arith, c))
    (sym (given-one count at reading taken kind is) ∙ same) n

-- behind a value another one may be needed
pub value-answered : {S A : Type 0} (at : Place → Value) (reading : List Item → Reading A) (HasTaken : S → List Item → Type 0) (more_needed : S → ℕ) (items taken : List Item) (kind : Kind) (old new : S) (answer : Fed A) → IsPending at reading HasTaken more_needed items taken old (fed.Need kind) → Answers reading HasTaken (taken ++ Gave (value_for at kind) ∷ []) new answer → NeedsFewer (more_needed old) (more_needed new) answer → IsPending at reading HasTaken more_needed items (taken ++ Gave (value_for at kind) ∷ []) new answer
value-answered at reading HasTaken more_needed items taken kind old new answer p a n =
    value-by at reading HasTaken more_needed items taken kind old new answer p.0 p.1.0 p.1.1.0 p.1.1.1.0 p.1.1.1.1.1 a n

pub value-pending : {S A : Type 0} (at : Place → Value) (rest : Rest S A) (held more_needed : S → ℕ) (reading : List Item → Reading A) (items taken : List Item) (kind : Kind) (old new : S) (answer : Fed A) → IsPending at reading (HasTakenBy rest held reading) more_needed items taken old (fed.Need kind) → IsGivenBy rest held old (value_for at kind) new answer → NeedsFewer (more_needed old) (more_needed new) answer → IsPending at reading (HasTakenBy rest held reading) more_needed items (taken ++ Gave (value_for at kind) ∷ []) new answer
value-pending at rest held more_needed reading items taken kind old new answer p fits n =
    value-answered at reading (HasTakenBy rest held reading) more_needed items taken kind old new answer p
    (given-answers rest held reading old new taken (value_for at kind) answer p.1.1.1.1.0 fits) n

-- an answer that needs none
pub pending-settled : {S A : Type 0} (at : Place → Value) (reading : List Item → Reading A) (HasTaken : S → List Item → Type 0) (more_needed : S → ℕ) (items taken : List Item) (scan : S) (answer : Fed A) → ((kind : Kind) → answer ≡ fed.Need kind → ⊥) → IsPending at reading HasTaken more_needed items taken scan answer → IsSettled reading HasTaken more_needed items taken scan answer
pending-settled at reading HasTaken more_needed items taken scan (fed.More want) none p = p
pending-settled at reading HasTaken more_needed items taken scan (fed.Need kind) none p = absurd (none kind refl)
pending-settled at reading HasTaken more_needed items taken scan (fed.Done value back) none p = p
pending-settled at reading HasTaken more_needed items taken scan (fed.Wrong error) none p = p
