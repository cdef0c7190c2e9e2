-- A value that is given where one token at most is held, the one that was taken last.
use Rattle.std.proofs.Common.{◌≡◌, ◌≤◌, ◌+◌, ℕ, zero, suc, List, [], ◌∷◌, ◌++◌, length, Result, Ok, Err, IfOk, refl, ap, sym, ◌∙◌, arith}
use Rattle.tx_seen.specs.declared.fed.Fed.{Fed}
use Rattle.tx_seen.specs.declared.fed.Fed.TheVariants as fed
use Rattle.tx_seen.specs.declared.fed.Value.{Value}
use Rattle.tx_seen.specs.declared.item.Item.{Item}
use Rattle.tx_seen.specs.declared.item.Item.TheVariants.{Took, Gave}
use Rattle.tx_seen.specs.declared.seen.Seen.{Seen}
use Rattle.tx_seen.specs.Readings.{Reading, Done, next, tokens, ending, last, Answers}
use Rattle.tx_scan.specs.Mapped.{mapped}
use Rattle.tx_scan.specs.Rests.{HasTakenBy, HoldsOne, IsAnswer, IsGivenBehind, IsGivenBy, IsRead, kept}
use Rattle.tx_scan.specs.Supplied.{NeedsFewer, NeedsNoMore}
use Rattle.tx_scan.proofs.Answering.{ending-none, ending-kept, last-given, last-push, taken-now, taken-on}
use Rattle.tx_scan.proofs.Mappings.{Rest, mapped-read, same-read}

-- the token that was taken last
pub last-taken : (taken : List Item) (t : Seen) → last 1 (taken ++ Took t ∷ []) ≡ Took t ∷ []
last-taken taken t = last-push 1 1 taken t (omega arith) ∙ ending-kept 1 (last 1 taken) t (omega arith)

last-kept : (n : ℕ) (taken : List Item) (t : Seen) → n ≤ 1 → last 1 taken ≡ Took t ∷ [] → last n taken ≡ kept n t
last-kept zero taken t h e = ending-none (tokens taken)
last-kept (suc zero) taken t h e = e
last-kept (suc (suc n)) taken t h e = absurd (omega (arith, h))

ending-of-kept : (n m : ℕ) (t : Seen) → n ≤ m → m ≤ 1 → ending n (kept m t) ≡ kept n t
ending-of-kept zero m t h k = ending-none (kept m t)
ending-of-kept (suc n) zero t h k = absurd (omega (arith, h))
ending-of-kept (suc zero) (suc zero) t h k = refl
ending-of-kept (suc zero) (suc (suc m)) t h k = absurd (omega (arith, k))
ending-of-kept (suc (suc n)) (suc m) t h k = absurd (omega (arith, h, k))

pub length-kept : (n : ℕ) (t : Seen) → length (kept n t) ≤ n
length-kept zero t = omega arith
length-kept (suc n) t = omega arith

last-on : (n m : ℕ) (taken : List Item) (v : Value) (t : Seen) → n ≤ m → m ≤ 1 → last 1 taken ≡ Took t ∷ [] → last n (taken ++ Gave v ∷ []) ≡ ending n (kept m t)
last-on n m taken v t h few l =
    last-given n taken v ∙ (last-kept n taken t (omega (arith, h, few)) l ∙ sym (ending-of-kept n m t h few))

-- the answer to a value is what reading gives of all that was taken
pub behind-answers : {S A : Type 0} (rest : Rest S A) (held : S → ℕ) (reading : List Item → Reading A) (old new : S) (taken : List Item) (v : Value) (t : Seen) (answer : Fed A) → HasTakenBy rest held reading old taken → held old ≤ 1 → last 1 taken ≡ Took t ∷ [] → IsGivenBehind rest held old v t new answer → Answers reading (HasTakenBy rest held reading) (taken ++ Gave v ∷ []) new answer
behind-answers rest held reading old new taken v t (fed.More want) h few l k =
    let was : last (held old) taken ≡ kept (held old) t = last-kept (held old) taken t few l in
    let now : last (held new) (taken ++ Gave v ∷ []) ≡ ending (held new) (kept (held old) t) = last-on (held new) (held old) taken v t k.1 few l in (
      taken-now rest held reading old taken (Gave v) h ∙ (ap (λ (behind : List Item). rest old behind (Gave v) []) was ∙ k.0),
      λ item more. ap (λ (behind : List Item). rest new behind item more) now ∙ (sym (k.2 item more) ∙ sym (taken-on rest held reading old taken (Gave v) (item ∷ more) h ∙ ap (λ (behind : List Item). rest old behind (Gave v) (item ∷ more)) was)),
    )
behind-answers rest held reading old new taken v t (fed.Need kind) h few l k =
    let was : last (held old) taken ≡ kept (held old) t = last-kept (held old) taken t few l in
    let now : last (held new) (taken ++ Gave v ∷ []) ≡ ending (held new) (kept (held old) t) = last-on (held new) (held old) taken v t k.1 few l in (
      taken-now rest held reading old taken (Gave v) h ∙ (ap (λ (behind : List Item). rest old behind (Gave v) []) was ∙ k.0),
      λ item more. ap (λ (behind : List Item). rest new behind item more) now ∙ (sym (k.2 item more) ∙ sym (taken-on rest held reading old taken (Gave v) (item ∷ more) h ∙ ap (λ (behind : List Item). rest old behind (Gave v) (item ∷ more)) was)),
    )
behind-answers rest held reading old new taken v t (fed.Done value back) h few l k =
    let was : last (held old) taken ≡ kept (held old) t = last-kept (held old) taken t few l in
    let now : last back (taken ++ Gave v ∷ []) ≡ ending back (kept (held old) t) = last-on back (held old) taken v t k.0 few l in
    λ more. taken-on rest held reading old taken (Gave v) more h ∙ (ap (λ (behind : List Item). rest old behind (Gave v) more) was ∙ (k.1 more ∙ ap (λ (behind : List Item). Done value (behind ++ more)) (sym now)))
behind-answers rest held reading old new taken v t (fed.Wrong error) h few l k =
    let was : last (held old) taken ≡ kept (held old) t = last-kept (held old) taken t few l in
    λ more. taken-on rest held reading old taken (Gave v) more h ∙ (ap (λ (behind : List Item). rest old behind (Gave v) more) was ∙ k more)

pub behind-answers-ok : {S A E : Type 0} (rest : Rest S A) (held : S → ℕ) (reading : List Item → Reading A) (old new : S) (taken : List Item) (v : Value) (t : Seen) (answer : Result (Fed A) E) → HasTakenBy rest held reading old taken → held old ≤ 1 → last 1 taken ≡ Took t ∷ [] → IfOk answer (IsGivenBehind rest held old v t new) → IfOk answer (Answers reading (HasTakenBy rest held reading) (taken ++ Gave v ∷ []) new)
behind-answers-ok rest held reading old new taken v t (Ok answer) h few l k = behind-answers rest held reading old new taken v t answer h few l k
behind-answers-ok rest held reading old new taken v t (Err e) h few l k = tt

-- what holds its tokens on, or gives them back
held-alike : {n m : ℕ} (t : Seen) → n ≡ m → m ≤ 1 → kept m t ≡ ending n (kept m t)
held-alike {n} {m} t same few = sym (ap (λ (i : ℕ). ending i (kept m t)) same ∙ ending-of-kept m m t (omega arith) few)

pub given-behind : {S A : Type 0} (rest : Rest S A) (held : S → ℕ) (old new : S) (v : Value) (t : Seen) (answer : Fed A) → held old ≤ 1 → IsGivenBy rest held old v new answer → IsGivenBehind rest held old v t new answer
given-behind rest held old new v t (fed.More want) few k =
    let fits = k (kept (held old) t) (length-kept (held old) t) in
    (fits.0, omega (arith, fits.1), λ item more. fits.2 item more ∙ ap (λ (behind : List Item). rest new behind item more) (held-alike t fits.1 few))
given-behind rest held old new v t (fed.Need kind) few k =
    let fits = k (kept (held old) t) (length-kept (held old) t) in
    (fits.0, omega (arith, fits.1), λ item more. fits.2 item more ∙ ap (λ (behind : List Item). rest new behind item more) (held-alike t fits.1 few))
given-behind rest held old new v t (fed.Done value back) few k =
    let fits = k (kept (held old) t) (length-kept (held old) t) in
    (omega (arith, fits.0), λ more. fits.1 more ∙ ap (λ (behind : List Item). Done value (behind ++ more)) (held-alike t fits.0 few))
given-behind rest held old new v t (fed.Wrong error) few k = λ more. k (kept (held old) t) (length-kept (held old) t) more

-- one thing is made of another
pub mapped-behind : {S T A B : Type 0} (part : Rest S A) (part_held : S → ℕ) (whole : Rest T B) (whole_held : T → ℕ) (f : A → B) (old new : S) (before after : T) (v : Value) (t : Seen) (answer : Fed A) → ((behind : List Item) (item : Item) (more : List Item) → whole before behind item more ≡ next (part old behind item more) (λ a rest. Done (f a) rest)) → whole_held before ≡ part_held old → ((behind : List Item) (item : Item) (more : List Item) → whole after behind item more ≡ next (part new behind item more) (λ a rest. Done (f a) rest)) → whole_held after ≡ part_held new → IsGivenBehind part part_held old v t new answer → IsGivenBehind whole whole_held before v t after (mapped f answer)
mapped-behind part part_held whole whole_held f old new before after v t answer same_before count_before same_after count_after k =
    rw count_before
    (same-read whole whole_held (part_held old) (λ more. whole before (kept (part_held old) t) (Gave v) more) (λ more. next (part old (kept (part_held old) t) (Gave v) more) (λ a rest. Done (f a) rest)) (kept (part_held old) t) after (mapped f answer)
    (λ more. same_before (kept (part_held old) t) (Gave v) more)
    (mapped-read part part_held whole whole_held f (part_held old) (λ more. part old (kept (part_held old) t) (Gave v) more) (kept (part_held old) t) new after answer same_after count_after k))

-- behind one token at most the same is read, whatever stands before it
pub read-one : {S A : Type 0} (rest : Rest S A) (held : S → ℕ) (count : ℕ) (reading : List Item → Reading A) (behind : List Item) (t : Seen) (new : S) (answer : Fed A) → IsRead rest held 1 reading (Took t ∷ []) new answer → IsRead rest held (count + 1) reading (behind ++ Took t ∷ []) new answer
read-one rest held count reading behind t new (fed.More want) k = (
  k.0,
  omega (arith, k.1),
  λ item more. k.2 item more ∙ ap (λ (items : List Item). rest new items item more) (ending-kept (held new) [] t k.1 ∙ sym (ending-kept (held new) behind t k.1)),
)
read-one rest held count reading behind t new (fed.Need kind) k = (
  k.0,
  omega (arith, k.1),
  λ item more. k.2 item more ∙ ap (λ (items : List Item). rest new items item more) (ending-kept (held new) [] t k.1 ∙ sym (ending-kept (held new) behind t k.1)),
)
read-one rest held count reading behind t new (fed.Done value back) k =
    (omega (arith, k.0), λ more. k.1 more ∙ ap (λ (items : List Item). Done value (items ++ more)) (ending-kept back [] t k.0 ∙ sym (ending-kept back behind t k.0)))
read-one rest held count reading behind t new (fed.Wrong error) k = k

pub fed-one : {S A : Type 0} (rest : Rest S A) (held : S → ℕ) (most : ℕ) (reading : List Item → Reading A) (t : Seen) (new : S) (answer : Fed A) → most ≤ 1 → IsAnswer rest held most reading t new answer → HoldsOne (held new) answer
fed-one rest held most reading t new (fed.More want) h k = tt
fed-one rest held most reading t new (fed.Need kind) h k = omega (arith, h, k.1)
fed-one rest held most reading t new (fed.Done value back) h k = tt
fed-one rest held most reading t new (fed.Wrong error) h k = tt

pub given-one : {S A : Type 0} (rest : Rest S A) (held : S → ℕ) (old new : S) (v : Value) (answer : Fed A) → held old ≤ 1 → IsGivenBy rest held old v new answer → HoldsOne (held new) answer
given-one rest held old new v (fed.More want) h k = tt
given-one rest held old new v (fed.Need kind) h k =
    let same : held new ≡ held old = (k [] (omega arith)).1 in
    omega (arith, h, same)
given-one rest held old new v (fed.Done value back) h k = tt
given-one rest held old new v (fed.Wrong error) h k = tt

-- an answer that needs no value, and none is needed from then on
pub none-needs : {A : Type 0} (old new : ℕ) (answer : Fed A) → NeedsFewer 0 new answer → NeedsNoMore old new answer
none-needs old new (fed.More want) k = omega (arith, k)
none-needs old new (fed.Need kind) k = absurd (omega (arith, k))
none-needs old new (fed.Done value back) k = tt
none-needs old new (fed.Wrong error) k = tt

pub none-fewer : {A : Type 0} (old new : ℕ) (answer : Fed A) → NeedsFewer 0 new answer → NeedsFewer old new answer
none-fewer old new (fed.More want) k = omega (arith, k)
none-fewer old new (fed.Need kind) k = absurd (omega (arith, k))
none-fewer old new (fed.Done value back) k = tt
none-fewer old new (fed.Wrong error) k = tt
