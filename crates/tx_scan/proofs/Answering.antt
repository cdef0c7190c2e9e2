-- From what reading on gives behind one more item to what it gives of all that was taken.
use Rattle.std.proofs.Common.{◌≡◌, ◌≤◌, ℕ, zero, suc, ◌+◌, ◌-◌, List, [], ◌∷◌, ◌++◌, length, drop, Result, Ok, Err, IfOk, refl, ap, sym, ◌∙◌, append_assoc, append-nil, arith, length-append}
use Rattle.std.specs.Prelude.{take}
use Rattle.std.proofs.lemmas.List.{length-drop, length-take-le, take-append-drop}
use Rattle.std.proofs.Math.Seq.{drop-length, drop-append_seam, drop-append-add}
use Rattle.tx_seen.specs.declared.seen.Seen.{Seen}
use Rattle.tx_seen.specs.declared.fed.Value.{Value}
use Rattle.tx_seen.specs.declared.fed.Fed.{Fed}
use Rattle.tx_seen.specs.declared.fed.Fed.TheVariants as fed
use Rattle.tx_seen.specs.declared.item.Item.{Item}
use Rattle.tx_seen.specs.declared.item.Item.TheVariants.{Took, Gave}
use Rattle.tx_seen.specs.declared.fed.Want.{Want}
use Rattle.tx_seen.specs.Readings.{Reading, More, Done, tokens, ending, last, Answers}
use Rattle.tx_scan.specs.Rests.{HasTakenBy, IsRead, IsFedBy, kept, IsAnswer, IsPassed, IsGivenBy}

pub tokens-append : (xs ys : List Item) → tokens (xs ++ ys) ≡ tokens xs ++ tokens ys
tokens-append [] ys = refl
tokens-append (Took t ∷ xs) ys = ap (λ (zs : List Item). Took t ∷ zs) (tokens-append xs ys)
tokens-append (Gave v ∷ xs) ys = tokens-append xs ys

pub ending-none : {A : Type 0} (xs : List A) → ending 0 xs ≡ []
ending-none xs =
    let e : length xs - 0 ≡ length xs = omega arith in
    rw e (drop-length xs)

pub ending-one : {A : Type 0} (xs : List A) (x : A) → ending 1 (xs ++ x ∷ []) ≡ x ∷ []
ending-one xs x =
    let e : length (xs ++ x ∷ []) - 1 ≡ length xs = grind (arith, length-append) in
    rw e (drop-append_seam xs (x ∷ []))

pub ending-all : {A : Type 0} (n : ℕ) (xs : List A) → length xs ≤ n → ending n xs ≡ xs
ending-all n xs h =
    let e : length xs - n ≡ 0 = omega arith in
    rw e refl

pub length-ending : {A : Type 0} (n : ℕ) (xs : List A) → length (ending n xs) ≤ n
length-ending n xs =
    let e : length (ending n xs) ≡ length xs - (length xs - n) = length-drop (length xs - n) xs in
    omega arith

ending-split : {A : Type 0} (k n : ℕ) (xs : List A) (x : A) → k ≤ length xs → length xs + 1 - n ≡ k + (length xs - k + 1 - n) → ending n (xs ++ x ∷ []) ≡ ending n (drop k xs ++ x ∷ [])
ending-split k n xs x h e =
    let here : length (xs ++ x ∷ []) ≡ length xs + 1 = length-append xs (x ∷ []) in
    let there : length (drop k xs ++ x ∷ []) ≡ length xs - k + 1 = rw (sym (length-drop k xs)) (length-append (drop k xs) (x ∷ [])) in
    let first : length (take k xs) ≡ k = length-take-le k xs h in
    let count : length (xs ++ x ∷ []) - n ≡ length (take k xs) + (length (drop k xs ++ x ∷ []) - n) = omega arith in
    let whole : xs ++ x ∷ [] ≡ take k xs ++ (drop k xs ++ x ∷ []) = ap (λ ys. ys ++ x ∷ []) (sym (take-append-drop k xs)) ∙ append_assoc (take k xs) (drop k xs) (x ∷ []) in
    ap (λ count. drop count (xs ++ x ∷ [])) count
    ∙ ap (λ ys. drop (length (take k xs) + (length (drop k xs ++ x ∷ []) - n)) ys) whole
    ∙ drop-append-add (take k xs) (drop k xs ++ x ∷ []) (length (drop k xs ++ x ∷ []) - n)

-- the last of a list and one more stand at the end of the whole
pub ending-push : {A : Type 0} (n m : ℕ) (xs : List A) (x : A) → n ≤ m + 1 → ending n (xs ++ x ∷ []) ≡ ending n (ending m xs ++ x ∷ [])
ending-push n m xs x h = ending-split (length xs - m) n xs x (omega arith) (omega arith)

pub ending-kept : (n : ℕ) (behind : List Item) (t : Seen) → n ≤ 1 → ending n (behind ++ Took t ∷ []) ≡ kept n t
ending-kept zero behind t h = ending-none (behind ++ Took t ∷ [])
ending-kept (suc zero) behind t h = ending-one behind (Took t)
ending-kept (suc (suc n)) behind t h = absurd (omega arith)

-- the last tokens taken, by those that were held before
pub last-push : (n m : ℕ) (taken : List Item) (t : Seen) → n ≤ m + 1 → last n (taken ++ Took t ∷ []) ≡ ending n (last m taken ++ Took t ∷ [])
last-push n m taken t h = ap (λ (ts : List Item). ending n ts) (tokens-append taken (Took t ∷ [])) ∙ ending-push n m (tokens taken) (Took t) h

-- a value is no token
pub last-given : (n : ℕ) (taken : List Item) (v : Value) → last n (taken ++ Gave v ∷ []) ≡ last n taken
last-given n taken v = ap (λ (ts : List Item). drop (length ts - n) ts) (tokens-append taken (Gave v ∷ []) ∙ append-nil (tokens taken))

-- what was taken, and one more item
pub taken-on : {S A : Type 0} (rest : S → List Item → Item → List Item → Reading A) (held : S → ℕ) (reading : List Item → Reading A) (old : S) (taken : List Item) (item : Item) (more : List Item) → HasTakenBy rest held reading old taken → reading ((taken ++ item ∷ []) ++ more) ≡ rest old (last (held old) taken) item more
taken-on rest held reading old taken item more h = ap reading (append_assoc taken (item ∷ []) more) ∙ sym (h item more)

pub taken-now : {S A : Type 0} (rest : S → List Item → Item → List Item → Reading A) (held : S → ℕ) (reading : List Item → Reading A) (old : S) (taken : List Item) (item : Item) → HasTakenBy rest held reading old taken → reading (taken ++ item ∷ []) ≡ rest old (last (held old) taken) item []
taken-now rest held reading old taken item h = sym (h item [])

-- the answer to a token is what reading gives of all that was taken
pub fed-answers : {S A : Type 0} (rest : S → List Item → Item → List Item → Reading A) (held : S → ℕ) (reading : List Item → Reading A) (old new : S) (taken : List Item) (t : Seen) (answer : Fed A) → HasTakenBy rest held reading old taken → IsFedBy rest held old t new answer → Answers reading (HasTakenBy rest held reading) (taken ++ Took t ∷ []) new answer
fed-answers rest held reading old new taken t (fed.More want) h k =
    let fits = k (last (held old) taken) (length-ending (held old) (tokens taken)) in (
      taken-now rest held reading old taken (Took t) h ∙ fits.0,
      λ item more. ap (λ (behind : List Item). rest new behind item more) (last-push (held new) (held old) taken t fits.1) ∙ sym (fits.2 item more) ∙ sym (taken-on rest held reading old taken (Took t) (item ∷ more) h),
    )
fed-answers rest held reading old new taken t (fed.Need kind) h k =
    let fits = k (last (held old) taken) (length-ending (held old) (tokens taken)) in (
      taken-now rest held reading old taken (Took t) h ∙ fits.0,
      λ item more. ap (λ (behind : List Item). rest new behind item more) (last-push (held new) (held old) taken t fits.1) ∙ sym (fits.2 item more) ∙ sym (taken-on rest held reading old taken (Took t) (item ∷ more) h),
    )
fed-answers rest held reading old new taken t (fed.Done value back) h k =
    let fits = k (last (held old) taken) (length-ending (held old) (tokens taken)) in
    λ more. taken-on rest held reading old taken (Took t) more h ∙ fits.1 more ∙ ap (λ (behind : List Item). Done value (behind ++ more)) (sym (last-push back (held old) taken t fits.0))
fed-answers rest held reading old new taken t (fed.Wrong error) h k =
    λ more. taken-on rest held reading old taken (Took t) more h ∙ k (last (held old) taken) (length-ending (held old) (tokens taken)) more

-- a scan that holds one token at most is a part of a longer one as any other
pub answer-part : {S A : Type 0} (rest : S → List Item → Item → List Item → Reading A) (held : S → ℕ) (most count : ℕ) (reading : List Item → Reading A) (behind : List Item) (t : Seen) (new : S) (answer : Fed A) → most ≤ 1 → IsAnswer rest held most reading t new answer → IsRead rest held (count + 1) reading (behind ++ Took t ∷ []) new answer
answer-part rest held most count reading behind t new (fed.More want) h k = (
  k.0,
  rw k.1 (omega arith),
  λ item more. k.2 item more ∙ ap (λ (tokens : List Item). rest new tokens item more) (sym (ending-none (behind ++ Took t ∷ [])) ∙ ap (λ (n : ℕ). ending n (behind ++ Took t ∷ [])) (sym k.1)),
)
answer-part rest held most count reading behind t new (fed.Need kind) h k =
    let few : held new ≤ 1 = omega (arith, h, k.1) in (
      k.0,
      omega (arith, few),
      λ item more. k.2 item more ∙ ap (λ (tokens : List Item). rest new tokens item more) (sym (ending-kept (held new) behind t few)),
    )
answer-part rest held most count reading behind t new (fed.Done value back) h k =
    let few : back ≤ 1 = omega (arith, h, k.0) in (
      omega (arith, few),
      λ more. k.1 more ∙ ap (λ (tokens : List Item). Done value (tokens ++ more)) (sym (ending-kept back behind t few)),
    )
answer-part rest held most count reading behind t new (fed.Wrong error) h k = k

pub fed-part : {S A : Type 0} (rest : S → List Item → Item → List Item → Reading A) (held : S → ℕ) (old new : S) (most : ℕ) (t : Seen) (answer : Fed A) → most ≤ 1 → ((behind : List Item) → IsAnswer rest held most (λ more. rest old behind (Took t) more) t new answer) → IsFedBy rest held old t new answer
fed-part rest held old new most t answer h k = λ behind short.
    answer-part rest held most (held old) (λ more. rest old behind (Took t) more) behind t new answer h (k behind)

-- the answer to a value
pub given-answers : {S A : Type 0} (rest : S → List Item → Item → List Item → Reading A) (held : S → ℕ) (reading : List Item → Reading A) (old new : S) (taken : List Item) (v : Value) (answer : Fed A) → HasTakenBy rest held reading old taken → IsGivenBy rest held old v new answer → Answers reading (HasTakenBy rest held reading) (taken ++ Gave v ∷ []) new answer
given-answers rest held reading old new taken v (fed.More want) h k =
    let fits = k (last (held old) taken) (length-ending (held old) (tokens taken)) in (
      taken-now rest held reading old taken (Gave v) h ∙ fits.0,
      λ item more. ap (λ (n : ℕ). rest new (last n (taken ++ Gave v ∷ [])) item more) fits.1 ∙ ap (λ (behind : List Item). rest new behind item more) (last-given (held old) taken v) ∙ sym (fits.2 item more) ∙ sym (taken-on rest held reading old taken (Gave v) (item ∷ more) h),
    )
given-answers rest held reading old new taken v (fed.Need kind) h k =
    let fits = k (last (held old) taken) (length-ending (held old) (tokens taken)) in (
      taken-now rest held reading old taken (Gave v) h ∙ fits.0,
      λ item more. ap (λ (n : ℕ). rest new (last n (taken ++ Gave v ∷ [])) item more) fits.1 ∙ ap (λ (behind : List Item). rest new behind item more) (last-given (held old) taken v) ∙ sym (fits.2 item more) ∙ sym (taken-on rest held reading old taken (Gave v) (item ∷ more) h),
    )
given-answers rest held reading old new taken v (fed.Done value back) h k =
    let fits = k (last (held old) taken) (length-ending (held old) (tokens taken)) in
    λ more. taken-on rest held reading old taken (Gave v) more h ∙ fits.1 more ∙ ap (λ (behind : List Item). Done value (behind ++ more)) (sym (last-given (held old) taken v) ∙ ap (λ (n : ℕ). last n (taken ++ Gave v ∷ [])) (sym fits.0))
given-answers rest held reading old new taken v (fed.Wrong error) h k =
    λ more. taken-on rest held reading old taken (Gave v) more h ∙ k (last (held old) taken) (length-ending (held old) (tokens taken)) more

-- the same of a result that isn't want of memory
pub given-answers-ok : {S A E : Type 0} (rest : S → List Item → Item → List Item → Reading A) (held : S → ℕ) (reading : List Item → Reading A) (old new : S) (taken : List Item) (v : Value) (answer : Result (Fed A) E) → HasTakenBy rest held reading old taken → IfOk answer (IsGivenBy rest held old v new) → IfOk answer (Answers reading (HasTakenBy rest held reading) (taken ++ Gave v ∷ []) new)
given-answers-ok rest held reading old new taken v (Ok answer) h k = given-answers rest held reading old new taken v answer h k
given-answers-ok rest held reading old new taken v (Err e) h k = tt

pub fed-answers-ok : {S A E : Type 0} (rest : S → List Item → Item → List Item → Reading A) (held : S → ℕ) (reading : List Item → Reading A) (old new : S) (taken : List Item) (t : Seen) (answer : Result (Fed A) E) → HasTakenBy rest held reading old taken → IfOk answer (IsFedBy rest held old t new) → IfOk answer (Answers reading (HasTakenBy rest held reading) (taken ++ Took t ∷ []) new)
fed-answers-ok rest held reading old new taken t (Ok answer) h k = fed-answers rest held reading old new taken t answer h k
fed-answers-ok rest held reading old new taken t (Err e) h k = tt

pub fed-part-ok : {S A E : Type 0} (rest : S → List Item → Item → List Item → Reading A) (held : S → ℕ) (old new : S) (most : ℕ) (t : Seen) (answer : Result (Fed A) E) → most ≤ 1 → IfOk answer (λ a. (behind : List Item) → IsAnswer rest held most (λ more. rest old behind (Took t) more) t new a) → IfOk answer (IsFedBy rest held old t new)
fed-part-ok rest held old new most t (Ok answer) h k = fed-part rest held old new most t answer h k
fed-part-ok rest held old new most t (Err e) h k = tt

-- the answer to what reads on alike
pub same-passed : {S A : Type 0} (rest : S → List Item → Item → List Item → Reading A) (held : S → ℕ) (reading other : List Item → Reading A) (behind : List Item) (count number : ℕ) (new : S) (answer : Fed A) → ((more : List Item) → reading more ≡ other more) → count ≡ number → IsPassed rest held other behind number new answer → IsPassed rest held reading behind count new answer
same-passed rest held reading other behind count number new (fed.More want) same e k = (same [] ∙ k.0, k.1 ∙ sym e, λ item more. same (item ∷ more) ∙ k.2 item more)
same-passed rest held reading other behind count number new (fed.Need kind) same e k = (same [] ∙ k.0, k.1 ∙ sym e, λ item more. same (item ∷ more) ∙ k.2 item more)
same-passed rest held reading other behind count number new (fed.Done value back) same e k = (k.0 ∙ sym e, λ more. same more ∙ k.1 more)
same-passed rest held reading other behind count number new (fed.Wrong error) same e k = λ more. same more ∙ k more

-- an answer where a known token is held or given back, and no more tokens are needed
pub passed-answer : {S A : Type 0} (rest : S → List Item → Item → List Item → Reading A) (held : S → ℕ) (most : ℕ) (reading : List Item → Reading A) (t : Seen) (count : ℕ) (new : S) (answer : Fed A) → count ≤ most → ((want : Want) → reading [] ≡ More want → ⊥) → IsPassed rest held reading (kept count t) count new answer → IsAnswer rest held most reading t new answer
passed-answer rest held most reading t count new (fed.More want) h never k = absurd (never want k.0)
passed-answer rest held most reading t count new (fed.Need kind) h never k = (k.0, rw k.1 h, rw k.1 k.2)
passed-answer rest held most reading t count new (fed.Done value back) h never k = (rw k.0 h, rw k.0 k.1)
passed-answer rest held most reading t count new (fed.Wrong error) h never k = k

-- an answer where no token is held or given back
pub passed-none : {S A : Type 0} (rest : S → List Item → Item → List Item → Reading A) (held : S → ℕ) (most : ℕ) (reading : List Item → Reading A) (t : Seen) (new : S) (answer : Fed A) → IsPassed rest held reading [] 0 new answer → IsAnswer rest held most reading t new answer
passed-none rest held most reading t new (fed.More want) k = k
passed-none rest held most reading t new (fed.Need kind) k = (k.0, rw k.1 (omega arith), rw k.1 k.2)
passed-none rest held most reading t new (fed.Done value back) k = (rw k.0 (omega arith), rw k.0 k.1)
passed-none rest held most reading t new (fed.Wrong error) k = k

-- the answer to a token by what reads on alike
pub same-answer : {S A : Type 0} (rest : S → List Item → Item → List Item → Reading A) (held : S → ℕ) (most : ℕ) (reading other : List Item → Reading A) (t : Seen) (new : S) (answer : Fed A) → ((more : List Item) → reading more ≡ other more) → IsAnswer rest held most other t new answer → IsAnswer rest held most reading t new answer
same-answer rest held most reading other t new (fed.More want) same k = (same [] ∙ k.0, k.1, λ item more. same (item ∷ more) ∙ k.2 item more)
same-answer rest held most reading other t new (fed.Need kind) same k = (same [] ∙ k.0, k.1, λ item more. same (item ∷ more) ∙ k.2 item more)
same-answer rest held most reading other t new (fed.Done value back) same k = (k.0, λ more. same more ∙ k.1 more)
same-answer rest held most reading other t new (fed.Wrong error) same k = λ more. same more ∙ k more
