-- A part of a longer thing is read as the scan of it says.
use Rattle.std.proofs.Common.{◌≡◌, ◌≤◌, ◌+◌, ℕ, zero, suc, List, [], ◌∷◌, ◌++◌, length, Result, Ok, Err, ap, sym, ◌∙◌, arith}
use Rattle.tx_seen.specs.declared.error.TexError.{TexError}
use Rattle.tx_seen.specs.declared.fed.Fed.{Fed}
use Rattle.tx_seen.specs.declared.fed.Fed.TheVariants as fed
use Rattle.tx_seen.specs.declared.fed.Value.{Value}
use Rattle.tx_seen.specs.declared.item.Item.{Item}
use Rattle.tx_seen.specs.declared.item.Item.TheVariants.{Took, Gave}
use Rattle.tx_seen.specs.declared.seen.Seen.{Seen}
use Rattle.tx_seen.specs.Readings.{Reading, Done, next, ending}
use Rattle.tx_scan.specs.Rests.{IsRead, IsFedBy, IsAnswer, IsPassed, IsGivenBy, kept}
use Rattle.tx_scan.specs.Supplied.{NeedsFewer, NeedsNoMore}
use Rattle.tx_scan.proofs.Answering.{ending-none, same-passed}
use Rattle.tx_scan.specs.Mapped.{done_if, fed_if, mapped, settled}

-- what a scan reads on as
abbrev pub Rest : Type 0 → Type 0 → Type 0
Rest S A = S → List Item → Item → List Item → Reading A

-- what reads on alike
pub same-read : {S A : Type 0} (rest : Rest S A) (held : S → ℕ) (most : ℕ) (reading other : List Item → Reading A) (tokens : List Item) (new : S) (answer : Fed A) → ((more : List Item) → reading more ≡ other more) → IsRead rest held most other tokens new answer → IsRead rest held most reading tokens new answer
same-read rest held most reading other tokens new (fed.More want) same k = (same [] ∙ k.0, k.1, λ item more. same (item ∷ more) ∙ k.2 item more)
same-read rest held most reading other tokens new (fed.Need kind) same k = (same [] ∙ k.0, k.1, λ item more. same (item ∷ more) ∙ k.2 item more)
same-read rest held most reading other tokens new (fed.Done value back) same k = (k.0, λ more. same more ∙ k.1 more)
same-read rest held most reading other tokens new (fed.Wrong error) same k = λ more. same more ∙ k more

none-left : (n : ℕ) (tokens : List Item) → n ≤ 0 → ending n [] ≡ ending n tokens
none-left zero tokens h = sym (ending-none tokens)
none-left (suc n) tokens h = absurd (omega arith)

-- nothing is held or given back, whatever tokens there are
pub read-none : {S A : Type 0} (rest : Rest S A) (held : S → ℕ) (most : ℕ) (reading : List Item → Reading A) (tokens : List Item) (new : S) (answer : Fed A) → IsRead rest held 0 reading [] new answer → IsRead rest held most reading tokens new answer
read-none rest held most reading tokens new (fed.More want) k = (k.0, omega (arith, k.1), λ item more. k.2 item more ∙ ap (λ (behind : List Item). rest new behind item more) (none-left (held new) tokens k.1))
read-none rest held most reading tokens new (fed.Need kind) k = (k.0, omega (arith, k.1), λ item more. k.2 item more ∙ ap (λ (behind : List Item). rest new behind item more) (none-left (held new) tokens k.1))
read-none rest held most reading tokens new (fed.Done value back) k = (omega (arith, k.0), λ more. k.1 more ∙ ap (λ (behind : List Item). Done value (behind ++ more)) (none-left back tokens k.0))
read-none rest held most reading tokens new (fed.Wrong error) k = k

first-by : {S A : Type 0} (rest : Rest S A) (held : S → ℕ) (old : S) (t : Seen) (new : S) (answer : Fed A) (behind : List Item) → held old ≡ 0 → IsRead rest held 1 (λ more. rest old [] (Took t) more) (Took t ∷ []) new answer → length behind ≤ held old → IsRead rest held (held old + 1) (λ more. rest old behind (Took t) more) (behind ++ Took t ∷ []) new answer
first-by rest held old t new answer [] none k h = rw none k
first-by rest held old t new answer (item ∷ behind) none k h = absurd (omega (arith, none, h))

-- a scan that held nothing
pub fed-first : {S A : Type 0} (rest : Rest S A) (held : S → ℕ) (old : S) (t : Seen) (new : S) (answer : Fed A) → held old ≡ 0 → IsRead rest held 1 (λ more. rest old [] (Took t) more) (Took t ∷ []) new answer → IsFedBy rest held old t new answer
fed-first rest held old t new answer none k = λ behind h. first-by rest held old t new answer behind none k h

-- one thing is made of another
pub mapped-read : {S T A B : Type 0} (part : Rest S A) (part_held : S → ℕ) (whole : Rest T B) (whole_held : T → ℕ) (f : A → B) (most : ℕ) (reading : List Item → Reading A) (tokens : List Item) (scan : S) (new : T) (answer : Fed A) → ((behind : List Item) (item : Item) (more : List Item) → whole new behind item more ≡ next (part scan behind item more) (λ a rest. Done (f a) rest)) → whole_held new ≡ part_held scan → IsRead part part_held most reading tokens scan answer → IsRead whole whole_held most (λ more. next (reading more) (λ a rest. Done (f a) rest)) tokens new (mapped f answer)
mapped-read part part_held whole whole_held f most reading tokens scan new (fed.More want) same count k = (
  ap (λ r. next r (λ a rest. Done (f a) rest)) k.0,
  rw count k.1,
  λ item more. ap (λ r. next r (λ a rest. Done (f a) rest)) (k.2 item more) ∙ sym (same (ending (part_held scan) tokens) item more) ∙ ap (λ n. whole new (ending n tokens) item more) (sym count),
)
mapped-read part part_held whole whole_held f most reading tokens scan new (fed.Need kind) same count k = (
  ap (λ r. next r (λ a rest. Done (f a) rest)) k.0,
  rw count k.1,
  λ item more. ap (λ r. next r (λ a rest. Done (f a) rest)) (k.2 item more) ∙ sym (same (ending (part_held scan) tokens) item more) ∙ ap (λ n. whole new (ending n tokens) item more) (sym count),
)
mapped-read part part_held whole whole_held f most reading tokens scan new (fed.Done value back) same count k =
    (k.0, λ more. ap (λ r. next r (λ a rest. Done (f a) rest)) (k.1 more))
mapped-read part part_held whole whole_held f most reading tokens scan new (fed.Wrong error) same count k =
    λ more. ap (λ r. next r (λ a rest. Done (f a) rest)) (k more)

pub mapped-passed : {S T A B : Type 0} (part : Rest S A) (part_held : S → ℕ) (whole : Rest T B) (whole_held : T → ℕ) (f : A → B) (count : ℕ) (reading : List Item → Reading A) (tokens : List Item) (scan : S) (new : T) (answer : Fed A) → ((behind : List Item) (item : Item) (more : List Item) → whole new behind item more ≡ next (part scan behind item more) (λ a rest. Done (f a) rest)) → whole_held new ≡ part_held scan → IsPassed part part_held reading tokens count scan answer → IsPassed whole whole_held (λ more. next (reading more) (λ a rest. Done (f a) rest)) tokens count new (mapped f answer)
mapped-passed part part_held whole whole_held f count reading tokens scan new (fed.More want) same number k = (
  ap (λ r. next r (λ a rest. Done (f a) rest)) k.0,
  number ∙ k.1,
  λ item more. ap (λ r. next r (λ a rest. Done (f a) rest)) (k.2 item more) ∙ sym (same tokens item more),
)
mapped-passed part part_held whole whole_held f count reading tokens scan new (fed.Need kind) same number k = (
  ap (λ r. next r (λ a rest. Done (f a) rest)) k.0,
  number ∙ k.1,
  λ item more. ap (λ r. next r (λ a rest. Done (f a) rest)) (k.2 item more) ∙ sym (same tokens item more),
)
mapped-passed part part_held whole whole_held f count reading tokens scan new (fed.Done value back) same number k =
    (k.0, λ more. ap (λ r. next r (λ a rest. Done (f a) rest)) (k.1 more))
mapped-passed part part_held whole whole_held f count reading tokens scan new (fed.Wrong error) same number k =
    λ more. ap (λ r. next r (λ a rest. Done (f a) rest)) (k more)

-- the same of the answers to one more token or value
pub mapped-fed : {S T A B : Type 0} (part : Rest S A) (part_held : S → ℕ) (whole : Rest T B) (whole_held : T → ℕ) (f : A → B) (old new : S) (before after : T) (t : Seen) (answer : Fed A) → ((behind : List Item) (item : Item) (more : List Item) → whole before behind item more ≡ next (part old behind item more) (λ a rest. Done (f a) rest)) → whole_held before ≡ part_held old → ((behind : List Item) (item : Item) (more : List Item) → whole after behind item more ≡ next (part new behind item more) (λ a rest. Done (f a) rest)) → whole_held after ≡ part_held new → IsFedBy part part_held old t new answer → IsFedBy whole whole_held before t after (mapped f answer)
mapped-fed part part_held whole whole_held f old new before after t answer same_before count_before same_after count_after k = λ behind h.
    same-read whole whole_held (whole_held before + 1) (λ more. whole before behind (Took t) more) (λ more. next (part old behind (Took t) more) (λ a rest. Done (f a) rest)) (behind ++ Took t ∷ []) after (mapped f answer)
    (λ more. same_before behind (Took t) more)
    (rw count_before (mapped-read part part_held whole whole_held f (part_held old + 1) (λ more. part old behind (Took t) more) (behind ++ Took t ∷ []) new after answer same_after count_after (k behind (rw count_before at h))))

pub mapped-given : {S T A B : Type 0} (part : Rest S A) (part_held : S → ℕ) (whole : Rest T B) (whole_held : T → ℕ) (f : A → B) (old new : S) (before after : T) (v : Value) (answer : Fed A) → ((behind : List Item) (item : Item) (more : List Item) → whole before behind item more ≡ next (part old behind item more) (λ a rest. Done (f a) rest)) → whole_held before ≡ part_held old → ((behind : List Item) (item : Item) (more : List Item) → whole after behind item more ≡ next (part new behind item more) (λ a rest. Done (f a) rest)) → whole_held after ≡ part_held new → IsGivenBy part part_held old v new answer → IsGivenBy whole whole_held before v after (mapped f answer)
mapped-given part part_held whole whole_held f old new before after v answer same_before count_before same_after count_after k = λ behind h.
    same-passed whole whole_held (λ more. whole before behind (Gave v) more) (λ more. next (part old behind (Gave v) more) (λ a rest. Done (f a) rest)) behind (whole_held before) (part_held old) after (mapped f answer)
    (λ more. same_before behind (Gave v) more) count_before
    (mapped-passed part part_held whole whole_held f (part_held old) (λ more. part old behind (Gave v) more) behind new after answer same_after count_after (k behind (rw count_before at h)))

-- it needs as many values
pub needs-mapped : {A B : Type 0} (f : A → B) (old new : ℕ) (answer : Fed A) → NeedsNoMore old new answer → NeedsNoMore old new (mapped f answer)
needs-mapped f old new (fed.More want) n = n
needs-mapped f old new (fed.Need kind) n = n
needs-mapped f old new (fed.Done value back) n = n
needs-mapped f old new (fed.Wrong error) n = n

pub fewer-mapped : {A B : Type 0} (f : A → B) (old new : ℕ) (answer : Fed A) → NeedsFewer old new answer → NeedsFewer old new (mapped f answer)
fewer-mapped f old new (fed.More want) n = n
fewer-mapped f old new (fed.Need kind) n = n
fewer-mapped f old new (fed.Done value back) n = n
fewer-mapped f old new (fed.Wrong error) n = n

-- what may be an error is made of it
if-read : {T B : Type 0} (whole : Rest T B) (whole_held : T → ℕ) (most back : ℕ) (reading : List Item → Reading B) (tokens : List Item) (new : T) (made : Result B TexError) → back ≤ most → ((more : List Item) → reading more ≡ done_if made (ending back tokens ++ more)) → IsRead whole whole_held most reading tokens new (fed_if made back)
if-read whole whole_held most back reading tokens new (Ok value) h k = (h, k)
if-read whole whole_held most back reading tokens new (Err error) h k = k

if-answer : {T B : Type 0} (whole : Rest T B) (whole_held : T → ℕ) (most back : ℕ) (reading : List Item → Reading B) (t : Seen) (new : T) (made : Result B TexError) → back ≤ most → ((more : List Item) → reading more ≡ done_if made (kept back t ++ more)) → IsAnswer whole whole_held most reading t new (fed_if made back)
if-answer whole whole_held most back reading t new (Ok value) h k = (h, k)
if-answer whole whole_held most back reading t new (Err error) h k = k

if-passed : {T B : Type 0} (whole : Rest T B) (whole_held : T → ℕ) (count back : ℕ) (reading : List Item → Reading B) (behind : List Item) (new : T) (made : Result B TexError) → back ≡ count → ((more : List Item) → reading more ≡ done_if made (behind ++ more)) → IsPassed whole whole_held reading behind count new (fed_if made back)
if-passed whole whole_held count back reading behind new (Ok value) h k = (h, k)
if-passed whole whole_held count back reading behind new (Err error) h k = k

pub settled-read : {S T A B : Type 0} (part : Rest S A) (part_held : S → ℕ) (whole : Rest T B) (whole_held : T → ℕ) (f : A → Result B TexError) (most : ℕ) (reading : List Item → Reading A) (tokens : List Item) (scan : S) (new : T) (answer : Fed A) → ((behind : List Item) (item : Item) (more : List Item) → whole new behind item more ≡ next (part scan behind item more) (λ a rest. done_if (f a) rest)) → whole_held new ≡ part_held scan → IsRead part part_held most reading tokens scan answer → IsRead whole whole_held most (λ more. next (reading more) (λ a rest. done_if (f a) rest)) tokens new (settled f answer)
settled-read part part_held whole whole_held f most reading tokens scan new (fed.More want) same count k = (
  ap (λ r. next r (λ a rest. done_if (f a) rest)) k.0,
  rw count k.1,
  λ item more. ap (λ r. next r (λ a rest. done_if (f a) rest)) (k.2 item more) ∙ sym (same (ending (part_held scan) tokens) item more) ∙ ap (λ n. whole new (ending n tokens) item more) (sym count),
)
settled-read part part_held whole whole_held f most reading tokens scan new (fed.Need kind) same count k = (
  ap (λ r. next r (λ a rest. done_if (f a) rest)) k.0,
  rw count k.1,
  λ item more. ap (λ r. next r (λ a rest. done_if (f a) rest)) (k.2 item more) ∙ sym (same (ending (part_held scan) tokens) item more) ∙ ap (λ n. whole new (ending n tokens) item more) (sym count),
)
settled-read part part_held whole whole_held f most reading tokens scan new (fed.Done value back) same count k =
    if-read whole whole_held most back (λ more. next (reading more) (λ a rest. done_if (f a) rest)) tokens new (f value) k.0 (λ more. ap (λ r. next r (λ a rest. done_if (f a) rest)) (k.1 more))
settled-read part part_held whole whole_held f most reading tokens scan new (fed.Wrong error) same count k =
    λ more. ap (λ r. next r (λ a rest. done_if (f a) rest)) (k more)

pub settled-answer : {S T A B : Type 0} (part : Rest S A) (part_held : S → ℕ) (whole : Rest T B) (whole_held : T → ℕ) (f : A → Result B TexError) (most : ℕ) (reading : List Item → Reading A) (t : Seen) (scan : S) (new : T) (answer : Fed A) → ((behind : List Item) (item : Item) (more : List Item) → whole new behind item more ≡ next (part scan behind item more) (λ a rest. done_if (f a) rest)) → whole_held new ≡ part_held scan → IsAnswer part part_held most reading t scan answer → IsAnswer whole whole_held most (λ more. next (reading more) (λ a rest. done_if (f a) rest)) t new (settled f answer)
settled-answer part part_held whole whole_held f most reading t scan new (fed.More want) same count k = (
  ap (λ r. next r (λ a rest. done_if (f a) rest)) k.0,
  count ∙ k.1,
  λ item more. ap (λ r. next r (λ a rest. done_if (f a) rest)) (k.2 item more) ∙ sym (same [] item more),
)
settled-answer part part_held whole whole_held f most reading t scan new (fed.Need kind) same count k = (
  ap (λ r. next r (λ a rest. done_if (f a) rest)) k.0,
  rw count k.1,
  λ item more. ap (λ r. next r (λ a rest. done_if (f a) rest)) (k.2 item more) ∙ sym (same (kept (part_held scan) t) item more) ∙ ap (λ n. whole new (kept n t) item more) (sym count),
)
settled-answer part part_held whole whole_held f most reading t scan new (fed.Done value back) same count k =
    if-answer whole whole_held most back (λ more. next (reading more) (λ a rest. done_if (f a) rest)) t new (f value) k.0 (λ more. ap (λ r. next r (λ a rest. done_if (f a) rest)) (k.1 more))
settled-answer part part_held whole whole_held f most reading t scan new (fed.Wrong error) same count k =
    λ more. ap (λ r. next r (λ a rest. done_if (f a) rest)) (k more)

pub settled-passed : {S T A B : Type 0} (part : Rest S A) (part_held : S → ℕ) (whole : Rest T B) (whole_held : T → ℕ) (f : A → Result B TexError) (count : ℕ) (reading : List Item → Reading A) (tokens : List Item) (scan : S) (new : T) (answer : Fed A) → ((behind : List Item) (item : Item) (more : List Item) → whole new behind item more ≡ next (part scan behind item more) (λ a rest. done_if (f a) rest)) → whole_held new ≡ part_held scan → IsPassed part part_held reading tokens count scan answer → IsPassed whole whole_held (λ more. next (reading more) (λ a rest. done_if (f a) rest)) tokens count new (settled f answer)
settled-passed part part_held whole whole_held f count reading tokens scan new (fed.More want) same number k = (
  ap (λ r. next r (λ a rest. done_if (f a) rest)) k.0,
  number ∙ k.1,
  λ item more. ap (λ r. next r (λ a rest. done_if (f a) rest)) (k.2 item more) ∙ sym (same tokens item more),
)
settled-passed part part_held whole whole_held f count reading tokens scan new (fed.Need kind) same number k = (
  ap (λ r. next r (λ a rest. done_if (f a) rest)) k.0,
  number ∙ k.1,
  λ item more. ap (λ r. next r (λ a rest. done_if (f a) rest)) (k.2 item more) ∙ sym (same tokens item more),
)
settled-passed part part_held whole whole_held f count reading tokens scan new (fed.Done value back) same number k =
    if-passed whole whole_held count back (λ more. next (reading more) (λ a rest. done_if (f a) rest)) tokens new (f value) k.0 (λ more. ap (λ r. next r (λ a rest. done_if (f a) rest)) (k.1 more))
settled-passed part part_held whole whole_held f count reading tokens scan new (fed.Wrong error) same number k =
    λ more. ap (λ r. next r (λ a rest. done_if (f a) rest)) (k more)

pub settled-fed : {S T A B : Type 0} (part : Rest S A) (part_held : S → ℕ) (whole : Rest T B) (whole_held : T → ℕ) (f : A → Result B TexError) (old new : S) (before after : T) (t : Seen) (answer : Fed A) → ((behind : List Item) (item : Item) (more : List Item) → whole before behind item more ≡ next (part old behind item more) (λ a rest. done_if (f a) rest)) → whole_held before ≡ part_held old → ((behind : List Item) (item : Item) (more : List Item) → whole after behind item more ≡ next (part new behind item more) (λ a rest. done_if (f a) rest)) → whole_held after ≡ part_held new → IsFedBy part part_held old t new answer → IsFedBy whole whole_held before t after (settled f answer)
settled-fed part part_held whole whole_held f old new before after t answer same_before count_before same_after count_after k = λ behind h.
    same-read whole whole_held (whole_held before + 1) (λ more. whole before behind (Took t) more) (λ more. next (part old behind (Took t) more) (λ a rest. done_if (f a) rest)) (behind ++ Took t ∷ []) after (settled f answer)
    (λ more. same_before behind (Took t) more)
    (rw count_before (settled-read part part_held whole whole_held f (part_held old + 1) (λ more. part old behind (Took t) more) (behind ++ Took t ∷ []) new after answer same_after count_after (k behind (rw count_before at h))))

pub settled-given : {S T A B : Type 0} (part : Rest S A) (part_held : S → ℕ) (whole : Rest T B) (whole_held : T → ℕ) (f : A → Result B TexError) (old new : S) (before after : T) (v : Value) (answer : Fed A) → ((behind : List Item) (item : Item) (more : List Item) → whole before behind item more ≡ next (part old behind item more) (λ a rest. done_if (f a) rest)) → whole_held before ≡ part_held old → ((behind : List Item) (item : Item) (more : List Item) → whole after behind item more ≡ next (part new behind item more) (λ a rest. done_if (f a) rest)) → whole_held after ≡ part_held new → IsGivenBy part part_held old v new answer → IsGivenBy whole whole_held before v after (settled f answer)
settled-given part part_held whole whole_held f old new before after v answer same_before count_before same_after count_after k = λ behind h.
    same-passed whole whole_held (λ more. whole before behind (Gave v) more) (λ more. next (part old behind (Gave v) more) (λ a rest. done_if (f a) rest)) behind (whole_held before) (part_held old) after (settled f answer)
    (λ more. same_before behind (Gave v) more) count_before
    (settled-passed part part_held whole whole_held f (part_held old) (λ more. part old behind (Gave v) more) behind new after answer same_after count_after (k behind (rw count_before at h)))

-- it needs as many values
if-needs : {B : Type 0} (old new back : ℕ) (made : Result B TexError) → NeedsNoMore old new (fed_if made back)
if-needs old new back (Ok value) = tt
if-needs old new back (Err error) = tt

pub needs-settled : {A B : Type 0} (f : A → Result B TexError) (old new : ℕ) (answer : Fed A) → NeedsNoMore old new answer → NeedsNoMore old new (settled f answer)
needs-settled f old new (fed.More want) n = n
needs-settled f old new (fed.Need kind) n = n
needs-settled f old new (fed.Done value back) n = if-needs old new back (f value)
needs-settled f old new (fed.Wrong error) n = tt

if-fewer : {B : Type 0} (old new back : ℕ) (made : Result B TexError) → NeedsFewer old new (fed_if made back)
if-fewer old new back (Ok value) = tt
if-fewer old new back (Err error) = tt

pub fewer-settled : {A B : Type 0} (f : A → Result B TexError) (old new : ℕ) (answer : Fed A) → NeedsFewer old new answer → NeedsFewer old new (settled f answer)
fewer-settled f old new (fed.More want) n = n
fewer-settled f old new (fed.Need kind) n = n
fewer-settled f old new (fed.Done value back) n = if-fewer old new back (f value)
fewer-settled f old new (fed.Wrong error) n = tt
