-- The values that the numbers of a test wait for.
use Rattle.std.proofs.Common.{◌≡◌, ◌≤◌, ℕ, zero, suc, ℤ, List, [], ◌∷◌, ◌++◌, length, Option, None, Some, refl, ap, sym, ◌∙◌, arith}
use Rattle.tx_char.specs.declared.tokens.Token.TheVariants.{FrozenRelax}
use Rattle.tx_seen.specs.declared.error.TexError.{TexError}
use Rattle.tx_seen.specs.declared.meaning.Meaning.TheVariants.{Undefined}
use Rattle.tx_seen.specs.declared.seen.Seen.{Seen}
use Rattle.tx_seen.specs.declared.item.Item.{Item}
use Rattle.tx_seen.specs.declared.item.Item.TheVariants.{Took, Gave}
use Rattle.tx_seen.specs.declared.fed.Kind.{Kind}
use Rattle.tx_seen.specs.declared.fed.Value.{Value}
use Rattle.tx_seen.specs.declared.fed.Want.{Want}
use Rattle.tx_seen.specs.declared.fed.Fed.{Fed}
use Rattle.tx_seen.specs.declared.fed.Fed.TheVariants as fed
use Rattle.tx_seen.specs.Readings.{Reading, next}
use Rattle.tx_cond.specs.declared.test.Comparand.{Comparand}
use Rattle.tx_cond.specs.declared.test.ComparandScan.{ComparandScan}
use Rattle.tx_scan.specs.Rests.{IsPassed, IsGivenBy}
use Rattle.tx_cond.specs.ComparandRests as comparands
use Rattle.tx_scan.proofs.Answering.{same-passed}
use Rattle.tx_cond.specs.declared.test.TestScan.{TestScan}
use Rattle.tx_cond.specs.declared.test.TestStage.TheVariants as stage
use Rattle.tx_cond.specs.declared.test.Judged.{Judged}
use Rattle.tx_cond.specs.Tests.{behind_left, judged, judgement}
use Rattle.tx_cond.specs.TestRests.{rest, held, held_items, IsTesting}

-- an answer that holds no token, and gives none back
answer-passed : (reading : List Item → Reading ℤ) (t : Seen) (new : TestScan) (answer : Fed ℤ) → IsTesting 0 reading t new answer → IsPassed rest held reading [] 0 new answer
answer-passed reading t new (fed.More want) k = k
answer-passed reading t new (fed.Need kind) k =
    let none : held new ≡ 0 = omega (arith, k.1) in
    (k.0, none, rw none at k.2)
answer-passed reading t new (fed.Done value back) k =
    let none : back ≡ 0 = omega (arith, k.0) in
    (none, rw none at k.1)
answer-passed reading t new (fed.Wrong error) k = k

-- the tokens behind the first number
abbrev behind_it : TestScan → List Item
behind_it old = held_items (comparands.held old.scan) old.token

length-items : (n : ℕ) (token : Option Seen) → length (held_items n token) ≤ n
length-items zero token = omega arith
length-items (suc n) None = omega arith
length-items (suc n) (Some t) = omega arith

short-behind : (old : TestScan) → length (behind_it old) ≤ comparands.held old.scan
short-behind old = length-items (comparands.held old.scan) old.token

pub left-more : (d : Comparand) (old : TestScan) (scan : ComparandScan) (v : Value) (want : Want) → old.stage ≡ stage.Left d → comparands.IsGiven old.scan v scan (fed.More want) → IsGivenBy rest held old v (record old { scan = scan }) (fed.More want)
left-more d old scan v want s k = λ behind short. rw s (
  ap (λ r. next r (behind_left d)) (k (behind_it old) (short-behind old)).0,
  refl,
  λ item more. ap (λ r. next r (behind_left d)) ((k (behind_it old) (short-behind old)).2 item more ∙ ap (λ (n : ℕ). comparands.rest scan (held_items n old.token) item more) (sym (k (behind_it old) (short-behind old)).1)),
)

pub left-need : (d : Comparand) (old : TestScan) (scan : ComparandScan) (v : Value) (wanted : Kind) → old.stage ≡ stage.Left d → comparands.IsGiven old.scan v scan (fed.Need wanted) → IsGivenBy rest held old v (record old { scan = scan }) (fed.Need wanted)
left-need d old scan v wanted s k = λ behind short. rw s (
  ap (λ r. next r (behind_left d)) (k (behind_it old) (short-behind old)).0,
  refl,
  λ item more. ap (λ r. next r (behind_left d)) ((k (behind_it old) (short-behind old)).2 item more ∙ ap (λ (n : ℕ). comparands.rest scan (held_items n old.token) item more) (sym (k (behind_it old) (short-behind old)).1)),
)

pub left-wrong : (d : Comparand) (old new : TestScan) (scan : ComparandScan) (v : Value) (error : TexError) → old.stage ≡ stage.Left d → comparands.IsGiven old.scan v scan (fed.Wrong error) → IsGivenBy rest held old v new (fed.Wrong error)
left-wrong d old new scan v error s k = λ behind short more.
    rw s (ap (λ r. next r (behind_left d)) (k (behind_it old) (short-behind old) more))

-- no token is held
none-passed : (reading : List Item → Reading ℤ) (behind : List Item) (n : ℕ) (new : TestScan) (answer : Fed ℤ) → n ≡ 0 → length behind ≤ n → IsPassed rest held reading [] 0 new answer → IsPassed rest held reading behind n new answer
none-passed reading [] n new answer e short k = rw e k
none-passed reading (i ∷ behind) n new answer e short k = absurd (omega (arith, e, short))

left-done : (d : Comparand) (old new : TestScan) (scan : ComparandScan) (v : Value) (n : ℤ) (back : ℕ) (t : Seen) (answer : Fed ℤ) → old.stage ≡ stage.Left d → comparands.IsGiven old.scan v scan (fed.Done n back) → IsTesting 0 (λ more. behind_left d n (behind_it old ++ more)) t new answer → IsGivenBy rest held old v new answer
left-done d old new scan v n back t answer s k later = λ behind short.
    none-passed (λ more. rest old behind (Gave v) more) behind (held old) new answer (rw s refl) short
    (same-passed rest held (λ more. rest old behind (Gave v) more) (λ more. behind_left d n (behind_it old ++ more)) [] 0 0 new answer
    (λ more. rw s (ap (λ r. next r (behind_left d)) ((k (behind_it old) (short-behind old)).1 more))) refl
    (answer-passed (λ more. behind_left d n (behind_it old ++ more)) t new answer later))

-- some token, where none is asked
abbrev some_token : Seen
some_token = record { token = FrozenRelax; meaning = Undefined }

pub left-ends : (d : Comparand) (old new : TestScan) (scan : ComparandScan) (v : Value) (n m : ℤ) (back : ℕ) (answer : Fed ℤ) → old.stage ≡ stage.Left d → comparands.IsGiven old.scan v scan (fed.Done n back) → behind_it old ≡ [] → m ≡ n → ((t : Seen) → IsTesting 0 (λ more. behind_left d m more) t new answer) → IsGivenBy rest held old v new answer
left-ends d old new scan v n m back answer s k e f later =
    left-done d old new scan v n back some_token answer s k (rw e (rw f at (later some_token)))

pub left-ends-before : (d : Comparand) (old new : TestScan) (scan : ComparandScan) (v : Value) (n m : ℤ) (back : ℕ) (t : Seen) (answer : Fed ℤ) → old.stage ≡ stage.Left d → comparands.IsGiven old.scan v scan (fed.Done n back) → behind_it old ≡ Took t ∷ [] → m ≡ n → IsTesting 0 (λ more. behind_left d m (Took t ∷ more)) t new answer → IsGivenBy rest held old v new answer
left-ends-before d old new scan v n m back t answer s k e f later =
    left-done d old new scan v n back t answer s k (rw e (rw f at later))

-- which tokens are behind a number that has ended
none-held : (n : ℕ) (token : Option Seen) → n ≡ 0 → held_items n token ≡ []
none-held n token e = rw e refl

pub ends-alone : (old : TestScan) (scan : ComparandScan) (v : Value) (n : ℤ) (back : ℕ) → comparands.IsGiven old.scan v scan (fed.Done n back) → back ≡ 0 → behind_it old ≡ []
ends-alone old scan v n back k e = none-held (comparands.held old.scan) old.token (sym (k [] (omega arith)).0 ∙ e)

none-behind : (n : ℕ) → held_items n None ≡ []
none-behind zero = refl
none-behind (suc n) = refl

pub ends-unseen : (old : TestScan) → old.token ≡ None → behind_it old ≡ []
ends-unseen old e = rw e (none-behind (comparands.held old.scan))

one-behind : (n : ℕ) (t : Seen) → (n ≡ 0 → ⊥) → held_items n (Some t) ≡ Took t ∷ []
one-behind zero t e = absurd (e refl)
one-behind (suc n) t e = refl

pub ends-seen : (old : TestScan) (scan : ComparandScan) (v : Value) (n : ℤ) (back : ℕ) (t : Seen) → comparands.IsGiven old.scan v scan (fed.Done n back) → (back ≡ 0 → ⊥) → old.token ≡ Some t → behind_it old ≡ Took t ∷ []
ends-seen old scan v n back t k e b = rw b (one-behind (comparands.held old.scan) t (λ none. e ((k [] (omega arith)).0 ∙ none)))

-- the last number
pub last-more : (old : TestScan) (scan : ComparandScan) (j : Judged) (v : Value) (want : Want) → old.stage ≡ stage.Last j → comparands.IsGiven old.scan v scan (fed.More want) → IsGivenBy rest held old v (record old { scan = scan }) (fed.More want)
last-more old scan j v want s k = λ behind short. rw s (
  ap (λ r. next r (judged j)) (k behind (rw s at short)).0,
  (k behind (rw s at short)).1,
  λ item more. ap (λ r. next r (judged j)) ((k behind (rw s at short)).2 item more),
)

pub last-need : (old : TestScan) (scan : ComparandScan) (j : Judged) (v : Value) (kind : Kind) → old.stage ≡ stage.Last j → comparands.IsGiven old.scan v scan (fed.Need kind) → IsGivenBy rest held old v (record old { scan = scan }) (fed.Need kind)
last-need old scan j v kind s k = λ behind short. rw s (
  ap (λ r. next r (judged j)) (k behind (rw s at short)).0,
  (k behind (rw s at short)).1,
  λ item more. ap (λ r. next r (judged j)) ((k behind (rw s at short)).2 item more),
)

pub last-wrong : (old new : TestScan) (scan : ComparandScan) (j : Judged) (v : Value) (error : TexError) → old.stage ≡ stage.Last j → comparands.IsGiven old.scan v scan (fed.Wrong error) → IsGivenBy rest held old v new (fed.Wrong error)
last-wrong old new scan j v error s k = λ behind short more. rw s (ap (λ r. next r (judged j)) (k behind (rw s at short) more))

pub last-done : (old new : TestScan) (scan : ComparandScan) (j : Judged) (v : Value) (n value : ℤ) (back : ℕ) → old.stage ≡ stage.Last j → comparands.IsGiven old.scan v scan (fed.Done n back) → value ≡ judgement j n → IsGivenBy rest held old v new (fed.Done value back)
last-done old new scan j v n value back s k e = λ behind short. (
  rw s (k behind (rw s at short)).0,
  λ more. rw (s, e) (ap (λ r. next r (judged j)) ((k behind (rw s at short)).1 more)),
)
