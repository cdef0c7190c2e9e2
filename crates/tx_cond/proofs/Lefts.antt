-- The first of two numbers, and the last number, as parts of a test.
use Rattle.std.proofs.Common.{◌≡◌, ◌≤◌, ℕ, zero, suc, ℤ, List, [], ◌∷◌, ◌++◌, Some, Result, Ok, Err, IfOk, refl, ap, sym, arith, lit≤}
use Rattle.tx_seen.specs.declared.error.TexError.{TexError}
use Rattle.tx_seen.specs.declared.seen.Seen.{Seen}
use Rattle.tx_seen.specs.declared.item.Item.{Item}
use Rattle.tx_seen.specs.declared.item.Item.TheVariants.{Took}
use Rattle.tx_seen.specs.declared.fed.Kind.{Kind}
use Rattle.tx_seen.specs.declared.fed.Want.{Want}
use Rattle.tx_seen.specs.declared.fed.Fed.{Fed}
use Rattle.tx_seen.specs.declared.fed.Fed.TheVariants as fed
use Rattle.tx_seen.specs.Readings.{Reading, next}
use Rattle.tx_cond.specs.declared.test.Comparand.{Comparand}
use Rattle.tx_cond.specs.declared.test.ComparandScan.{ComparandScan}
use Rattle.tx_scan.specs.Rests.{kept}
use Rattle.tx_scan.specs.Supplied.{NeedsFewer, NeedsNoMore, NeedsNothing}
use Rattle.tx_cond.specs.ComparandRests as comparands
use Rattle.tx_scan.proofs.Answering.{same-answer}
use Rattle.tx_scan.proofs.Composing.{answer-most, more-next, need-next, done-next, none-back, one-back}
use Rattle.tx_cond.proofs.Comparands.{most-one}
use Rattle.tx_cond.specs.declared.test.TestScan.{TestScan}
use Rattle.tx_cond.specs.declared.test.TestStage.TheVariants as stage
use Rattle.tx_cond.specs.declared.test.Judged.{Judged}
use Rattle.tx_cond.specs.Tests.{behind_left, judged, judgement}
use Rattle.tx_cond.specs.TestRests.{rest, held, held_items, IsTesting, IsFed}

-- what a stage reads of a token is what reading on gives
pub fed-at : (few : ℕ) (reading : List Item → Reading ℤ) (old new : TestScan) (t : Seen) (answer : Fed ℤ) → few ≤ 1 → ((behind more : List Item) → rest old behind (Took t) more ≡ reading more) → IsTesting few reading t new answer → IsFed old t new answer
fed-at few reading old new t answer h same k = λ behind.
    same-answer rest held 1 (λ more. rest old behind (Took t) more) reading t new answer (same behind) (answer-most rest held few 1 reading t new answer h k)

pub fed-at-ok : {E : Type 0} (few : ℕ) (reading : List Item → Reading ℤ) (old new : TestScan) (t : Seen) (answer : Result (Fed ℤ) E) → few ≤ 1 → ((behind more : List Item) → rest old behind (Took t) more ≡ reading more) → IfOk answer (IsTesting few reading t new) → IfOk answer (IsFed old t new)
fed-at-ok few reading old new t (Ok answer) h same k = fed-at few reading old new t answer h same k
fed-at-ok few reading old new t (Err e) h same k = tt

-- the first number
abbrev left_rest : TestScan → Item → List Item → Reading ℤ
left_rest old item more = comparands.rest old.scan (held_items (comparands.held old.scan) old.token) item more

pub left-more : (d : Comparand) (old : TestScan) (scan : ComparandScan) (t : Seen) (want : Want) → old.stage ≡ stage.Left d → comparands.IsFed old.scan t scan (fed.More want) → IsFed old t (record old { scan = scan }) (fed.More want)
left-more d old scan t want s k = λ behind.
    rw s (more-next comparands.rest comparands.held rest held (comparands.most old.scan) 1 (left_rest old (Took t)) (behind_left d) t scan (record old { scan = scan; stage = stage.Left d }) want
    (k (held_items (comparands.held old.scan) old.token)) refl
    (λ item more. ap (λ (items : List Item). next (comparands.rest scan items item more) (behind_left d)) (sym (ap (λ (n : ℕ). held_items n old.token) (k []).1))))

kept-items : (n : ℕ) (t u : Seen) → u ≡ t → kept n t ≡ held_items n (Some u)
kept-items zero t u e = refl
kept-items (suc n) t u e = ap (λ (x : Seen). Took x ∷ []) (sym e)

pub left-need : (d : Comparand) (old : TestScan) (scan : ComparandScan) (t u : Seen) (wanted : Kind) → old.stage ≡ stage.Left d → u ≡ t → comparands.IsFed old.scan t scan (fed.Need wanted) → IsFed old t (record old { scan = scan; token = Some u }) (fed.Need wanted)
left-need d old scan t u wanted s e k = λ behind.
    rw s (need-next comparands.rest comparands.held rest held (comparands.most old.scan) 1 (left_rest old (Took t)) (behind_left d) t scan (record old { scan = scan; token = Some u; stage = stage.Left d }) wanted
    (k (held_items (comparands.held old.scan) old.token)) (lit≤ tt)
    (λ item more. ap (λ (items : List Item). next (comparands.rest scan items item more) (behind_left d)) (kept-items (comparands.held scan) t u e)))

pub left-wrong : (d : Comparand) (old new : TestScan) (scan : ComparandScan) (t : Seen) (error : TexError) → old.stage ≡ stage.Left d → comparands.IsFed old.scan t scan (fed.Wrong error) → IsFed old t new (fed.Wrong error)
left-wrong d old new scan t error s k = λ behind more.
    rw s (ap (λ r. next r (behind_left d)) (k (held_items (comparands.held old.scan) old.token) more))

left-done : (d : Comparand) (old new : TestScan) (scan : ComparandScan) (t : Seen) (n : ℤ) (back : ℕ) (answer : Fed ℤ) → old.stage ≡ stage.Left d → comparands.IsFed old.scan t scan (fed.Done n back) → IsTesting 0 (λ more. behind_left d n (kept back t ++ more)) t new answer → IsFed old t new answer
left-done d old new scan t n back answer s k later = λ behind.
    same-answer rest held 1 (λ more. rest old behind (Took t) more) (λ more. next (left_rest old (Took t) more) (behind_left d)) t new answer (λ more. rw s refl)
    (done-next comparands.rest comparands.held rest held (comparands.most old.scan) 1 (left_rest old (Took t)) (behind_left d) t scan new n back answer
    (k (held_items (comparands.held old.scan) old.token))
    (answer-most rest held 0 1 (λ more. behind_left d n (kept back t ++ more)) t new answer (lit≤ tt) later))

pub left-ends : (d : Comparand) (old new : TestScan) (scan : ComparandScan) (t : Seen) (n m : ℤ) (back : ℕ) (answer : Fed ℤ) → old.stage ≡ stage.Left d → comparands.IsFed old.scan t scan (fed.Done n back) → back ≡ 0 → m ≡ n → IsTesting 0 (λ more. behind_left d m more) t new answer → IsFed old t new answer
left-ends d old new scan t n m back answer s k e f later =
    left-done d old new scan t n back answer s k
    (none-back (λ items. IsTesting 0 (λ more. behind_left d n (items ++ more)) t new answer) back t e (rw f at later))

pub left-ends-before : (d : Comparand) (old new : TestScan) (scan : ComparandScan) (t : Seen) (n m : ℤ) (back : ℕ) (answer : Fed ℤ) → old.stage ≡ stage.Left d → comparands.IsFed old.scan t scan (fed.Done n back) → (back ≡ 0 → ⊥) → m ≡ n → IsTesting 0 (λ more. behind_left d m (Took t ∷ more)) t new answer → IsFed old t new answer
left-ends-before d old new scan t n m back answer s k e f later =
    left-done d old new scan t n back answer s k
    (one-back (λ items. IsTesting 0 (λ more. behind_left d n (items ++ more)) t new answer) back t e (rw f at later))

-- the last number
pub last-more : (old : TestScan) (scan : ComparandScan) (j : Judged) (t : Seen) (want : Want) → old.stage ≡ stage.Last j → comparands.IsFed old.scan t scan (fed.More want) → IsFed old t (record old { scan = scan }) (fed.More want)
last-more old scan j t want s k = λ behind.
    rw s (more-next comparands.rest comparands.held rest held (comparands.most old.scan) 1 (λ more. comparands.rest old.scan behind (Took t) more) (judged j) t scan (record old { scan = scan; stage = stage.Last j }) want
    (k behind) (k behind).1 (λ item more. refl))

pub last-need : (old : TestScan) (scan : ComparandScan) (j : Judged) (t : Seen) (kind : Kind) → old.stage ≡ stage.Last j → comparands.IsFed old.scan t scan (fed.Need kind) → IsFed old t (record old { scan = scan }) (fed.Need kind)
last-need old scan j t kind s k = λ behind.
    let most : comparands.most old.scan ≤ 1 = most-one old.scan in
    let few : comparands.held scan ≤ 1 = omega (arith, most, (k behind).1) in
    rw s (need-next comparands.rest comparands.held rest held (comparands.most old.scan) 1 (λ more. comparands.rest old.scan behind (Took t) more) (judged j) t scan (record old { scan = scan; stage = stage.Last j }) kind
    (k behind) few (λ item more. refl))

pub last-wrong : (old new : TestScan) (scan : ComparandScan) (j : Judged) (t : Seen) (error : TexError) → old.stage ≡ stage.Last j → comparands.IsFed old.scan t scan (fed.Wrong error) → IsFed old t new (fed.Wrong error)
last-wrong old new scan j t error s k = λ behind more. rw s (ap (λ r. next r (judged j)) (k behind more))

pub last-done : (old new : TestScan) (scan : ComparandScan) (j : Judged) (t : Seen) (n value : ℤ) (back : ℕ) → old.stage ≡ stage.Last j → comparands.IsFed old.scan t scan (fed.Done n back) → value ≡ judgement j n → IsFed old t new (fed.Done value back)
last-done old new scan j t n value back s k v = λ behind.
    let most : comparands.most old.scan ≤ 1 = most-one old.scan in
    let few : back ≤ 1 = omega (arith, most, (k behind).0) in
    (few, λ more. rw (s, v) (ap (λ r. next r (judged j)) ((k behind).1 more)))

-- a relation, where the number before it was passed on
pub relation-at : (d : Comparand) (old new : TestScan) (t : Seen) (m n : ℤ) (answer : Fed ℤ) → old.stage ≡ stage.Relation d m → n ≡ m → IsTesting 0 (λ more. behind_left d n (Took t ∷ more)) t new answer → IsFed old t new answer
relation-at d old new t m n answer s e k =
    fed-at 0 (λ more. behind_left d m (Took t ∷ more)) old new t answer (lit≤ tt) (λ behind more. rw s refl) (rw e at k)

-- no value is needed
pub needs_fewer : (answer : Fed ℤ) (old new : ℕ) → NeedsNothing answer → new ≡ 0 → NeedsFewer old new answer
needs_fewer (fed.More want) old new h e = omega arith
needs_fewer (fed.Need kind) old new h e = absurd h
needs_fewer (fed.Done value back) old new h e = tt
needs_fewer (fed.Wrong error) old new h e = tt

pub needs_no_more : (answer : Fed ℤ) (old new : ℕ) → NeedsNothing answer → new ≡ 0 → NeedsNoMore old new answer
needs_no_more (fed.More want) old new h e = omega arith
needs_no_more (fed.Need kind) old new h e = absurd h
needs_no_more (fed.Done value back) old new h e = tt
needs_no_more (fed.Wrong error) old new h e = tt
