-- An internal quantity, token by token.
use Rattle.std.proofs.Common.{◌≡◌, ◌≤◌, ◌+◌, ℕ, ℤ, List, [], ◌∷◌, ◌++◌, Option, Some, None, refl, ap, sym, ◌∙◌, append-nil, arith}
use Rattle.tx_seen.specs.declared.error.TexError.{TexError}
use Rattle.tx_seen.specs.declared.fed.Fed.{Fed}
use Rattle.tx_seen.specs.declared.fed.Fed.TheVariants as fed
use Rattle.tx_seen.specs.declared.fed.Value.{Value}
use Rattle.tx_seen.specs.declared.item.Item.{Item}
use Rattle.tx_seen.specs.declared.item.Item.TheVariants.{Took, Gave}
use Rattle.tx_seen.specs.declared.seen.Seen.{Seen}
use Rattle.tx_seen.specs.Readings.{Reading, Done, Wrong, next}
use Rattle.tx_scan.specs.declared.scans.QuantityScan.{QuantityScan}
use Rattle.tx_scan.specs.declared.scans.QuantityStage.TheVariants as stage
use Rattle.tx_scan.specs.declared.scans.Sought.{Sought}
use Rattle.tx_scan.specs.Integers.{byte_of}
use Rattle.tx_scan.specs.IntegerRests as integers
use Rattle.tx_scan.specs.Quantities.{found, unless_whole, value_behind, value_counted}
use Rattle.tx_scan.specs.QuantityRests.{rest, held, more_needed, IsFed, IsCounted, IsNumbered}
use Rattle.tx_scan.specs.Rests.{kept, IsAnswer, IsPassed, IsGivenBy}
use Rattle.tx_scan.specs.Supplied.{NeedsFewer, NeedsNoMore}
use Rattle.tx_scan.proofs.Answering.{same-answer, same-passed}
use Rattle.tx_scan.proofs.Composing.{answer-most}
use Rattle.tx_scan.proofs.Mosts.{most-integer}

-- a number that is read alike
value-alike : (sought : Sought) (one other : List Item → Reading ℤ) (items : List Item) → ((more : List Item) → one more ≡ other more) → value_behind sought one items ≡ value_behind sought other items
value-alike sought one other [] same = ap (λ r. next r (λ n behind. value_counted sought (byte_of n) behind [])) (same [])
value-alike sought one other (item ∷ rest) same =
    ap (λ r. unless_whole sought r (item ∷ rest) (value_behind sought (λ more. one (item ∷ more)) rest)) (same [])
    ∙ ap (λ on. unless_whole sought (other []) (item ∷ rest) on) (value-alike sought (λ more. one (item ∷ more)) (λ more. other (item ∷ more)) rest (λ more. same (item ∷ more)))

-- a number that has ended, and one that is wrong
value-whole : (sought : Sought) (number : List Item → Reading ℤ) (n : ℤ) (behind items : List Item) → number [] ≡ Done n behind → value_behind sought number items ≡ value_counted sought (byte_of n) behind items
value-whole sought number n behind [] e = ap (λ r. next r (λ n behind. value_counted sought (byte_of n) behind [])) e
value-whole sought number n behind (item ∷ rest) e = ap (λ r. unless_whole sought r (item ∷ rest) (value_behind sought (λ more. number (item ∷ more)) rest)) e

value-wrong : (sought : Sought) (number : List Item → Reading ℤ) (error : TexError) (items : List Item) → number [] ≡ Wrong error → value_behind sought number items ≡ Wrong error
value-wrong sought number error [] e = ap (λ r. next r (λ n behind. value_counted sought (byte_of n) behind [])) e
value-wrong sought number error (item ∷ rest) e = ap (λ r. unless_whole sought r (item ∷ rest) (value_behind sought (λ more. number (item ∷ more)) rest)) e

-- the scan of the number reads on
rest-numbered : (scan : QuantityScan) (sought : Sought) (behind : List Item) (item : Item) (more : List Item) → scan.stage ≡ stage.Number sought → rest scan behind item more ≡ value_behind sought (λ later. integers.rest scan.number behind item later) more
rest-numbered scan sought behind item more s = rw s refl

held-numbered : (scan : QuantityScan) (sought : Sought) → scan.stage ≡ stage.Number sought → held scan ≡ integers.held scan.number
held-numbered scan sought s = rw s refl

-- the place is known, or there is none
counted-answer : (sought : Sought) (number : List Item → Reading ℤ) (t : Seen) (n : ℤ) (o : Option ℕ) (back : ℕ) (old new : QuantityScan) (answer : Fed Value) → byte_of n ≡ o → back ≤ 1 → ((more : List Item) → number more ≡ Done n (kept back t ++ more)) → IsCounted sought o back old new answer → IsAnswer rest held 1 (λ more. value_behind sought number more) t new answer
counted-answer sought number t n None back old new answer b h k is =
    rw is (λ more. value-whole sought number n (kept back t ++ []) more (k []) ∙ ap (λ o. value_counted sought o (kept back t ++ []) more) b)
counted-answer sought number t n (Some byte) back old new answer b h k is = rw (is.1, is.0) (
  value-whole sought number n (kept back t ++ []) [] (k []) ∙ ap (λ o. value_counted sought o (kept back t ++ []) []) b,
  h,
  λ item more.
      value-whole sought number n (kept back t ++ []) (item ∷ more) (k [])
      ∙ (ap (λ o. value_counted sought o (kept back t ++ []) (item ∷ more)) b
      ∙ ap (λ (behind : List Item). found item (behind ++ more)) (append-nil (kept back t))),
)

counted-passed : (sought : Sought) (number : List Item → Reading ℤ) (behind : List Item) (n : ℤ) (o : Option ℕ) (back count : ℕ) (old new : QuantityScan) (answer : Fed Value) → byte_of n ≡ o → back ≡ count → ((more : List Item) → number more ≡ Done n (behind ++ more)) → IsCounted sought o back old new answer → IsPassed rest held (λ more. value_behind sought number more) behind count new answer
counted-passed sought number behind n None back count old new answer b h k is =
    rw is (λ more. value-whole sought number n (behind ++ []) more (k []) ∙ ap (λ o. value_counted sought o (behind ++ []) more) b)
counted-passed sought number behind n (Some byte) back count old new answer b h k is = rw (is.1, is.0) (
  value-whole sought number n (behind ++ []) [] (k []) ∙ ap (λ o. value_counted sought o (behind ++ []) []) b,
  h,
  λ item more.
      value-whole sought number n (behind ++ []) (item ∷ more) (k [])
      ∙ (ap (λ o. value_counted sought o (behind ++ []) (item ∷ more)) b
      ∙ ap (λ (behind : List Item). found item (behind ++ more)) (append-nil behind)),
)

-- what the number's answer makes of the quantity
goes-on : (sought : Sought) (number : List Item → Reading ℤ) (now : QuantityScan) (behind : List Item) (item : Item) (more : List Item) → now.stage ≡ stage.Number sought → ((on : Reading Value) → unless_whole sought (number []) (item ∷ more) on ≡ on) → ((later : List Item) → number (item ∷ later) ≡ integers.rest now.number behind item later) → value_behind sought number (item ∷ more) ≡ rest now behind item more
goes-on sought number now behind item more s on same =
    on (value_behind sought (λ later. number (item ∷ later)) more)
    ∙ (value-alike sought (λ later. number (item ∷ later)) (λ later. integers.rest now.number behind item later) more same
    ∙ sym (rest-numbered now sought behind item more s))

number-answer : (sought : Sought) (number : List Item → Reading ℤ) (t : Seen) (now new : QuantityScan) (told : Fed ℤ) (answer : Fed Value) → now.stage ≡ stage.Number sought → IsAnswer integers.rest integers.held 1 number t now.number told → IsNumbered sought told now new answer → IsAnswer rest held 1 (λ more. value_behind sought number more) t new answer
number-answer sought number t now new (fed.More want) answer s k is = rw (is.1, is.0) (
  ap (λ r. next r (λ n behind. value_counted sought (byte_of n) behind [])) k.0,
  held-numbered now sought s ∙ k.1,
  λ item more. goes-on sought number now [] item more s (λ on. ap (λ r. unless_whole sought r (item ∷ more) on) k.0) (k.2 item),
)
number-answer sought number t now new (fed.Need kind) answer s k is =
    let count : held now ≡ integers.held now.number = held-numbered now sought s in
    rw (is.1, is.0) (
      ap (λ r. next r (λ n behind. value_counted sought (byte_of n) behind [])) k.0,
      rw count k.1,
      λ item more. goes-on sought number now (kept (held now) t) item more s (λ on. ap (λ r. unless_whole sought r (item ∷ more) on) k.0) (rw count (k.2 item)),
    )
number-answer sought number t now new (fed.Done n back) answer s k is = counted-answer sought number t n (byte_of n) back now new answer refl k.0 k.1 is
number-answer sought number t now new (fed.Wrong error) answer s k is = rw is (λ more. value-wrong sought number error more (k []))

number-passed : (sought : Sought) (number : List Item → Reading ℤ) (behind : List Item) (count : ℕ) (now new : QuantityScan) (told : Fed ℤ) (answer : Fed Value) → now.stage ≡ stage.Number sought → IsPassed integers.rest integers.held number behind count now.number told → IsNumbered sought told now new answer → IsPassed rest held (λ more. value_behind sought number more) behind count new answer
number-passed sought number behind count now new (fed.More want) answer s k is = rw (is.1, is.0) (
  ap (λ r. next r (λ n behind. value_counted sought (byte_of n) behind [])) k.0,
  held-numbered now sought s ∙ k.1,
  λ item more. goes-on sought number now behind item more s (λ on. ap (λ r. unless_whole sought r (item ∷ more) on) k.0) (k.2 item),
)
number-passed sought number behind count now new (fed.Need kind) answer s k is = rw (is.1, is.0) (
  ap (λ r. next r (λ n behind. value_counted sought (byte_of n) behind [])) k.0,
  held-numbered now sought s ∙ k.1,
  λ item more. goes-on sought number now behind item more s (λ on. ap (λ r. unless_whole sought r (item ∷ more) on) k.0) (k.2 item),
)
number-passed sought number behind count now new (fed.Done n back) answer s k is = counted-passed sought number behind n (byte_of n) back count now new answer refl k.0 k.1 is
number-passed sought number behind count now new (fed.Wrong error) answer s k is = rw is (λ more. value-wrong sought number error more (k []))

-- one more token, or a value, of the number
pub number-fed : (old now new : QuantityScan) (sought : Sought) (t : Seen) (told : Fed ℤ) (answer : Fed Value) → old.stage ≡ stage.Number sought → now.stage ≡ stage.Number sought → integers.IsFed old.number t now.number told → IsNumbered sought told now new answer → IsFed old t new answer
number-fed old now new sought t told answer was s k is = λ behind.
    same-answer rest held 1 (λ more. rest old behind (Took t) more) (λ more. value_behind sought (λ later. integers.rest old.number behind (Took t) later) more) t new answer
    (λ more. rest-numbered old sought behind (Took t) more was)
    (number-answer sought (λ later. integers.rest old.number behind (Took t) later) t now new told answer s
    (answer-most integers.rest integers.held (integers.most old.number) 1 (λ later. integers.rest old.number behind (Took t) later) t now.number told (most-integer old.number) (k behind)) is)

pub number-given : (old now new : QuantityScan) (sought : Sought) (v : Value) (told : Fed ℤ) (answer : Fed Value) → old.stage ≡ stage.Number sought → now.stage ≡ stage.Number sought → integers.IsGiven old.number v now.number told → IsNumbered sought told now new answer → IsGivenBy rest held old v new answer
number-given old now new sought v told answer was s k is = λ behind short.
    same-passed rest held (λ more. rest old behind (Gave v) more) (λ more. value_behind sought (λ later. integers.rest old.number behind (Gave v) later) more) behind (held old) (integers.held old.number) new answer
    (λ more. rest-numbered old sought behind (Gave v) more was) (held-numbered old sought was)
    (number-passed sought (λ later. integers.rest old.number behind (Gave v) later) behind (integers.held old.number) now new told answer s (k behind (rw (sym (held-numbered old sought was)) short)) is)

-- how many values it needs
needed-numbered : (scan : QuantityScan) (sought : Sought) → scan.stage ≡ stage.Number sought → more_needed scan ≡ integers.waiting scan.number + 1
needed-numbered scan sought s = rw s refl

counted-needs : (sought : Sought) (o : Option ℕ) (back many : ℕ) (now new : QuantityScan) (answer : Fed Value) → IsCounted sought o back now new answer → NeedsNoMore many (more_needed new) answer
counted-needs sought None back many now new answer is = rw is tt
counted-needs sought (Some byte) back many now new answer is = rw (is.1, is.0) (omega arith)

pub number-needs : (old now new : QuantityScan) (sought : Sought) (told : Fed ℤ) (answer : Fed Value) → old.stage ≡ stage.Number sought → now.stage ≡ stage.Number sought → NeedsNoMore (integers.waiting old.number) (integers.waiting now.number) told → IsNumbered sought told now new answer → NeedsNoMore (more_needed old) (more_needed new) answer
number-needs old now new sought (fed.More want) answer was s k is =
    let before = needed-numbered old sought was in
    let after = needed-numbered now sought s in
    rw (is.1, is.0, before, after) (omega (arith, k))
number-needs old now new sought (fed.Need kind) answer was s k is =
    let before = needed-numbered old sought was in
    let after = needed-numbered now sought s in
    rw (is.1, is.0, before, after) (omega (arith, k))
number-needs old now new sought (fed.Done n back) answer was s k is = counted-needs sought (byte_of n) back (more_needed old) now new answer is
number-needs old now new sought (fed.Wrong error) answer was s k is = rw is tt

counted-fewer : (sought : Sought) (o : Option ℕ) (back many : ℕ) (now new : QuantityScan) (answer : Fed Value) → 1 ≤ many → IsCounted sought o back now new answer → NeedsFewer many (more_needed new) answer
counted-fewer sought None back many now new answer h is = rw is tt
counted-fewer sought (Some byte) back many now new answer h is = rw (is.1, is.0) h

pub number-fewer : (old now new : QuantityScan) (sought : Sought) (told : Fed ℤ) (answer : Fed Value) → old.stage ≡ stage.Number sought → now.stage ≡ stage.Number sought → NeedsFewer (integers.waiting old.number) (integers.waiting now.number) told → IsNumbered sought told now new answer → NeedsFewer (more_needed old) (more_needed new) answer
number-fewer old now new sought (fed.More want) answer was s k is =
    let before = needed-numbered old sought was in
    let after = needed-numbered now sought s in
    rw (is.1, is.0, before, after) (omega (arith, k))
number-fewer old now new sought (fed.Need kind) answer was s k is =
    let before = needed-numbered old sought was in
    let after = needed-numbered now sought s in
    rw (is.1, is.0, before, after) (omega (arith, k))
number-fewer old now new sought (fed.Done n back) answer was s k is =
    let before = needed-numbered old sought was in
    counted-fewer sought (byte_of n) back (more_needed old) now new answer (omega (arith, before)) is
number-fewer old now new sought (fed.Wrong error) answer was s k is = rw is tt
