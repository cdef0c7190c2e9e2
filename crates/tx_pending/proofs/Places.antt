-- Places on a stack.
use Rattle.std.proofs.Common.{◌≡◌, ℕ, zero, suc, ◌+◌, ◌-◌, ◌≤◌, ◌<◌, List, [], ◌∷◌, ◌++◌, length, take, drop, get_or, slice_get, refl, ap, sym, subst, ◌∙◌, arith, Bool, IsTrue, nat_eq, ◌↔◌, ◌⊎◌, inl, inr}
use Rattle.std.proofs.lemmas.Bool.Decides.{eqb_tells}
use Rattle.std.proofs.lemmas.List.{take_all, take_more, drop-append-le, drop-drop, drop_all, length-drop, length-append, get_or_read}
use Rattle.tx_pending.specs.declared.same.Position.{Position}
use Rattle.tx_pending.specs.declared.source.Source.{Source}
use Rattle.tx_pending.specs.Elements.{Element}
use Rattle.tx_pending.specs.Sources.{IsAt, IsPosition, IsSettled, ahead, elements_of, stack_elements}
use Rattle.tx_pending.proofs.StackSteps.{stack_elements-top}

-- only one source is at a place
pub same-source : (stack : List Source) (i : ℕ) (x y : Source) → i < length stack → x ≡ get_or stack i x → y ≡ get_or stack i y → x ≡ y
same-source stack i x y l p q = get_or_read stack i x l p y ∙ sym q

-- the elements ahead are the rest of those of the source, and then those of the others
pub ahead-source : (stack : List Source) (place : Position) (x : Source) → place.sources ≤ length stack → IsAt stack place x → place.passed ≤ length (elements_of x) → ahead stack place ≡ drop place.passed (elements_of x) ++ stack_elements (take (place.sources - 1) stack)
ahead-source stack place x within at inside =
    let some : 0 < place.sources = at.0 in
    let n : place.sources - 1 + 1 ≡ place.sources = omega arith in
    let e : take place.sources stack ≡ take (place.sources - 1) stack ++ x ∷ [] =
    ap (λ m. take m stack) (sym n) ∙ take_more stack (place.sources - 1) x (omega arith) ∙ ap (λ t. take (place.sources - 1) stack ++ t ∷ []) (sym at.1) in
    ap (λ s. drop place.passed (stack_elements s)) e
    ∙ ap (drop place.passed) (stack_elements-top (take (place.sources - 1) stack) x)
    ∙ drop-append-le place.passed (elements_of x) (stack_elements (take (place.sources - 1) stack)) inside

-- the first place is at the end of the innermost source or before it
pub first-place : (stack : List Source) → IsPosition stack (record { sources = length stack; passed = 0 })
first-place stack = record { within = omega arith; inside = λ x at. omega arith }

pub first-ahead : (stack : List Source) → ahead stack (record { sources = length stack; passed = 0 }) ≡ stack_elements stack
first-ahead stack = ap stack_elements (take_all (length stack) stack (omega arith))

-- behind a source of which all is passed come the others
pub lower-place : (stack : List Source) (place : Position) → IsPosition stack place → 0 < place.sources → IsPosition stack (record { sources = place.sources - 1; passed = 0 })
lower-place stack place p some = let w : place.sources ≤ length stack = p.within in record { within = omega arith; inside = λ x at. omega arith }

pub lower-ahead : (stack : List Source) (place : Position) (x : Source) → IsPosition stack place → IsAt stack place x → length (elements_of x) ≤ place.passed → ahead stack (record { sources = place.sources - 1; passed = 0 }) ≡ ahead stack place
lower-ahead stack place x p at all =
    sym (ahead-source stack place x p.within at (p.inside x at) ∙ ap (λ t. t ++ stack_elements (take (place.sources - 1) stack)) (drop_all place.passed (elements_of x) all))

-- a place at which an element stands
pub settled-some : (stack : List Source) (place : Position) (x : Source) → place.sources ≤ length stack → IsAt stack place x → place.passed < length (elements_of x) → IsSettled stack place
settled-some stack place x within at here =
    record {
      within = within;
      inside = λ y other.
          let some : 0 < place.sources = at.0 in
          let e : x ≡ y = same-source stack (place.sources - 1) x y (omega arith) at.1 other.1 in
          let P : Source → Type 0 = λ s. place.passed < length (elements_of s) in
          subst P e here;
    }

pub settled-none : (stack : List Source) (place : Position) → place.sources ≤ length stack → place.sources ≤ 0 → IsSettled stack place
settled-none stack place within none = record { within = within; inside = λ y at. let some : 0 < place.sources = at.0 in absurd (omega arith) }

-- one element on
pub next-place : (stack : List Source) (place : Position) → IsSettled stack place → IsPosition stack (record { sources = place.sources; passed = place.passed + 1 })
next-place stack place s = record { within = s.within; inside = λ x at. let l : place.passed < length (elements_of x) = s.inside x at in omega arith }

pub next-ahead : (stack : List Source) (place : Position) → ahead stack (record { sources = place.sources; passed = place.passed + 1 }) ≡ drop 1 (ahead stack place)
next-ahead stack place = sym (drop-drop 1 place.passed (stack_elements (take place.sources stack)))

-- something is ahead where an element stands
pub some-ahead : (stack : List Source) (place : Position) (x : Source) → IsSettled stack place → IsAt stack place x → 0 < length (ahead stack place)
some-ahead stack place x s at =
    let l : place.passed < length (elements_of x) = s.inside x at in
    let e : ahead stack place ≡ drop place.passed (elements_of x) ++ stack_elements (take (place.sources - 1) stack) = ahead-source stack place x s.within at (omega arith) in
    let m : length (ahead stack place) ≡ length (drop place.passed (elements_of x)) + length (stack_elements (take (place.sources - 1) stack)) = ap length e ∙ length-append _ _ in
    omega (arith, length-drop place.passed (elements_of x))

slice_get-front : (n : ℕ) (xs ys : List Element) → n < length xs → slice_get (drop n xs ++ ys) 0 ≡ slice_get xs n
slice_get-front zero (x ∷ xs) ys l = refl
slice_get-front (suc n) (x ∷ xs) ys l = slice_get-front n xs ys (omega arith)
slice_get-front n [] ys l = absurd (omega arith)

-- the element at a place is the first one ahead
pub element-ahead : (stack : List Source) (place : Position) (x : Source) → IsSettled stack place → IsAt stack place x → slice_get (ahead stack place) 0 ≡ slice_get (elements_of x) place.passed
element-ahead stack place x s at =
    let l : place.passed < length (elements_of x) = s.inside x at in
    ap (λ t. slice_get t 0) (ahead-source stack place x s.within at (omega arith)) ∙ slice_get-front place.passed (elements_of x) _ l

-- the elements at two places are the same if the first ones ahead are
pub same-ahead : (b : Bool) (one other : List Source) (here there : Position) (x y : Source) → IsSettled one here → IsSettled other there → IsAt one here x → IsAt other there y → (IsTrue b ↔ (slice_get (elements_of x) here.passed ≡ slice_get (elements_of y) there.passed)) → IsTrue b ↔ (slice_get (ahead one here) 0 ≡ slice_get (ahead other there) 0)
same-ahead b one other here there x y s t at bt h =
    let e : slice_get (ahead one here) 0 ≡ slice_get (elements_of x) here.passed = element-ahead one here x s at in
    let f : slice_get (ahead other there) 0 ≡ slice_get (elements_of y) there.passed = element-ahead other there y t bt in
    ((λ u. e ∙ h.0 u ∙ sym f), (λ u. h.1 (sym e ∙ u ∙ f)))

item-at : (stack : List Source) (i : ℕ) → i < length stack → (x : Source) × (x ≡ get_or stack i x)
item-at [] i l = absurd (omega arith)
item-at (x ∷ stack) zero l = (x, refl)
item-at (x ∷ stack) (suc i) l = item-at stack i (omega arith)

-- where sources are ahead so is an element
sources-ahead : (stack : List Source) (place : Position) → IsSettled stack place → 0 < place.sources → 0 < length (ahead stack place)
sources-ahead stack place s some =
    let w : place.sources ≤ length stack = s.within in
    let at : (x : Source) × (x ≡ get_or stack (place.sources - 1) x) = item-at stack (place.sources - 1) (omega arith) in
    some-ahead stack place at.0 s (some, at.1)

none-ahead : (stack : List Source) (place : Position) → place.sources ≡ 0 → ahead stack place ≡ []
none-ahead stack place e = ap (λ n. drop place.passed (stack_elements (take n stack))) e ∙ drop_all place.passed [] (omega arith)

-- where nothing is ahead in one of two stacks, the same is ahead if nothing is in the other
pub end-tells : (one other : List Source) (here there : Position) → IsSettled one here → IsSettled other there → (here.sources ≤ 0) ⊎ (there.sources ≤ 0) → IsTrue (nat_eq here.sources there.sources) ↔ (ahead one here ≡ ahead other there)
end-tells one other here there s t over = elim (eqb_tells here.sources there.sources) [
  | inl p ↦
      let h : here.sources ≡ 0 = elim over [ inl l ↦ omega arith | inr l ↦ omega arith ] in
      let h' : there.sources ≡ 0 = omega arith in
      ((λ u. none-ahead one here h ∙ sym (none-ahead other there h')), (λ u. p.0))
  | inr p ↦ (
    (λ u. absurd (cc (u, p.0))),
    (λ u. elim over [
      | inl l ↦
          let h : here.sources ≡ 0 = omega arith in
          let some : 0 < there.sources = omega arith in
          let m : 0 < length (ahead other there) = sources-ahead other there t some in
          let n : length (ahead other there) ≡ 0 = ap length (sym u ∙ none-ahead one here h) in
          absurd (omega arith)
      | inr l ↦
          let h : there.sources ≡ 0 = omega arith in
          let some : 0 < here.sources = omega arith in
          let m : 0 < length (ahead one here) = sources-ahead one here s some in
          let n : length (ahead one here) ≡ 0 = ap length (u ∙ none-ahead other there h) in
          absurd (omega arith)
    ]),
  )
]

pub fewer-ahead : (stack : List Source) (place next : Position) → IsSettled stack place → 0 < place.sources → ahead stack next ≡ drop 1 (ahead stack place) → length (ahead stack next) < length (ahead stack place)
fewer-ahead stack place next s some e =
    let m : 0 < length (ahead stack place) = sources-ahead stack place s some in
    let l : length (ahead stack next) ≡ length (ahead stack place) - 1 = ap length e ∙ length-drop 1 (ahead stack place) in
    omega arith

-- the lower source follows where the last element of one is passed
pub beyond-source : (stack : List Source) (place : Position) (x : Source) → IsSettled stack place → IsAt stack place x → length (elements_of x) ≤ place.passed + 1 → ahead stack (record { sources = place.sources - 1; passed = 0 }) ≡ drop 1 (ahead stack place)
beyond-source stack place x s at all =
    lower-ahead stack (record { sources = place.sources; passed = place.passed + 1 }) x (next-place stack place s) at all ∙ next-ahead stack place

pub through : {p q r : Type 0} → (p ↔ q) → (r ↔ q) → r ↔ p
through a b = ((λ x. a.1 (b.0 x)), (λ x. b.1 (a.0 x)))
