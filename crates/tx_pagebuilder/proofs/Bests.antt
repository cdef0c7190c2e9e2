-- The best break is the last one of least cost among all that were legal.
use Rattle.std.proofs.Common.{◌≡◌, ℤ, ◌<ℤ◌, ◌≤ℤ◌, Bool, true, false, cond, List, [], ◌∷◌, ◌++◌, fold, Option, Some, None, refl, sym, ap, subst, ◌∙◌, arith, append_assoc, append-nil}
use Rattle.std.proofs.lemmas.Int.{ints}
use Rattle.std.specs.Prelude.{int_le}
use Rattle.tx_insert.specs.declared.trial.Break.{Break}
use Rattle.tx_insert.specs.Breaks.{better}
use Rattle.tx_pagebuilder.specs.Histories.{NoneCheaper, AllDearer, IsLastLeast, IsBest, had, best_over}

le-by : (a b : ℤ) → int_le a b ≡ true → a ≤ℤ b
le-by a b h = first_of (grind (arith, ints), omega (arith, ints, h))

lt-by : (a b : ℤ) → int_le a b ≡ false → b <ℤ a
lt-by a b h = first_of (grind (arith, ints), omega (arith, ints, h))

le-trans : (a b c : ℤ) → a ≤ℤ b → b ≤ℤ c → a ≤ℤ c
le-trans a b c h k = omega (arith, ints, h, k)

lt-le : (a b : ℤ) → a <ℤ b → a ≤ℤ b
lt-le a b h = omega (arith, ints, h)

-- what costs no less than a break costs no less than a cheaper one
cheaper-than : (a b : ℤ) (breaks : List Break) → a ≤ℤ b → NoneCheaper b breaks → NoneCheaper a breaks
cheaper-than a b [] h none = tt
cheaper-than a b (made ∷ breaks) h none = (le-trans a b made.cost h none.0, cheaper-than a b breaks h none.1)

dearer-than : (a b : ℤ) (breaks : List Break) → a ≤ℤ b → AllDearer b breaks → NoneCheaper a breaks
dearer-than a b [] h all = tt
dearer-than a b (made ∷ breaks) h all = (le-trans a b made.cost h (lt-le b made.cost all.0), dearer-than a b breaks h all.1)

cheaper-joined : (a : ℤ) (xs ys : List Break) → NoneCheaper a xs → NoneCheaper a ys → NoneCheaper a (xs ++ ys)
cheaper-joined a [] ys some more = more
cheaper-joined a (x ∷ xs) ys some more = (some.0, cheaper-joined a xs ys some.1 more)

dearer-joined : (a : ℤ) (xs ys : List Break) → AllDearer a xs → AllDearer a ys → AllDearer a (xs ++ ys)
dearer-joined a [] ys some more = more
dearer-joined a (x ∷ xs) ys some more = (some.0, dearer-joined a xs ys some.1 more)

-- one break more: it is the best one from then on, or dearer
last-by : (before : List Break) (best : Break) (behind : List Break) (later : Break) (rest : List Break) (b : Bool)
    → int_le later.cost best.cost ≡ b
    → (later.cost ≤ℤ best.cost → IsLastLeast (fold better later rest) (((before ++ best ∷ behind) ++ later ∷ []) ++ rest))
    → (best.cost <ℤ later.cost → IsLastLeast (fold better best rest) ((before ++ best ∷ (behind ++ later ∷ [])) ++ rest))
    → IsLastLeast (fold better (cond b later best) rest) ((before ++ best ∷ behind) ++ later ∷ rest)
last-by before best behind later rest true is cheap dear =
    subst (λ (xs : List Break). IsLastLeast (fold better later rest) xs)
    (append_assoc (before ++ best ∷ behind) (later ∷ []) rest)
    (cheap (le-by later.cost best.cost is))
last-by before best behind later rest false is cheap dear =
    subst (λ (xs : List Break). IsLastLeast (fold better best rest) xs)
    (ap (λ (xs : List Break). xs ++ rest) (sym (append_assoc before (best ∷ behind) (later ∷ []))) ∙ append_assoc (before ++ best ∷ behind) (later ∷ []) rest)
    (dear (lt-by later.cost best.cost is))

-- a break that is the last one of least cost so far, and more of them behind it
last-from : (before : List Break) (best : Break) (behind rest : List Break) → NoneCheaper best.cost before → AllDearer best.cost behind
    → IsLastLeast (fold better best rest) ((before ++ best ∷ behind) ++ rest)
last-from before best behind [] none all =
    record {
      before = before;
      behind = behind;
      among = append-nil (before ++ best ∷ behind);
      none_cheaper = none;
      all_dearer = all;
    }
last-from before best behind (later ∷ rest) none all =
    last-by before best behind later rest (int_le later.cost best.cost) refl
    (λ h. last-from (before ++ best ∷ behind) later [] rest
    (cheaper-joined later.cost before (best ∷ behind) (cheaper-than later.cost best.cost before h none) (h, dearer-than later.cost best.cost behind h all))
    tt)
    (λ h. last-from before best (behind ++ later ∷ []) rest none (dearer-joined best.cost behind (later ∷ []) all (h, tt)))

last-least : (best : Break) (rest : List Break) → IsLastLeast (fold better best rest) (best ∷ rest)
last-least best rest = last-from [] best [] rest tt tt

-- so the best break of a page is the best of the one that it had and those that came
over-some : (best : Break) (rest : List Break) → best_over (Some best) rest ≡ Some (fold better best rest)
over-some best [] = refl
over-some best (later ∷ rest) = over-some (better best later) rest

over-none : (first : Break) (rest : List Break) → best_over None (first ∷ rest) ≡ Some (fold better first rest)
over-none first rest = over-some first rest

pub is-best : (breaks : List Break) → IsBest (best_over None breaks) breaks
is-best [] = refl
is-best (first ∷ rest) = subst (λ (best : Option Break). IsBest best (first ∷ rest)) (sym (over-none first rest)) (last-least first rest)

pub over-had : (best : Option Break) (breaks : List Break) → best_over best breaks ≡ best_over None (had best ++ breaks)
over-had None breaks = refl
over-had (Some best) breaks = refl
