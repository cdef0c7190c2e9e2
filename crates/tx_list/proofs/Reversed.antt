-- Lists from their other end.
use Rattle.std.proofs.Common.{◌≡◌, ℕ, suc, ◌-◌, ◌<◌, List, [], ◌∷◌, ◌++◌, drop, length, get_or, set, Option, None, Some, refl, sym, ap, ◌∙◌, arith}
use Rattle.std.specs.Prelude.{reverse, slice_get, MatchOption}
use Rattle.std.proofs.lemmas.List.{reverse-reverse, reverse-append, length-reverse}

pub same-reversed : {A : Type 0} (xs ys : List A) → reverse xs ≡ reverse ys → xs ≡ ys
same-reversed xs ys e = sym (reverse-reverse xs) ∙ (ap reverse e ∙ reverse-reverse ys)

pub none-reversed : {A : Type 0} (xs : List A) → reverse xs ≡ [] → xs ≡ []
none-reversed xs e = sym (reverse-reverse xs) ∙ ap reverse e

first-before : {A : Type 0} (xs ys : List A) → 0 < length xs → slice_get xs 0 ≡ slice_get (xs ++ ys) 0
first-before [] ys h = absurd (omega (arith, h))
first-before (x ∷ xs) ys h = refl

-- the last value is the first from the other end
pub first-reversed : {A : Type 0} (xs : List A) → slice_get xs (length xs - 1) ≡ slice_get (reverse xs) 0
first-reversed [] = refl
first-reversed (x ∷ []) = refl
first-reversed (x ∷ y ∷ xs) =
    let e : length (x ∷ y ∷ xs) - 1 ≡ suc (length (y ∷ xs) - 1) = omega arith in
    ap (slice_get (x ∷ y ∷ xs)) e
    ∙ first-reversed (y ∷ xs)
    ∙ (first-before (reverse (y ∷ xs)) (x ∷ []) (omega (arith, length-reverse (y ∷ xs)))
    ∙ ap (λ ys. slice_get ys 0) (sym (reverse-append (x ∷ []) (y ∷ xs))))

before-first : {A : Type 0} (xs ys : List A) (d : A) → 0 < length xs → get_or xs 0 d ≡ get_or (xs ++ ys) 0 d
before-first [] ys d h = absurd (omega (arith, h))
before-first (x ∷ xs) ys d h = refl

pub first-value : {A : Type 0} (xs : List A) (d : A) → get_or xs (length xs - 1) d ≡ get_or (reverse xs) 0 d
first-value [] d = refl
first-value (x ∷ []) d = refl
first-value (x ∷ y ∷ xs) d =
    let e : length (x ∷ y ∷ xs) - 1 ≡ suc (length (y ∷ xs) - 1) = omega arith in
    ap (λ (k : ℕ). get_or (x ∷ y ∷ xs) k d) e
    ∙ first-value (y ∷ xs) d
    ∙ (before-first (reverse (y ∷ xs)) (x ∷ []) d (omega (arith, length-reverse (y ∷ xs)))
    ∙ ap (λ ys. get_or ys 0 d) (sym (reverse-append (x ∷ []) (y ∷ xs))))

set-before : {A : Type 0} (xs ys : List A) (w : A) → 0 < length xs → set xs 0 w ++ ys ≡ set (xs ++ ys) 0 w
set-before [] ys w h = absurd (omega (arith, h))
set-before (x ∷ xs) ys w h = refl

-- another last value is another first one from the other end
pub first-set : {A : Type 0} (xs : List A) (w : A) → 0 < length xs → reverse (set xs (length xs - 1) w) ≡ set (reverse xs) 0 w
first-set [] w h = absurd (omega (arith, h))
first-set (x ∷ []) w h = refl
first-set (x ∷ y ∷ xs) w h =
    let e : length (x ∷ y ∷ xs) - 1 ≡ suc (length (y ∷ xs) - 1) = omega arith in
    ap (λ (k : ℕ). reverse (set (x ∷ y ∷ xs) k w)) e
    ∙ reverse-append (x ∷ []) (set (y ∷ xs) (length (y ∷ xs) - 1) w)
    ∙ (ap (λ zs. zs ++ x ∷ []) (first-set (y ∷ xs) w (omega arith))
    ∙ (set-before (reverse (y ∷ xs)) (x ∷ []) w (omega (arith, length-reverse (y ∷ xs)))
    ∙ ap (λ zs. set zs 0 w) (sym (reverse-append (x ∷ []) (y ∷ xs)))))

-- without the last value, the first one from the other end is gone
pub rest-reversed : {A : Type 0} (popped : Option A) (xs new : List A) → MatchOption popped ((xs ≡ []) × (new ≡ [])) (λ value. xs ≡ new ++ value ∷ []) → reverse new ≡ drop 1 (reverse xs)
rest-reversed None xs new k = ap reverse k.1 ∙ sym (ap (λ zs. drop 1 (reverse zs)) k.0)
rest-reversed (Some value) xs new k = sym (ap (λ zs. drop 1 (reverse zs)) k ∙ ap (λ zs. drop 1 zs) (reverse-append new (value ∷ [])))
