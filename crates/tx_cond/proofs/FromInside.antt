-- Lists counted from their other end.
use Rattle.std.proofs.Common.{◌≡◌, ℕ, zero, suc, ◌+◌, ◌-◌, ◌<◌, ◌≤◌, List, [], ◌∷◌, ◌++◌, drop, length, get_or, set, None, Some, refl, sym, ◌∙◌, ap, arith}
use Rattle.std.specs.Prelude.{reverse, slice_get}
use Rattle.std.proofs.lemmas.List.{get_or-reverse, length-reverse, reverse-append, set-append_left, set-append_right}
use Rattle.std.proofs.lemmas.Option.{slice_get-get_or}

pub get-from_inside : {A : Type 0} (xs : List A) (k : ℕ) (x : A) → k < length xs → x ≡ get_or xs (length xs - 1 - k) x → Some x ≡ slice_get (reverse xs) k
get-from_inside xs k x h at = sym (slice_get-get_or (reverse xs) k x (omega (arith, length-reverse xs)) ∙ ap Some (get_or-reverse xs k x h ∙ sym at))

none-past : {A : Type 0} (xs : List A) (k : ℕ) → length xs ≤ k → None ≡ slice_get xs k
none-past [] k h = refl
none-past (x ∷ xs) zero h = absurd (omega (arith, h))
none-past (x ∷ xs) (suc k) h = none-past xs k (omega (arith, h))

pub none-from_inside : {A : Type 0} (xs : List A) (k : ℕ) → length xs ≤ k → None ≡ slice_get (reverse xs) k
none-from_inside xs k h = none-past (reverse xs) k (omega (arith, length-reverse xs))

set-by : {A : Type 0} (xs : List A) (i k : ℕ) (w : A) → i + k + 1 ≡ length xs → reverse (set xs i w) ≡ set (reverse xs) k w
set-by [] i k w e = absurd (omega (arith, e))
set-by (x ∷ xs) zero k w e =
    let last : k - length xs ≡ 0 = omega (arith, e) in
    reverse-append (w ∷ []) xs
    ∙ sym (ap (λ ys. set ys k w) (reverse-append (x ∷ []) xs)
    ∙ set-append_right (reverse xs) (x ∷ []) (length xs) k w (length-reverse xs) (omega (arith, e))
    ∙ ap (λ (n : ℕ). reverse xs ++ set (x ∷ []) n w) last)
set-by (x ∷ xs) (suc i) k w e =
    reverse-append (x ∷ []) (set xs i w)
    ∙ ap (λ ys. ys ++ x ∷ []) (set-by xs i k w (omega (arith, e)))
    ∙ sym (ap (λ ys. set ys k w) (reverse-append (x ∷ []) xs)
    ∙ set-append_left (reverse xs) (x ∷ []) k w (omega (arith, e, length-reverse xs)))

pub set-from_inside : {A : Type 0} (xs : List A) (k : ℕ) (w : A) → k < length xs → reverse (set xs (length xs - 1 - k) w) ≡ set (reverse xs) k w
set-from_inside xs k w h = set-by xs (length xs - 1 - k) k w (omega arith)

pub set-first : {A : Type 0} (xs : List A) (w : A) → 0 < length xs → set xs 0 w ≡ w ∷ drop 1 xs
set-first [] w h = absurd (omega (arith, h))
set-first (x ∷ xs) w h = refl
