-- The digits that a size is written with read back as it, and no fewer do.
use Rattle.std.proofs.Common.{◌≡◌, ℕ, zero, suc, ◌+◌, ◌*◌, ◌/◌, ◌%◌, ◌^◌, ◌≤◌, ◌<◌, inl, inr, Bool, true, false, eq-eqb, cond, ℤ, unsigned_abs, List, [], ◌∷◌, ◌++◌, length, refl, sym, ap, ◌∙◌, subst, arith, length-append, append_assoc}
use Rattle.std.specs.Str.Parse.{digits_value, AllDigits}
use Rattle.std.specs.Char.{digit_value}
use Rattle.std.proofs.lemmas.Int.Digits.{digits_value_push, digits_push}
use Rattle.std.proofs.lemmas.Str.{digit_value_digit}
use Rattle.std.proofs.lemmas.List.{take_all}
use Rattle.std.proofs.lemmas.Bool.{false≢true, cases_lt}
use Rattle.std.proofs.Math.Nat.{div-mul-le_self, lt-div-mul-add, div-eq_of_lt-le, mul-le-mul_right, one-le-pow, pow-le-pow_right, pow-suc, div-add-mod'}
use Rattle.tx_num.specs.Fractions.{nearest}
use Rattle.tx_num.specs.Decimals.{fraction_of, to_places, stands_for, places_of, spelled, scaled_text_of, IsShortest}

-- a quotient lies between its bounds
nearest-bounds : (a b : ℕ) → 0 < b → (nearest a b * (2 * b) ≤ 2 * a + b) × (2 * a + b < nearest a b * (2 * b) + 2 * b)
nearest-bounds a b h = (div-mul-le_self (2 * a + b) (2 * b), lt-div-mul-add {a = 2 * a + b} {b = 2 * b} (omega arith))

nearest-between : (a b k : ℕ) → k * (2 * b) ≤ 2 * a + b → 2 * a + b < k * (2 * b) + 2 * b → nearest a b ≡ k
nearest-between a b k h j = div-eq_of_lt-le {k = k} (2 * b) {m = 2 * a + b} h (omega arith)

-- at most four places: the number of them that stands for f is f to that many places
only : (p n f : ℕ) → 0 < p → p ≤ 10000 → nearest (65536 * n) p ≡ f → nearest (p * f) 65536 ≡ n
only p n f some few e =
    let b = nearest-bounds (65536 * n) p some in
    let low : f * (2 * p) ≤ 2 * (65536 * n) + p = subst (λ q. q * (2 * p) ≤ 2 * (65536 * n) + p) e b.0 in
    let high : 2 * (65536 * n) + p < f * (2 * p) + 2 * p = subst (λ q. 2 * (65536 * n) + p < q * (2 * p) + 2 * p) e b.1 in
    nearest-between (p * f) 65536 n (omega arith) (omega arith)

-- five places always stand for f
five : (f : ℕ) → nearest (65536 * nearest (100000 * f) 65536) 100000 ≡ f
five f =
    let b = nearest-bounds (100000 * f) 65536 (omega arith) in
    nearest-between (65536 * nearest (100000 * f) 65536) 100000 f (omega arith) (omega arith)

-- what stands for less than a whole point has no digit before the point
below : (p n f : ℕ) → 0 < p → f < 65536 → nearest (65536 * n) p ≡ f → n < p
below p n f some small e =
    let b = nearest-bounds (65536 * n) p some in
    let high : 2 * (65536 * n) + p < f * (2 * p) + 2 * p = subst (λ q. 2 * (65536 * n) + p < q * (2 * p) + 2 * p) e b.1 in
    omega (arith, mul-le-mul_right {m = f} {n = 65535} (2 * p) (omega arith))

pub length-spelled : (k n : ℕ) → length (spelled k n) ≡ k
length-spelled zero n = refl
length-spelled (suc k) n =
    length-append (spelled k (n / 10)) ((48 + n % 10) ∷ []) ∙ omega (arith, length-spelled k (n / 10))

digit : (n : ℕ) → digit_value (48 + n % 10) ≡ n % 10
digit n = omega (arith, digit_value_digit (48 + n % 10) (omega arith, omega arith))

digits-spelled : (k n : ℕ) → AllDigits 10 (spelled k n)
digits-spelled zero n = tt
digits-spelled (suc k) n = digits_push 10 (spelled k (n / 10)) (48 + n % 10) (digits-spelled k (n / 10)) (omega (arith, digit n))

value-spelled : (k n : ℕ) → n < 10 ^ k → digits_value 10 (spelled k n) ≡ n
value-spelled zero n h = omega arith
value-spelled (suc k) n h =
    digits_value_push 10 (spelled k (n / 10)) (48 + n % 10)
    ∙ omega (arith, value-spelled k (n / 10) (omega (arith, pow-suc 10 k)), digit n, div-add-mod' n 10)

-- up to seventeen digits all count
fraction_of-short : (ds : List ℕ) → length ds ≤ 17 → fraction_of ds ≡ nearest (65536 * digits_value 10 ds) (10 ^ length ds)
fraction_of-short ds h = ap (λ (xs : List ℕ). nearest (65536 * digits_value 10 xs) (10 ^ length xs)) (take_all 17 ds h)

-- that many places stand for f, and no fewer do
record IsLeast (f k : ℕ) : Type 0 where
  pub some : 1 ≤ k
  pub few : k ≤ 5
  pub stands : nearest (65536 * to_places k f) (10 ^ k) ≡ f
  pub least : (j : ℕ) → 1 ≤ j → j < k → stands_for f j ≡ true → ⊥

misses : (f k : ℕ) → k ≤ 5 → (1 < k → stands_for f 1 ≡ false) → (2 < k → stands_for f 2 ≡ false) → (3 < k → stands_for f 3 ≡ false) → (4 < k → stands_for f 4 ≡ false) → (j : ℕ) → 1 ≤ j → j < k → stands_for f j ≡ true → ⊥
misses f k few a b c d zero p q e = omega arith
misses f k few a b c d (suc zero) p q e = false≢true (sym (a q) ∙ e)
misses f k few a b c d (suc (suc zero)) p q e = false≢true (sym (b q) ∙ e)
misses f k few a b c d (suc (suc (suc zero))) p q e = false≢true (sym (c q) ∙ e)
misses f k few a b c d (suc (suc (suc (suc zero)))) p q e = false≢true (sym (d q) ∙ e)
misses f k few a b c d (suc (suc (suc (suc (suc j))))) p q e = omega arith

stands : (f k : ℕ) → stands_for f k ≡ true → nearest (65536 * to_places k f) (10 ^ k) ≡ f
stands f k e = grind arith

choice : (f : ℕ) (a b c d : Bool) → stands_for f 1 ≡ a → stands_for f 2 ≡ b → stands_for f 3 ≡ c → stands_for f 4 ≡ d → IsLeast f (cond a 1 (cond b 2 (cond c 3 (cond d 4 5))))
choice f true b c d ea eb ec ed =
    record { some = omega arith; few = omega arith; stands = stands f 1 ea; least = misses f 1 (omega arith) (λ h. absurd (omega arith)) (λ h. absurd (omega arith)) (λ h. absurd (omega arith)) (λ h. absurd (omega arith)) }
choice f false true c d ea eb ec ed =
    record { some = omega arith; few = omega arith; stands = stands f 2 eb; least = misses f 2 (omega arith) (λ h. ea) (λ h. absurd (omega arith)) (λ h. absurd (omega arith)) (λ h. absurd (omega arith)) }
choice f false false true d ea eb ec ed =
    record { some = omega arith; few = omega arith; stands = stands f 3 ec; least = misses f 3 (omega arith) (λ h. ea) (λ h. eb) (λ h. absurd (omega arith)) (λ h. absurd (omega arith)) }
choice f false false false true ea eb ec ed =
    record { some = omega arith; few = omega arith; stands = stands f 4 ed; least = misses f 4 (omega arith) (λ h. ea) (λ h. eb) (λ h. ec) (λ h. absurd (omega arith)) }
choice f false false false false ea eb ec ed =
    record { some = omega arith; few = omega arith; stands = five f; least = misses f 5 (omega arith) (λ h. ea) (λ h. eb) (λ h. ec) (λ h. ed) }

places-least : (f : ℕ) → IsLeast f (places_of f)
places-least f = choice f (stands_for f 1) (stands_for f 2) (stands_for f 3) (stands_for f 4) refl refl refl refl

-- no more than 10^4 of the last place make a point of up to four places
power-few : (j : ℕ) → j ≤ 4 → 10 ^ j ≤ 10000
power-few j h = pow-le-pow_right {n = 10} (omega arith) {i = j} {j = 4} h

-- digits of fewer places do not stand for f
fewer : (f k : ℕ) → IsLeast f k → (ds : List ℕ) → 1 ≤ length ds → fraction_of ds ≡ f → k ≤ length ds
fewer f k least ds some e =
    elim (cases_lt k (length ds + 1)) [ inl h ↦ omega arith | inr h ↦ absurd (no h) ]
  where
    no : length ds + 1 ≤ k → ⊥
    no h =
        let short : length ds ≤ 4 = omega (arith, least.few) in
        let n = digits_value 10 ds in
        let p = 10 ^ length ds in
        let read : nearest (65536 * n) p ≡ f = sym (fraction_of-short ds (omega arith)) ∙ e in
        let same : to_places (length ds) f ≡ n = only p n f (one-le-pow (length ds) 10 (omega arith)) (power-few (length ds) short) read in
        least.least (length ds) some (omega arith) (eq-eqb _ _ (ap (λ m. nearest (65536 * m) p) same ∙ read))

pub IsShortest-text : (z : ℤ) → IsShortest z (scaled_text_of z)
IsShortest-text z =
    let f = unsigned_abs z % 65536 in
    let k = places_of f in
    let n = to_places k f in
    let least = places-least f in
    let small : n < 10 ^ k = below (10 ^ k) n f (one-le-pow k 10 (omega arith)) (omega arith) least.stands in
    let short : length (spelled k n) ≤ 17 = omega (arith, length-spelled k n, least.few) in
    record {
      digits = spelled k n;
      parts = refl;
      some = omega (arith, length-spelled k n, least.some);
      are_digits = digits-spelled k n;
      stand_for = fraction_of-short (spelled k n) short
          ∙ rw (value-spelled k n small, length-spelled k n) least.stands;
      fewest = λ others some digits e. rw (length-spelled k n) (fewer f k least others some e);
    }

-- a text that is put together part by part
pub assembled : (t t1 t2 t3 t4 sign whole digits : List ℕ) → t ≡ [] → t1 ≡ t ++ sign → t2 ≡ t1 ++ whole → t3 ≡ t2 ++ 46 ∷ [] → t4 ≡ t3 ++ digits → t4 ≡ sign ++ whole ++ 46 ∷ digits
assembled t t1 t2 t3 t4 sign whole digits e e1 e2 e3 e4 = e4 ∙ rw (e3, e2, e1, e) (append_assoc (sign ++ whole) (46 ∷ []) digits)
