-- The first bytes of an amount that leads near the corner may begin one.
use Rattle.std.proofs.Common.{◌≡◌, ℕ, zero, suc, ◌+◌, ◌*◌, ◌-◌, ◌^◌, ◌<◌, ◌≤◌, ◌==◌, ◌&&◌, ◌||◌, ◌⊎◌, nat_le, nat_lt, Bool, true, false, cond, ℤ, pos, negsuc, ◌+ℤ◌, ◌-ℤ◌, List, [], ◌∷◌, ◌++◌, length, refl, sym, ◌∙◌, inl, inr, arith}
use Rattle.std.proofs.lemmas.Bool.{and_from, and_parts, cases_lt, le-leb, leb-false, leb-true, or_left, cond-true, cond-false, lt-ltb, le-ltb}
use Rattle.std.proofs.lemmas.Int.{ints}
use Rattle.std.specs.Prelude.{unsigned_abs}
use Rattle.byteorder.specs.Endian.{big_number, twos_complement}
use Rattle.tx_dvi.specs.declared.placed.Registers.{Registers}
use Rattle.tx_dvi.specs.Meaning.{signed}
use Rattle.tx_dvitype.specs.Grammar.{AreBytes, IsNear}
use Rattle.tx_dvitype.specs.Partial.{is_within, is_near, padded, may_move}
use Rattle.tx_dvitype.proofs.Padding.{signed_padded}

-- near the corner, as the reader tests it
within-from : (z : ℤ) → unsigned_abs z < 2 ^ 31 → is_within z ≡ true
within-from (pos n) h = le-leb n 2147483647 (omega (arith, h))
within-from (negsuc n) h = λ i. le-leb n 2147483646 (omega (arith, h)) i && true

within-to : (z : ℤ) → is_within z ≡ true → unsigned_abs z < 2 ^ 31
within-to (pos n) e = let most : n ≤ 2147483647 = leb-true n 2147483647 e in omega (arith, most)
within-to (negsuc n) e = let most : n ≤ 2147483646 = leb-true n 2147483646 (and_parts (nat_le n 2147483646) true e).0 in omega (arith, most)

pub near-from : (now : Registers) → IsNear now → is_near now ≡ true
near-from now near = and_from (is_within now.h) (is_within now.v) (within-from now.h near.0) (within-from now.v near.1)

pub near-to : (now : Registers) → is_near now ≡ true → IsNear now
near-to now e = let parts = and_parts (is_within now.h) (is_within now.v) e in (within-to now.h parts.0, within-to now.v parts.1)

-- Of two places that are both too far off, with one between them that isn't, one lies on either side of the page.
out : (z : ℤ) → is_within z ≡ false → (2 ^ 31 ≤ unsigned_abs z)
out (pos n) e = let past : 2147483647 < n = leb-false n 2147483647 e in omega (arith, past)
out (negsuc n) e = by (nat_le n 2147483646) refl e
  where
    by : (b : Bool) → nat_le n 2147483646 ≡ b → (b && true) ≡ false → 2 ^ 31 ≤ suc n
    by true is f = absurd (let no : true ≡ false = f in cc)
    by false is f = let past : 2147483646 < n = leb-false n 2147483646 is in omega (arith, past)

spread : (p : ℤ) (c lo full hi : ℕ) → lo ≤ full → full ≤ hi → hi ≤ lo + 16777216 → is_within (p +ℤ (pos full -ℤ pos c)) ≡ true → (is_within (p +ℤ (pos lo -ℤ pos c)) || is_within (p +ℤ (pos hi -ℤ pos c))) ≡ true
spread p c lo full hi least most near within = by (is_within (p +ℤ (pos lo -ℤ pos c))) (is_within (p +ℤ (pos hi -ℤ pos c))) refl refl
  where
    there : unsigned_abs (p +ℤ (pos full -ℤ pos c)) < 2 ^ 31
    there = within-to (p +ℤ (pos full -ℤ pos c)) within

    apart : 2 ^ 31 ≤ unsigned_abs (p +ℤ (pos lo -ℤ pos c)) → 2 ^ 31 ≤ unsigned_abs (p +ℤ (pos hi -ℤ pos c)) → ⊥
    apart low high = omega (arith, ints, low, high, there, least, most, near)

    by : (a b : Bool) → is_within (p +ℤ (pos lo -ℤ pos c)) ≡ a → is_within (p +ℤ (pos hi -ℤ pos c)) ≡ b → (a || b) ≡ true
    by true b low high = refl
    by false true low high = refl
    by false false low high = absurd (apart (out (p +ℤ (pos lo -ℤ pos c)) low) (out (p +ℤ (pos hi -ℤ pos c)) high))

low-is : (n x : ℕ) → x < 2 ^ (8 * n - 1) → twos_complement n x ≡ pos x -ℤ pos 0
low-is n x h = cond-true (nat_lt x (2 ^ (8 * n - 1))) (pos x) (pos x -ℤ pos (2 ^ (8 * n))) (lt-ltb x (2 ^ (8 * n - 1)) h) ∙ (let same : pos x ≡ pos x -ℤ pos 0 = omega (arith, ints) in same)

high-is : (n x : ℕ) → 2 ^ (8 * n - 1) ≤ x → twos_complement n x ≡ pos x -ℤ pos (2 ^ (8 * n))
high-is n x h = cond-false (nat_lt x (2 ^ (8 * n - 1))) (pos x) (pos x -ℤ pos (2 ^ (8 * n))) (le-ltb x (2 ^ (8 * n - 1)) h)

spread-so : (p : ℤ) (n lo full hi : ℕ) → lo ≤ full → full ≤ hi → hi ≤ lo + 16777216 → (hi < 2 ^ (8 * n - 1)) ⊎ (2 ^ (8 * n - 1) ≤ lo) → is_within (p +ℤ twos_complement n full) ≡ true
    → (is_within (p +ℤ twos_complement n lo) || is_within (p +ℤ twos_complement n hi)) ≡ true
spread-so p n lo full hi least most near (inl low) within =
    (λ i. is_within (p +ℤ low-is n lo (omega (arith, low, least, most)) i) || is_within (p +ℤ low-is n hi low i))
    ∙ spread p 0 lo full hi least most near ((λ i. is_within (p +ℤ sym (low-is n full (omega (arith, low, most))) i)) ∙ within)
spread-so p n lo full hi least most near (inr high) within =
    (λ i. is_within (p +ℤ high-is n lo high i) || is_within (p +ℤ high-is n hi (omega (arith, high, least, most)) i))
    ∙ spread p (2 ^ (8 * n)) lo full hi least most near ((λ i. is_within (p +ℤ sym (high-is n full (omega (arith, high, least))) i)) ∙ within)

stays : (z : ℤ) → pos 0 +ℤ z ≡ z
stays z = omega (arith, ints)

module _ (p : ℤ) (here : is_within p ≡ true) where
  -- where no byte of it is there, an amount may be 0
  none-yet : (size : ℕ) → size ≤ 4 → signed size (0 ∷ 0 ∷ 0 ∷ 0 ∷ []) ≡ pos 0
  none-yet zero few = refl
  none-yet (suc zero) few = refl
  none-yet (suc (suc zero)) few = refl
  none-yet (suc (suc (suc zero))) few = refl
  none-yet (suc (suc (suc (suc zero)))) few = refl
  none-yet (suc (suc (suc (suc (suc size))))) few = absurd (omega (arith, few))

  no-byte : (size : ℕ) → size ≤ 4 → may_move p size [] ≡ true
  no-byte size few = by (size == 0)
    where
      zero-goes : is_within (p +ℤ signed size (0 ∷ 0 ∷ 0 ∷ 0 ∷ [])) ≡ true
      zero-goes = (λ i. is_within (p +ℤ none-yet size few i)) ∙ (let same : p +ℤ pos 0 ≡ p = omega (arith, ints) in λ i. is_within (same i)) ∙ here

      by : (b : Bool) → cond {A = Bool} b true (is_within (p +ℤ signed size (padded 0 [])) || is_within (p +ℤ signed size (padded 255 []))) ≡ true
      by true = refl
      by false = or_left (is_within (p +ℤ signed size (padded 0 []))) (is_within (p +ℤ signed size (padded 255 []))) zero-goes

  all-there : (size : ℕ) (bytes : List ℕ) → size ≤ 4 → is_within (p +ℤ signed size bytes) ≡ true → may_move p size bytes ≡ true
  all-there size bytes few within = by (size == 0)
    where
      by : (b : Bool) → cond {A = Bool} b true (is_within (p +ℤ signed size (padded 0 bytes)) || is_within (p +ℤ signed size (padded 255 bytes))) ≡ true
      by true = refl
      by false = or_left (is_within (p +ℤ signed size (padded 0 bytes))) (is_within (p +ℤ signed size (padded 255 bytes))) ((λ i. is_within (p +ℤ signed_padded size bytes few i)) ∙ within)

  one-two : (a b : ℕ) → b < 256 → is_within (p +ℤ signed 2 (a ∷ b ∷ [])) ≡ true → may_move p 2 (a ∷ []) ≡ true
  one-two a b fits within =
      spread-so p 2 (big_number 2 (a ∷ 0 ∷ 0 ∷ 0 ∷ [])) (big_number 2 (a ∷ b ∷ [])) (big_number 2 (a ∷ 255 ∷ 255 ∷ 255 ∷ [])) (omega arith) (omega (arith, fits)) (omega arith)
      (elim (cases_lt a 128) [ inl h ↦ inl (omega (arith, h)) | inr h ↦ inr (omega (arith, h)) ]) within

  one-three : (a b c : ℕ) → b < 256 → c < 256 → is_within (p +ℤ signed 3 (a ∷ b ∷ c ∷ [])) ≡ true → may_move p 3 (a ∷ []) ≡ true
  one-three a b c fits1 fits2 within =
      spread-so p 3 (big_number 3 (a ∷ 0 ∷ 0 ∷ 0 ∷ [])) (big_number 3 (a ∷ b ∷ c ∷ [])) (big_number 3 (a ∷ 255 ∷ 255 ∷ 255 ∷ [])) (omega arith) (omega (arith, fits1, fits2)) (omega arith)
      (elim (cases_lt a 128) [ inl h ↦ inl (omega (arith, h)) | inr h ↦ inr (omega (arith, h)) ]) within

  two-three : (a b c : ℕ) → b < 256 → c < 256 → is_within (p +ℤ signed 3 (a ∷ b ∷ c ∷ [])) ≡ true → may_move p 3 (a ∷ b ∷ []) ≡ true
  two-three a b c fits1 fits2 within =
      spread-so p 3 (big_number 3 (a ∷ b ∷ 0 ∷ 0 ∷ [])) (big_number 3 (a ∷ b ∷ c ∷ [])) (big_number 3 (a ∷ b ∷ 255 ∷ 255 ∷ [])) (omega arith) (omega (arith, fits1, fits2)) (omega arith)
      (elim (cases_lt a 128) [ inl h ↦ inl (omega (arith, h, fits1)) | inr h ↦ inr (omega (arith, h)) ]) within

  one-four : (a b c d : ℕ) → b < 256 → c < 256 → d < 256 → is_within (p +ℤ signed 4 (a ∷ b ∷ c ∷ d ∷ [])) ≡ true → may_move p 4 (a ∷ []) ≡ true
  one-four a b c d fits1 fits2 fits3 within =
      spread-so p 4 (big_number 4 (a ∷ 0 ∷ 0 ∷ 0 ∷ [])) (big_number 4 (a ∷ b ∷ c ∷ d ∷ [])) (big_number 4 (a ∷ 255 ∷ 255 ∷ 255 ∷ [])) (omega arith) (omega (arith, fits1, fits2, fits3)) (omega arith)
      (elim (cases_lt a 128) [ inl h ↦ inl (omega (arith, h)) | inr h ↦ inr (omega (arith, h)) ]) within

  two-four : (a b c d : ℕ) → b < 256 → c < 256 → d < 256 → is_within (p +ℤ signed 4 (a ∷ b ∷ c ∷ d ∷ [])) ≡ true → may_move p 4 (a ∷ b ∷ []) ≡ true
  two-four a b c d fits1 fits2 fits3 within =
      spread-so p 4 (big_number 4 (a ∷ b ∷ 0 ∷ 0 ∷ [])) (big_number 4 (a ∷ b ∷ c ∷ d ∷ [])) (big_number 4 (a ∷ b ∷ 255 ∷ 255 ∷ [])) (omega arith) (omega (arith, fits1, fits2, fits3)) (omega arith)
      (elim (cases_lt a 128) [ inl h ↦ inl (omega (arith, h, fits1)) | inr h ↦ inr (omega (arith, h)) ]) within

  three-four : (a b c d : ℕ) → b < 256 → c < 256 → d < 256 → is_within (p +ℤ signed 4 (a ∷ b ∷ c ∷ d ∷ [])) ≡ true → may_move p 4 (a ∷ b ∷ c ∷ []) ≡ true
  three-four a b c d fits1 fits2 fits3 within =
      spread-so p 4 (big_number 4 (a ∷ b ∷ c ∷ 0 ∷ [])) (big_number 4 (a ∷ b ∷ c ∷ d ∷ [])) (big_number 4 (a ∷ b ∷ c ∷ 255 ∷ [])) (omega arith) (omega (arith, fits1, fits2, fits3)) (omega arith)
      (elim (cases_lt a 128) [ inl h ↦ inl (omega (arith, h, fits1, fits2)) | inr h ↦ inr (omega (arith, h)) ]) within

  pub may-begin-amount : (done text : List ℕ) → AreBytes (done ++ text) → length (done ++ text) ≤ 4 → is_within (p +ℤ signed (length (done ++ text)) (done ++ text)) ≡ true → may_move p (length (done ++ text)) done ≡ true
  may-begin-amount [] text are few within = no-byte (length text) few
  may-begin-amount (a ∷ []) [] are few within = all-there 1 (a ∷ []) few within
  may-begin-amount (a ∷ []) (b ∷ []) are few within = one-two a b are.1.0 within
  may-begin-amount (a ∷ []) (b ∷ c ∷ []) are few within = one-three a b c are.1.0 are.1.1.0 within
  may-begin-amount (a ∷ []) (b ∷ c ∷ d ∷ []) are few within = one-four a b c d are.1.0 are.1.1.0 are.1.1.1.0 within
  may-begin-amount (a ∷ []) (b ∷ c ∷ d ∷ e ∷ text) are few within = absurd (omega (arith, few))
  may-begin-amount (a ∷ b ∷ []) [] are few within = all-there 2 (a ∷ b ∷ []) few within
  may-begin-amount (a ∷ b ∷ []) (c ∷ []) are few within = two-three a b c are.1.0 are.1.1.0 within
  may-begin-amount (a ∷ b ∷ []) (c ∷ d ∷ []) are few within = two-four a b c d are.1.0 are.1.1.0 are.1.1.1.0 within
  may-begin-amount (a ∷ b ∷ []) (c ∷ d ∷ e ∷ text) are few within = absurd (omega (arith, few))
  may-begin-amount (a ∷ b ∷ c ∷ []) [] are few within = all-there 3 (a ∷ b ∷ c ∷ []) few within
  may-begin-amount (a ∷ b ∷ c ∷ []) (d ∷ []) are few within = three-four a b c d are.1.0 are.1.1.0 are.1.1.1.0 within
  may-begin-amount (a ∷ b ∷ c ∷ []) (d ∷ e ∷ text) are few within = absurd (omega (arith, few))
  may-begin-amount (a ∷ b ∷ c ∷ d ∷ []) [] are few within = all-there 4 (a ∷ b ∷ c ∷ d ∷ []) few within
  may-begin-amount (a ∷ b ∷ c ∷ d ∷ []) (e ∷ text) are few within = absurd (omega (arith, few))
  may-begin-amount (a ∷ b ∷ c ∷ d ∷ e ∷ done) text are few within = absurd (omega (arith, few))
