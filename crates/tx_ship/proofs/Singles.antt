-- A byte that is a command by itself and moves nothing is written as it stands.
use Rattle.std.proofs.Common.{◌≡◌, ◌==◌, ℕ, ◌-◌, ◌<◌, ◌≤◌, Bool, true, false, cond, nat_lt, ◌||◌, List, [], ◌∷◌, ◌++◌, Option, Some, refl, sym, ap, ◌∙◌, arith, ◌⊎◌, inl, inr}
use Rattle.std.proofs.lemmas.Bool.{and_left, and_right, lt-leb, ne_eqb, leb-true, ltb-true}
use Rattle.tx_dvi.specs.Meaning.{operands, is_font_number}
use Rattle.tx_ship.specs.Registers.{Writer, copied, pushing, popping, is_right, is_down, moved_right, moved_down, once_there, other, write}
use Rattle.tx_ship.proofs.Steps.{both}
use Rattle.tx_ship.proofs.Turns.{at}

-- which numbers these bytes have
is-single : (byte : ℕ) → (nat_lt byte 128 || is_font_number byte) ≡ true → (byte < 128) ⊎ (171 ≤ byte)
is-single byte e = by (nat_lt byte 128) refl e
  where
    by : (b : Bool) → nat_lt byte 128 ≡ b → (b || is_font_number byte) ≡ true → (byte < 128) ⊎ (171 ≤ byte)
    by true f g = inl (ltb-true _ _ f)
    by false f g = inr (leb-true _ _ (both g).0)

no-right : (byte : ℕ) → (byte < 128) ⊎ (171 ≤ byte) → is_right byte ≡ false
no-right byte (inl low) = and_left _ _ (lt-leb 143 byte (omega (arith, low)))
no-right byte (inr high) = and_right _ _ (lt-leb byte 146 (omega (arith, high)))

no-down : (byte : ℕ) → (byte < 128) ⊎ (171 ≤ byte) → is_down byte ≡ false
no-down byte (inl low) = and_left _ _ (lt-leb 157 byte (omega (arith, low)))
no-down byte (inr high) = and_right _ _ (lt-leb byte 160 (omega (arith, high)))

no-push : (byte : ℕ) → (byte < 128) ⊎ (171 ≤ byte) → (byte == 141) ≡ false
no-push byte (inl low) = ne_eqb byte 141 (λ e. omega (arith, low, e))
no-push byte (inr high) = ne_eqb byte 141 (λ e. omega (arith, high, e))

no-pop : (byte : ℕ) → (byte < 128) ⊎ (171 ≤ byte) → (byte == 142) ≡ false
no-pop byte (inl low) = ne_eqb byte 142 (λ e. omega (arith, low, e))
no-pop byte (inr high) = ne_eqb byte 142 (λ e. omega (arith, high, e))

pub single-taken : (w : Writer) (byte : ℕ) → (nat_lt byte 128 || is_font_number byte) ≡ true → write (at [] w) byte ≡ record w { begun = []; made = w.made ++ byte ∷ [] }
single-taken w byte e =
    let next : Writer = at (byte ∷ []) w in
    let sort : (byte < 128) ⊎ (171 ≤ byte) = is-single byte e in
    let tested : Bool → Bool → Bool → Bool → Writer = λ r d s p.
    cond {A = Writer} r (once_there (byte - 142) (moved_right byte) next)
    (cond {A = Writer} d (once_there (byte - 156) (moved_down byte) next) (cond {A = Writer} s (copied (pushing next)) (cond {A = Writer} p (copied (popping next.pushed next)) (other (operands byte (byte ∷ [])) next)))) in
    let tests : write (at [] w) byte ≡ tested false false false false = λ i. tested (no-right byte sort i) (no-down byte sort i) (no-push byte sort i) (no-pop byte sort i) in
    let whole : operands byte (byte ∷ []) ≡ Some 0 = single-operands byte e in
    tests ∙ ap (λ (x : Option ℕ). other x next) whole
  where
    single-operands : (byte : ℕ) → (nat_lt byte 128 || is_font_number byte) ≡ true → operands byte (byte ∷ []) ≡ Some 0
    single-operands byte e = rw e refl

-- in the form in which the code does it
pub single_written : (w : Writer) (byte : ℕ) {made : List ℕ} → w.begun ≡ [] → (nat_lt byte 128 || is_font_number byte) ≡ true → made ≡ w.made ++ byte ∷ [] → record w { made = made } ≡ write w byte
single_written w byte {made} none e is =
    (λ i. record w { begun = none i; made = is i }) ∙ sym (single-taken w byte e) ∙ (λ i. write (at (sym none i) w) byte)
