-- The places in a body stay in order where something is put at its end.
use Rattle.std.proofs.Common.{◌≡◌, ℕ, ◌≤◌, List, [], ◌∷◌, ◌++◌, length, Result, Ok, Err, OnOk, OnErr, arith, subst, sym, length-append, ap}
use Rattle.tx_char.specs.declared.tokens.Token.{Token}
use Rattle.tx_toklist.specs.declared.body.Slot.{Slot}
use Rattle.tx_toklist.specs.Bodies.{ArePlaced}

placed-longer : (from n m : ℕ) (slots : List Slot) → n ≤ m → ArePlaced from n slots → ArePlaced from m slots
placed-longer from n m [] le placed = tt
placed-longer from n m (slot ∷ slots) le placed = (placed.0, (omega (arith, placed.1.0), placed-longer slot.before n m slots le placed.1.1))

placed-push : (from n number : ℕ) (slots : List Slot) → from ≤ n → ArePlaced from n slots → ArePlaced from n (slots ++ record { before = n; number = number } ∷ [])
placed-push from n number [] le placed = (le, (omega arith, tt))
placed-push from n number (slot ∷ slots) le placed = (placed.0, (placed.1.0, placed-push slot.before n number slots placed.1.0 placed.1.1))

pub placed-token : {T E : Type 0} (r : Result T E) (old new : List Token) (token : Token) (slots : List Slot) → OnOk r (new ≡ old ++ token ∷ []) → OnErr r (new ≡ old) → ArePlaced 0 (length old) slots → ArePlaced 0 (length new) slots
placed-token (Ok v) old new token slots ok err placed = placed-longer 0 (length old) (length new) slots (omega (arith, ap length ok, length-append {A = Token})) placed
placed-token (Err e) old new token slots ok err placed = placed-longer 0 (length old) (length new) slots (omega (arith, ap length err)) placed

pub placed-tokens : {T E : Type 0} (r : Result T E) (old new more others : List Token) (slots : List Slot) → OnOk r ((new ≡ old ++ more) × (others ≡ [])) → OnErr r ((new ≡ old) × (others ≡ more)) → ArePlaced 0 (length old) slots → ArePlaced 0 (length new) slots
placed-tokens (Ok v) old new more others slots ok err placed = placed-longer 0 (length old) (length new) slots (omega (arith, ap length ok.0, length-append {A = Token})) placed
placed-tokens (Err e) old new more others slots ok err placed = placed-longer 0 (length old) (length new) slots (omega (arith, ap length err.0)) placed

pub placed-argument : {T E : Type 0} (r : Result T E) (n number : ℕ) (old new : List Slot) → OnOk r (new ≡ old ++ record { before = n; number = number } ∷ []) → OnErr r (new ≡ old) → ArePlaced 0 n old → ArePlaced 0 n new
placed-argument (Ok v) n number old new ok err placed = subst (λ (slots : List Slot). ArePlaced 0 n slots) (sym ok) (placed-push 0 n number old (omega arith) placed)
placed-argument (Err e) n number old new ok err placed = subst (λ (slots : List Slot). ArePlaced 0 n slots) (sym err) placed
