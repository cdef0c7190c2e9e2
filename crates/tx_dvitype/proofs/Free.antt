-- Where fewer than 256 fonts are defined, another byte is the number of none.
use Rattle.std.proofs.Common.{◌≡◌, ℕ, zero, suc, ◌<◌, ◌≤◌, ◌==◌, ◌||◌, Bool, true, false, cond, List, [], ◌∷◌, length, refl, sym, ◌∙◌, arith}
use Rattle.std.proofs.lemmas.Bool.{eqb-true, ne_eqb, or_parts, or_from}
use Rattle.tx_dvi.specs.Meaning.{is_known}

-- the numbers but one
abbrev others : ℕ → List ℕ → List ℕ
others number [] = []
others number (k ∷ known) = cond (k == number) (others number known) (k ∷ others number known)

no-more : (number : ℕ) (known : List ℕ) → length (others number known) ≤ length known
no-more number [] = omega arith
no-more number (k ∷ known) = by (no-more number known) (k == number)
  where
    by : length (others number known) ≤ length known → (b : Bool) → length (cond {A = List ℕ} b (others number known) (k ∷ others number known)) ≤ suc (length known)
    by h true = omega (arith, h)
    by h false = omega (arith, h)

fewer : (number : ℕ) (known : List ℕ) → is_known number known ≡ true → length (others number known) < length known
fewer number [] e = absurd (let no : false ≡ true = e in cc)
fewer number (k ∷ known) e = by (fewer number known) (k == number) e
  where
    by : (is_known number known ≡ true → length (others number known) < length known) → (b : Bool) → (b || is_known number known) ≡ true
        → length (cond {A = List ℕ} b (others number known) (k ∷ others number known)) < suc (length known)
    by h true f = let few = no-more number known in omega (arith, few)
    by h false f = let few = h f in omega (arith, few)

unknown-still : (other number : ℕ) (known : List ℕ) → (other ≡ number → ⊥) → is_known other (others number known) ≡ false → is_known other known ≡ false
unknown-still other number [] apart e = refl
unknown-still other number (k ∷ known) apart e = by (unknown-still other number known apart) (k == number) refl e
  where
    by : (is_known other (others number known) ≡ false → is_known other known ≡ false) → (b : Bool) → (k == number) ≡ b
        → is_known other (cond {A = List ℕ} b (others number known) (k ∷ others number known)) ≡ false → ((k == other) || is_known other known) ≡ false
    by h true is f = or_from (k == other) (is_known other known) (ne_eqb k other (λ same. apart (sym same ∙ eqb-true k number is))) (h f)
    by h false is f = let parts = or_parts (k == other) (is_known other (others number known)) f in or_from (k == other) (is_known other known) parts.0 (h parts.1)

-- a number below a bound that isn't there
pub record Free (bound : ℕ) (known : List ℕ) : Type 0 where
  pub number : ℕ
  pub below : number < bound
  pub new : is_known number known ≡ false

pub free : (bound : ℕ) (known : List ℕ) → length known < bound → Free bound known
free zero known few = absurd (omega (arith, few))
free (suc bound) known few = by (λ less. free bound (others bound known) less) (is_known bound known) refl
  where
    by : (length (others bound known) < bound → Free bound (others bound known)) → (b : Bool) → is_known bound known ≡ b → Free (suc bound) known
    by later false e = record { number = bound; below = omega arith; new = e }
    by later true e =
        let one = fewer bound known e in
        let left : Free bound (others bound known) = later (omega (arith, few, one)) in
        record {
          number = left.number;
          below = omega (arith, left.below);
          new = unknown-still left.number bound known (λ same. omega (arith, left.below, same)) left.new;
        }
