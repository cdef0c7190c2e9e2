-- Fewer than 256 fonts are defined where a byte is the number of none, since each number is taken once.
use Rattle.std.proofs.Common.{◌≡◌, ℕ, zero, suc, ◌<◌, ◌≤◌, ◌==◌, Bool, true, false, cond, List, [], ◌∷◌, ◌++◌, length, refl, sym, subst, arith}
use Rattle.std.proofs.lemmas.Bool.{eqb-false, eqb-true, ne_eqb, or_from, or_parts}
use Rattle.std.specs.List.{AllByRecursion}
use Rattle.tx_dvi.specs.Meaning.{is_known}
use Rattle.tx_dvitype.specs.Grammar.{AreBytes}

-- no number stands twice
abbrev pub AreDistinct : List ℕ → Type 0
AreDistinct [] = Unit {0}
AreDistinct (k ∷ known) = (is_known k known ≡ false) × AreDistinct known

abbrev AreBelow : ℕ → List ℕ → Type 0
AreBelow bound known = AllByRecursion (λ (k : ℕ). k < bound) known

-- the numbers but one
abbrev others : ℕ → List ℕ → List ℕ
others number [] = []
others number (k ∷ known) = cond (k == number) (others number known) (k ∷ others number known)

unknown-among : (k number : ℕ) (known : List ℕ) → is_known k known ≡ false → is_known k (others number known) ≡ false
unknown-among k number [] e = refl
unknown-among k number (x ∷ known) e = by (or_parts (x == k) (is_known k known) e) (unknown-among k number known) (x == number)
  where
    by : ((x == k) ≡ false) × (is_known k known ≡ false) → (is_known k known ≡ false → is_known k (others number known) ≡ false) → (b : Bool) → is_known k (cond {A = List ℕ} b (others number known) (x ∷ others number known)) ≡ false
    by parts h true = h parts.1
    by parts h false = or_from (x == k) (is_known k (others number known)) parts.0 (h parts.1)

distinct-among : (number : ℕ) (known : List ℕ) → AreDistinct known → AreDistinct (others number known)
distinct-among number [] d = tt
distinct-among number (k ∷ known) d = by (k == number) (distinct-among number known d.1)
  where
    by : (b : Bool) → AreDistinct (others number known) → AreDistinct (cond {A = List ℕ} b (others number known) (k ∷ others number known))
    by true h = h
    by false h = (unknown-among k number known d.0, h)

below-among : (bound : ℕ) (known : List ℕ) → AreBelow (suc bound) known → AreBelow bound (others bound known)
below-among bound [] small = tt
below-among bound (k ∷ known) small = by (k == bound) refl (below-among bound known small.1)
  where
    by : (b : Bool) → (k == bound) ≡ b → AreBelow bound (others bound known) → AreBelow bound (cond {A = List ℕ} b (others bound known) (k ∷ others bound known))
    by true is h = h
    by false is h = (let apart : k ≡ bound → ⊥ = eqb-false k bound is in let less : k < suc bound = small.0 in omega (arith, apart, less), h)

-- where one isn't among them, they are all
all-others : (number : ℕ) (known : List ℕ) → is_known number known ≡ false → length known ≤ length (others number known)
all-others number [] e = omega arith
all-others number (k ∷ known) e = by (k == number) (or_parts (k == number) (is_known number known) e) (all-others number known)
  where
    by : (b : Bool) → (b ≡ false) × (is_known number known ≡ false) → (is_known number known ≡ false → length known ≤ length (others number known)) → suc (length known) ≤ length (cond {A = List ℕ} b (others number known) (k ∷ others number known))
    by true parts h = absurd (let no : true ≡ false = parts.0 in cc)
    by false parts h = let more = h parts.1 in omega (arith, more)

one-less : (number : ℕ) (known : List ℕ) → AreDistinct known → length known ≤ suc (length (others number known))
one-less number [] d = omega arith
one-less number (k ∷ known) d = by (k == number) refl (one-less number known d.1)
  where
    by : (b : Bool) → (k == number) ≡ b → length known ≤ suc (length (others number known)) → suc (length known) ≤ suc (length (cond {A = List ℕ} b (others number known) (k ∷ others number known)))
    by true is h = let same : k ≡ number = eqb-true k number is in let more = all-others number known (subst (λ (n : ℕ). is_known n known ≡ false) same d.0) in omega (arith, more)
    by false is h = omega (arith, h)

few : (bound : ℕ) (known : List ℕ) → AreBelow bound known → AreDistinct known → length known ≤ bound
few zero [] small d = omega arith
few zero (k ∷ known) small d = absurd (let less : k < 0 = small.0 in omega (arith, less))
few (suc bound) known small d =
    let fewer = few bound (others bound known) (below-among bound known small) (distinct-among bound known d) in
    let one = one-less bound known d in
    omega (arith, fewer, one)

pub room-left : (number : ℕ) (known : List ℕ) → number < 256 → is_known number known ≡ false → AreBytes known → AreDistinct known → length known < 256
room-left number known less new small d = let all : suc (length known) ≤ 256 = few 256 (number ∷ known) (less, small) (new, d) in omega (arith, all)

-- with one more
unknown-behind : (k number : ℕ) (known : List ℕ) → is_known k known ≡ false → (number ≡ k → ⊥) → is_known k (known ++ number ∷ []) ≡ false
unknown-behind k number [] e apart = or_from (number == k) false (ne_eqb number k apart) refl
unknown-behind k number (x ∷ known) e apart = let parts = or_parts (x == k) (is_known k known) e in or_from (x == k) (is_known k (known ++ number ∷ [])) parts.0 (unknown-behind k number known parts.1 apart)

pub distinct-push : (number : ℕ) (known : List ℕ) → is_known number known ≡ false → AreDistinct known → AreDistinct (known ++ number ∷ [])
distinct-push number [] new d = (refl, tt)
distinct-push number (k ∷ known) new d =
    let parts = or_parts (k == number) (is_known number known) new in
    (unknown-behind k number known d.0 (λ same. eqb-false k number parts.0 (sym same)), distinct-push number known parts.1 d.1)
