-- Steps of chains, line by line.
use Rattle.std.proofs.Common.{◌≡◌, ℕ, ℤ, ◌<ℤ◌, ◌≤ℤ◌, Bool, true, false, List, ◌∷◌, sym, subst, ◌∙◌, arith}
use Rattle.std.specs.Prelude.{◌&&◌, ◌||◌, ◌==◌, nat_lt, int_lt}
use Rattle.std.specs.Ordering.{int_eq}
use Rattle.std.proofs.lemmas.Bool.Decides.{nat_tests}
use Rattle.std.proofs.lemmas.Int.{ints}
use Rattle.tx_linebreak.specs.declared.line.Line.{Line}
use Rattle.tx_linebreak.specs.Classes.{class_number}
use Rattle.tx_linebreak.specs.Chains.{Chain}
use Rattle.tx_linebreak.specs.Chosen.{beats, is_below, steps_of, total}
use Rattle.tx_linebreak.specs.Steps.{line_below, line_level}

by_threes : (p n c q m d : ℕ) (xs ys : List ℕ) → is_below (p ∷ n ∷ c ∷ xs) (q ∷ m ∷ d ∷ ys) ≡ ((nat_lt p q || p == q && (nat_lt n m || n == m && nat_lt c d)) || ((p == q && n == m && c == d) && is_below xs ys))
by_threes p n c q m d xs ys = grind (arith, nat_tests)

-- the steps of one chain are below those of another if its last line's are, or those are the same and the rest's are
pub below-lines : (l m : Line) (x y : Chain) → is_below (steps_of (l ∷ x)) (steps_of (m ∷ y)) ≡ (line_below l m || (line_level l m && is_below (steps_of x) (steps_of y)))
below-lines l m x y = by_threes l.place l.number (class_number l.class) m.place m.number (class_number m.class) (steps_of x) (steps_of y)

total_less : (a b : ℤ) (p : Bool) → a <ℤ b → (int_lt a b || (int_eq a b && p)) ≡ true
total_less a b p h = grind (arith, ints)

total_more : (a b : ℤ) (p : Bool) → b <ℤ a → (int_lt a b || (int_eq a b && p)) ≡ false
total_more a b p h = grind (arith, ints)

total_level : (a b : ℤ) (p : Bool) → a ≤ℤ b → b ≤ℤ a → (int_lt a b || (int_eq a b && p)) ≡ p
total_level a b p h k = grind (arith, ints)

-- what decides which of two chains beats the other, where s and t are their demerits
pub beats-less : (x y : Chain) (s t : ℤ) → s ≡ total x → t ≡ total y → s <ℤ t → true ≡ beats x y
unfolding beats
beats-less x y s t is also h = sym (total_less (total x) (total y) (is_below (steps_of y) (steps_of x)) (subst (λ (b : ℤ). total x <ℤ b) also (subst (λ (a : ℤ). a <ℤ t) is h)))

pub beats-more : (x y : Chain) (s t : ℤ) → s ≡ total x → t ≡ total y → t <ℤ s → false ≡ beats x y
unfolding beats
beats-more x y s t is also h = sym (total_more (total x) (total y) (is_below (steps_of y) (steps_of x)) (subst (λ (a : ℤ). total y <ℤ a) is (subst (λ (b : ℤ). b <ℤ s) also h)))

pub beats-level : (l m : Line) (x y : Chain) (s t : ℤ) (b : Bool) → s ≡ total (l ∷ x) → t ≡ total (m ∷ y) → t ≤ℤ s → s ≤ℤ t → b ≡ (line_below m l || (line_level m l && is_below (steps_of y) (steps_of x))) → b ≡ beats (l ∷ x) (m ∷ y)
unfolding beats
beats-level l m x y s t b is also h k e =
    e ∙ sym (total_level (total (l ∷ x)) (total (m ∷ y)) (is_below (steps_of (m ∷ y)) (steps_of (l ∷ x)))
    (subst (λ (d : ℤ). total (l ∷ x) ≤ℤ d) also (subst (λ (d : ℤ). d ≤ℤ t) is k)) (subst (λ (d : ℤ). total (m ∷ y) ≤ℤ d) is (subst (λ (d : ℤ). d ≤ℤ s) also h))
    ∙ below-lines m l y x)
