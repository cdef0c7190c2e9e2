-- Which chain beats which: an order in which every two chains can be compared.
use Rattle.std.proofs.Common.{◌≡◌, ℕ, suc, ℤ, ◌+ℤ◌, Bool, true, false, Some, None, List, [], ◌∷◌, refl, sym, ap, arith}
use Rattle.std.specs.Prelude.{◌&&◌, ◌||◌, int_lt}
use Rattle.std.specs.Ordering.{int_eq}
use Rattle.std.proofs.lemmas.Bool.Decides.{nat_tests}
use Rattle.std.proofs.lemmas.Int.{ints}
use Rattle.tx_linebreak.specs.declared.line.Line.{Line}
use Rattle.tx_linebreak.specs.Classes.{class_number}
use Rattle.tx_linebreak.specs.Chains.{Chain, candidate_of, next_place}
use Rattle.tx_linebreak.specs.Chosen.{beats, is_below, steps_of, total}

pub below_itself : (xs : List ℕ) → is_below xs xs ≡ false
below_itself [] = refl
below_itself (x ∷ xs) = grind (arith, nat_tests, below_itself xs)

pub below_both : (xs ys : List ℕ) → is_below xs ys ≡ true → is_below ys xs ≡ false
below_both [] [] e = refl
below_both [] (y ∷ ys) e = refl
below_both (x ∷ xs) [] e = absurd cc
below_both (x ∷ xs) (y ∷ ys) e = grind (arith, nat_tests, below_both xs ys)

pub not_below_through : (xs ys zs : List ℕ) → is_below xs ys ≡ false → is_below ys zs ≡ false → is_below xs zs ≡ false
not_below_through [] [] zs e f = f
not_below_through [] (y ∷ ys) zs e f = absurd cc
not_below_through (x ∷ xs) ys [] e f = refl
not_below_through (x ∷ xs) [] (z ∷ zs) e f = absurd cc
not_below_through (x ∷ xs) (y ∷ ys) (z ∷ zs) e f = grind (arith, nat_tests, not_below_through xs ys zs)

-- with the numbers after the ones in front of them, and what is the same before and between
below_next : (p q r s m n j k : ℕ) (xs ys : List ℕ) → p ≡ q → r ≡ s → j ≡ k → is_below (p ∷ m ∷ xs) (q ∷ n ∷ ys) ≡ false → is_below (r ∷ suc m ∷ j ∷ p ∷ m ∷ xs) (s ∷ suc n ∷ k ∷ q ∷ n ∷ ys) ≡ false
below_next p q r s m n j k xs ys same front behind e = grind (arith, nat_tests)

below_first : (r s j k : ℕ) → r ≡ s → j ≡ k → is_below (r ∷ 1 ∷ j ∷ []) (s ∷ 1 ∷ k ∷ []) ≡ false
below_first r s j k front behind = grind (arith, nat_tests)

-- how totals are compared, with what stands for the comparison of steps where they are equal
abbrev by_total : ℤ → ℤ → Bool → Bool
by_total a b under = int_lt a b || (int_eq a b && under)

by_total_itself : (a : ℤ) (p : Bool) → p ≡ false → by_total a a p ≡ false
by_total_itself a p e = grind (arith, ints)

by_total_both : (a b : ℤ) (p q : Bool) → (p ≡ true → q ≡ false) → by_total a b p ≡ true → by_total b a q ≡ false
by_total_both a b p q h e = grind (arith, ints)

by_total_through : (a b c : ℤ) (p q r : Bool) → (p ≡ false → q ≡ false → r ≡ false) → by_total a b p ≡ false → by_total b c q ≡ false → by_total a c r ≡ false
by_total_through a b c p q r h e f = grind (arith, ints)

by_total_more : (a b d e : ℤ) (p q : Bool) → d ≡ e → (p ≡ false → q ≡ false) → by_total a b p ≡ false → by_total (a +ℤ d) (b +ℤ e) q ≡ false
by_total_more a b d e p q same h f = grind (arith, ints)

pub beats_itself : (x : Chain) → beats x x ≡ false
unfolding beats
beats_itself x = by_total_itself (total x) (is_below (steps_of x) (steps_of x)) (below_itself (steps_of x))

pub beats_both : (x y : Chain) → beats x y ≡ true → beats y x ≡ false
unfolding beats
beats_both x y e = by_total_both (total x) (total y) (is_below (steps_of y) (steps_of x)) (is_below (steps_of x) (steps_of y)) (below_both (steps_of y) (steps_of x)) e

pub not_beaten_through : (x y z : Chain) → beats x y ≡ false → beats y z ≡ false → beats x z ≡ false
unfolding beats
not_beaten_through x y z e f = by_total_through (total x) (total y) (total z) (is_below (steps_of y) (steps_of x)) (is_below (steps_of z) (steps_of y)) (is_below (steps_of z) (steps_of x)) (λ p q. not_below_through (steps_of z) (steps_of y) (steps_of x) q p) e f

-- two lines that differ in their numbers alone, each the one after its chain's, where the chains end at the same place
pub record DifferInNumber (l m : Line) (x y : Chain) : Type 0 where
  pub place : l.place ≡ m.place
  pub class : class_number l.class ≡ class_number m.class
  pub demerits : l.demerits ≡ m.demerits
  pub number : l.number ≡ suc (candidate_of x).lines
  pub other : m.number ≡ suc (candidate_of y).lines
  pub before : (candidate_of x).place ≡ (candidate_of y).place

no-place : (p : ℕ) → None ≡ Some p → ⊥
no-place p h = cc

below_more : (r s j k : ℕ) (x y : Chain) → r ≡ s → j ≡ k → (candidate_of x).place ≡ (candidate_of y).place → is_below (steps_of x) (steps_of y) ≡ false → is_below (r ∷ suc (candidate_of x).lines ∷ j ∷ steps_of x) (s ∷ suc (candidate_of y).lines ∷ k ∷ steps_of y) ≡ false
below_more r s j k [] [] front behind same e = below_first r s j k front behind
below_more r s j k [] (m ∷ y) front behind same e = absurd (no-place m.place same)
below_more r s j k (l ∷ x) [] front behind same e = absurd (no-place l.place (sym same))
below_more r s j k (l ∷ x) (m ∷ y) front behind same e =
    let places : suc l.place ≡ suc m.place = ap next_place same in
    below_next l.place m.place r s l.number m.number j k (class_number l.class ∷ steps_of x) (class_number m.class ∷ steps_of y) (omega arith) front behind e

-- such lines behind two chains: a chain that isn't beaten isn't beaten with its line
pub beats_more : (l m : Line) (x y : Chain) → DifferInNumber l m x y → beats x y ≡ false → beats (l ∷ x) (m ∷ y) ≡ false
unfolding beats
beats_more l m x y d e =
    by_total_more (total x) (total y) l.demerits m.demerits (is_below (steps_of y) (steps_of x)) (is_below (steps_of (m ∷ y)) (steps_of (l ∷ x))) d.demerits
    (λ f. rw (d.number, d.other) (below_more m.place l.place (class_number m.class) (class_number l.class) y x (sym d.place) (sym d.class) (sym d.before) f))
    e
