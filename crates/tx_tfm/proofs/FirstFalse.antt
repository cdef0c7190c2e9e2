-- The first false test of a list, and of two lists in a row.
use Rattle.std.proofs.Common.{◌≡◌, ℕ, ◌+◌, Bool, true, false, ◌&&◌, Some, None, List, [], ◌∷◌, ◌++◌, length, refl, ap, arith}
use Rattle.tx_tfm.specs.declared.file.Tfm.{Tfm}
use Rattle.tx_tfm.specs.declared.rules.Size.{Size}
use Rattle.tx_tfm.specs.Format.{lengths_of}
use Rattle.tx_tfm.specs.Rules.{first_false, header_rules, table_rules, all_remainders_fit, all_successors_end}
use Rattle.tx_tfm.specs.Sound.{IsSizeOf, IsSound}

pub first_false-append_some : (n : ℕ) (xs ys : List Bool) (r : ℕ) → first_false n xs ≡ Some r → first_false n (xs ++ ys) ≡ Some r
first_false-append_some n [] ys r e = cc
first_false-append_some n (true ∷ xs) ys r e = first_false-append_some (n + 1) xs ys r e
first_false-append_some n (false ∷ xs) ys r e = e

pub first_false-append_none : (n m : ℕ) (xs ys : List Bool) → first_false n xs ≡ None → m ≡ n + length xs → first_false n (xs ++ ys) ≡ first_false m ys
first_false-append_none n m [] ys e h = ap (λ k. first_false k ys) (omega arith)
first_false-append_none n m (true ∷ xs) ys e h = first_false-append_none (n + 1) m xs ys e (omega arith)
first_false-append_none n m (false ∷ xs) ys e h = cc

pub ruleset append_steps = (first_false-append_some, first_false-append_none)

-- where none is false, each is true
abbrev AreTrue : List Bool → Type 0
AreTrue [] = Unit {0}
AreTrue (test ∷ tests) = (test ≡ true) × AreTrue tests

are_true : (n : ℕ) (tests : List Bool) → first_false n tests ≡ None → AreTrue tests
are_true n [] e = tt
are_true n (true ∷ tests) e = (refl, are_true (n + 1) tests e)
are_true n (false ∷ tests) e = cc

first_true : (a b : Bool) → (a && b) ≡ true → a ≡ true
first_true true b e = refl
first_true false b e = e

second_true : (a b : Bool) → (a && b) ≡ true → b ≡ true
second_true true b e = e
second_true false b e = cc

pub sound : (t : Tfm) (size : Size) (z : ℕ) → t.lengths ≡ lengths_of t.bytes → first_false 1 (header_rules t size) ≡ None → IsSizeOf t size z → first_false 9 (table_rules t) ≡ None → IsSound (record { file = t; size = z })
sound t size z same header is_size tables =
    let h = are_true 1 (header_rules t size) header in
    let a = are_true 9 (table_rules t) tables in
    record {
      lengths = same;
      size_some = is_size.some;
      size_in = is_size.bound;
      codes = h.1.1.0;
      indices = a.0;
      remainders = first_true (all_remainders_fit t) (all_successors_end t) a.1.0;
      successors = second_true (all_remainders_fit t) (all_successors_end t) a.1.0;
      fractions = a.1.1.0;
      first_sizes = a.1.1.1.0;
      commands = a.1.1.1.1.0;
      recipes = a.1.1.1.1.1.0;
      pairs = a.1.1.1.1.1.1.0;
    }
