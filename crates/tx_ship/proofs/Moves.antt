-- What the reader of a page does at a movement and at a rule.
use Rattle.std.proofs.Common.{◌≡◌, ◌==◌, ℕ, ◌+◌, ◌-◌, ◌^◌, ◌<◌, ℤ, pos, ◌+ℤ◌, Bool, true, false, cond, nat_lt, unsigned_abs, List, [], ◌∷◌, ◌++◌, drop, Some, refl, ap, ◌∙◌, arith}
use Rattle.std.proofs.lemmas.Bool.{ltb-true, eqb-true}
use Rattle.std.proofs.lemmas.Int.{ints}
use Rattle.tx_dvi.specs.Dvi.{four_bytes}
use Rattle.tx_dvi.specs.declared.placed.Placed.{Placed}
use Rattle.tx_dvi.specs.declared.placed.Registers.{Registers}
use Rattle.tx_dvi.specs.Meaning.{Widths, ReaderFonts, right_by, down_by, rule_set, with_rule}
use Rattle.tx_dvi.proofs.Reading as dvi
use Rattle.tx_dvi.proofs.Reading.{run, reader}
use Rattle.tx_dvi.proofs.SignedBack.{signed-back1, signed-back2, signed-back3, signed-back4}
use Rattle.tx_ship.specs.Commands.{movement, movement_size, right, down}

-- a movement by its size
pub data Sized (by : ℤ) : Type 0 where
  one : movement_size by ≡ 1 → unsigned_abs by < 128 → Sized by
  two : movement_size by ≡ 2 → unsigned_abs by < 32768 → Sized by
  three : movement_size by ≡ 3 → unsigned_abs by < 8388608 → Sized by
  four : movement_size by ≡ 4 → Sized by

pub sized : (by : ℤ) → Sized by
sized by = first (nat_lt (unsigned_abs by) 128) refl
  where
    third : nat_lt (unsigned_abs by) 128 ≡ false → nat_lt (unsigned_abs by) 32768 ≡ false → (b : Bool) → nat_lt (unsigned_abs by) 8388608 ≡ b → Sized by
    third e f true g = three (ap (λ b. cond b 1 (cond (nat_lt (unsigned_abs by) 32768) 2 (cond (nat_lt (unsigned_abs by) 8388608) 3 4))) e ∙ ap (λ b. cond b 2 (cond (nat_lt (unsigned_abs by) 8388608) 3 4)) f ∙ ap (λ b. cond b 3 4) g) (ltb-true _ _ g)
    third e f false g = four (ap (λ b. cond b 1 (cond (nat_lt (unsigned_abs by) 32768) 2 (cond (nat_lt (unsigned_abs by) 8388608) 3 4))) e ∙ ap (λ b. cond b 2 (cond (nat_lt (unsigned_abs by) 8388608) 3 4)) f ∙ ap (λ b. cond b 3 4) g)

    second : nat_lt (unsigned_abs by) 128 ≡ false → (b : Bool) → nat_lt (unsigned_abs by) 32768 ≡ b → Sized by
    second e true f = two (ap (λ b. cond b 1 (cond (nat_lt (unsigned_abs by) 32768) 2 (cond (nat_lt (unsigned_abs by) 8388608) 3 4))) e ∙ ap (λ b. cond b 2 (cond (nat_lt (unsigned_abs by) 8388608) 3 4)) f) (ltb-true _ _ f)
    second e false f = third e f (nat_lt (unsigned_abs by) 8388608) refl

    first : (b : Bool) → nat_lt (unsigned_abs by) 128 ≡ b → Sized by
    first true e = one (ap (λ b. cond b 1 (cond (nat_lt (unsigned_abs by) 32768) 2 (cond (nat_lt (unsigned_abs by) 8388608) 3 4))) e) (ltb-true _ _ e)
    first false e = second e (nat_lt (unsigned_abs by) 32768) refl

-- the bytes of a movement of this size
pub moves : (shortest : ℕ) (by : ℤ) (size : ℕ) → (unsigned_abs by == 0) ≡ false → movement_size by ≡ size → movement shortest by ≡ (shortest + (size - 1)) ∷ drop (4 - size) (four_bytes by)
unfolding movement
moves shortest by size some is =
    ap (λ b. cond b [] ((shortest + (movement_size by - 1)) ∷ drop (4 - movement_size by) (four_bytes by))) some ∙ (λ i. (shortest + (is i - 1)) ∷ drop (4 - is i) (four_bytes by))

pub still : (shortest : ℕ) (by : ℤ) → (unsigned_abs by == 0) ≡ true → movement shortest by ≡ []
unfolding movement
still shortest by e = ap (λ b. cond b [] ((shortest + (movement_size by - 1)) ∷ drop (4 - movement_size by) (four_bytes by))) e

nothing : (by : ℤ) → (unsigned_abs by == 0) ≡ true → by ≡ pos 0
nothing by e = let zero_is : unsigned_abs by ≡ 0 = eqb-true _ _ e in omega (arith, ints, zero_is)

module _ (widths : Widths) (now : Registers) (fonts : ReaderFonts) (stack : List Registers) (met : List Placed) where
  pub run-right : (by : ℤ) → unsigned_abs by < 2 ^ 31 → run widths (Some (reader now fonts stack met)) (right by) ≡ Some (reader (right_by by now) fonts stack met)
  run-right by h = cases (unsigned_abs by == 0) refl
    where
      of_size : (unsigned_abs by == 0) ≡ false → Sized by → run widths (Some (reader now fonts stack met)) (right by) ≡ Some (reader (right_by by now) fonts stack met)
      of_size some (one is l) = ap (run widths (Some (reader now fonts stack met))) (moves 143 by 1 some is) ∙ dvi.run-right1 widths now fonts stack met by ∙ ap (λ z. Some (reader (right_by z now) fonts stack met)) (signed-back1 by l)
      of_size some (two is l) = ap (run widths (Some (reader now fonts stack met))) (moves 143 by 2 some is) ∙ dvi.run-right2 widths now fonts stack met by ∙ ap (λ z. Some (reader (right_by z now) fonts stack met)) (signed-back2 by l)
      of_size some (three is l) = ap (run widths (Some (reader now fonts stack met))) (moves 143 by 3 some is) ∙ dvi.run-right3 widths now fonts stack met by ∙ ap (λ z. Some (reader (right_by z now) fonts stack met)) (signed-back3 by l)
      of_size some (four is) = ap (run widths (Some (reader now fonts stack met))) (moves 143 by 4 some is) ∙ dvi.run-right4 widths now fonts stack met by ∙ ap (λ z. Some (reader (right_by z now) fonts stack met)) (signed-back4 by h)

      cases : (b : Bool) → (unsigned_abs by == 0) ≡ b → run widths (Some (reader now fonts stack met)) (right by) ≡ Some (reader (right_by by now) fonts stack met)
      cases true e = ap (run widths (Some (reader now fonts stack met))) (still 143 by e)
          ∙ (let same : now.h ≡ now.h +ℤ by = let z = nothing by e in omega (arith, ints, z) in λ i. Some (reader (record now { h = same i }) fonts stack met))
      cases false e = of_size e (sized by)

  pub run-down : (by : ℤ) → unsigned_abs by < 2 ^ 31 → run widths (Some (reader now fonts stack met)) (down by) ≡ Some (reader (down_by by now) fonts stack met)
  run-down by h = cases (unsigned_abs by == 0) refl
    where
      of_size : (unsigned_abs by == 0) ≡ false → Sized by → run widths (Some (reader now fonts stack met)) (down by) ≡ Some (reader (down_by by now) fonts stack met)
      of_size some (one is l) = ap (run widths (Some (reader now fonts stack met))) (moves 157 by 1 some is) ∙ dvi.run-down1 widths now fonts stack met by ∙ ap (λ z. Some (reader (down_by z now) fonts stack met)) (signed-back1 by l)
      of_size some (two is l) = ap (run widths (Some (reader now fonts stack met))) (moves 157 by 2 some is) ∙ dvi.run-down2 widths now fonts stack met by ∙ ap (λ z. Some (reader (down_by z now) fonts stack met)) (signed-back2 by l)
      of_size some (three is l) = ap (run widths (Some (reader now fonts stack met))) (moves 157 by 3 some is) ∙ dvi.run-down3 widths now fonts stack met by ∙ ap (λ z. Some (reader (down_by z now) fonts stack met)) (signed-back3 by l)
      of_size some (four is) = ap (run widths (Some (reader now fonts stack met))) (moves 157 by 4 some is) ∙ dvi.run-down4 widths now fonts stack met by ∙ ap (λ z. Some (reader (down_by z now) fonts stack met)) (signed-back4 by h)

      cases : (b : Bool) → (unsigned_abs by == 0) ≡ b → run widths (Some (reader now fonts stack met)) (down by) ≡ Some (reader (down_by by now) fonts stack met)
      cases true e = ap (run widths (Some (reader now fonts stack met))) (still 157 by e)
          ∙ (let same : now.v ≡ now.v +ℤ by = let z = nothing by e in omega (arith, ints, z) in λ i. Some (reader (record now { v = same i }) fonts stack met))
      cases false e = of_size e (sized by)

  pub run-set : (height width : ℤ) → unsigned_abs height < 2 ^ 31 → unsigned_abs width < 2 ^ 31
      → run widths (Some (reader now fonts stack met)) (132 ∷ four_bytes height ++ four_bytes width) ≡ Some (rule_set height width (reader now fonts stack met))
  run-set height width high wide =
      dvi.run-set_rule widths now fonts stack met height width ∙ (λ i. Some (rule_set (signed-back4 height high i) (signed-back4 width wide i) (reader now fonts stack met)))

  pub run-put : (height width : ℤ) → unsigned_abs height < 2 ^ 31 → unsigned_abs width < 2 ^ 31
      → run widths (Some (reader now fonts stack met)) (137 ∷ four_bytes height ++ four_bytes width) ≡ Some (with_rule height width (reader now fonts stack met))
  run-put height width high wide =
      dvi.run-put_rule widths now fonts stack met height width ∙ (λ i. Some (with_rule (signed-back4 height high i) (signed-back4 width wide i) (reader now fonts stack met)))
