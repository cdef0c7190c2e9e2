-- One byte more of a page's plain commands: what the writer by registers does with it, and how long that is.
use Rattle.std.proofs.Common.{◌≡◌, ◌==◌, ℕ, ◌+◌, ◌-◌, ◌*◌, ◌<◌, ◌≤◌, ℤ, Bool, true, false, cond, nat_le, List, [], ◌∷◌, ◌++◌, length, get_or, drop, fold, Option, Some, None, refl, sym, ap, ◌∙◌, arith, subst, true≢false}
use Rattle.std.proofs.lemmas.Bool.{leb-true, leb-false, eqb-true}
use Rattle.std.proofs.lemmas.List.{length-append, length-drop}
use Rattle.std.specs.Ordering.{int_eq}
use Rattle.tx_dvi.specs.Meaning.{operands, signed}
use Rattle.tx_ship.specs.declared.amounts.Pair.{Pair}
use Rattle.tx_ship.specs.declared.amounts.Amounts.{Amounts}
use Rattle.tx_ship.specs.Registers.{by_setting, by_register, Writer, page_writer, copied, pushing, popping, is_right, is_down, moved_right, moved_down, once_there, other, taken, write, registered}
use Rattle.tx_ship.proofs.Steps.{both}

-- a writer in the midst of a command
abbrev pub at : List ℕ → Writer → Writer
at begun w = record w { begun = begun }

-- the number of the command that is begun
abbrev pub opcode_in : Writer → ℕ
opcode_in w = get_or w.begun 0 0

-- what comes of the command that is begun, in each case
pub data Turn (w out : Writer) : Type 0 where
  right_waits : is_right (opcode_in w) ≡ true → length w.begun ≤ opcode_in w - 142 → out ≡ w → Turn w out
  right_moves : is_right (opcode_in w) ≡ true → opcode_in w - 142 < length w.begun → out ≡ moved_right (opcode_in w) w → Turn w out
  down_waits : is_down (opcode_in w) ≡ true → length w.begun ≤ opcode_in w - 156 → out ≡ w → Turn w out
  down_moves : is_down (opcode_in w) ≡ true → opcode_in w - 156 < length w.begun → out ≡ moved_down (opcode_in w) w → Turn w out
  pushes : opcode_in w ≡ 141 → out ≡ copied (pushing w) → Turn w out
  pops : opcode_in w ≡ 142 → out ≡ copied (popping w.pushed w) → Turn w out
  fails : operands (opcode_in w) w.begun ≡ None → out ≡ copied w → Turn w out
  other_waits : (more : ℕ) → is_right (opcode_in w) ≡ false → is_down (opcode_in w) ≡ false → operands (opcode_in w) w.begun ≡ Some more → length w.begun ≤ more → out ≡ w → Turn w out
  copies : (more : ℕ) → is_right (opcode_in w) ≡ false → is_down (opcode_in w) ≡ false → (opcode_in w == 141) ≡ false → (opcode_in w == 142) ≡ false
      → operands (opcode_in w) w.begun ≡ Some more → more < length w.begun → out ≡ copied w → Turn w out

module _ (w : Writer) where
  abbrev o : ℕ
  o = opcode_in w

  -- what is taken, by the tests
  abbrev tested : (r d s p : Bool) → Writer
  tested r d s p =
      cond {A = Writer} r (once_there (o - 142) (moved_right o) w)
      (cond {A = Writer} d (once_there (o - 156) (moved_down o) w) (cond {A = Writer} s (copied (pushing w)) (cond {A = Writer} p (copied (popping w.pushed w)) (other (operands o w.begun) w))))

  tests-are : (r d s p : Bool) → is_right o ≡ r → is_down o ≡ d → (o == 141) ≡ s → (o == 142) ≡ p → taken o w ≡ tested r d s p
  tests-are r d s p e f g h = λ i. tested (e i) (f i) (g i) (h i)

  pub turn : Turn w (taken (opcode_in w) w)
  turn = by (is_right o) (is_down o) (o == 141) (o == 142) refl refl refl refl
    where
      rightwards : is_right o ≡ true → taken o w ≡ once_there (o - 142) (moved_right o) w → (t : Bool) → nat_le (length w.begun) (o - 142) ≡ t → Turn w (taken o w)
      rightwards e is true t = right_waits e (leb-true _ _ t) (is ∙ ap (λ b. cond {A = Writer} b w (moved_right o w)) t)
      rightwards e is false t = right_moves e (leb-false _ _ t) (is ∙ ap (λ b. cond {A = Writer} b w (moved_right o w)) t)

      downwards : is_down o ≡ true → taken o w ≡ once_there (o - 156) (moved_down o) w → (t : Bool) → nat_le (length w.begun) (o - 156) ≡ t → Turn w (taken o w)
      downwards e is true t = down_waits e (leb-true _ _ t) (is ∙ ap (λ b. cond {A = Writer} b w (moved_down o w)) t)
      downwards e is false t = down_moves e (leb-false _ _ t) (is ∙ ap (λ b. cond {A = Writer} b w (moved_down o w)) t)

      there : is_right o ≡ false → is_down o ≡ false → (o == 141) ≡ false → (o == 142) ≡ false → (more : ℕ) → operands o w.begun ≡ Some more → taken o w ≡ once_there more copied w
          → (t : Bool) → nat_le (length w.begun) more ≡ t → Turn w (taken o w)
      there e f g h more x is true t = other_waits more e f x (leb-true _ _ t) (is ∙ ap (λ b. cond {A = Writer} b w (copied w)) t)
      there e f g h more x is false t = copies more e f g h x (leb-false _ _ t) (is ∙ ap (λ b. cond {A = Writer} b w (copied w)) t)

      others : is_right o ≡ false → is_down o ≡ false → (o == 141) ≡ false → (o == 142) ≡ false → (x : Option ℕ) → operands o w.begun ≡ x → taken o w ≡ other x w → Turn w (taken o w)
      others e f g h None x is = fails x is
      others e f g h (Some more) x is = there e f g h more x is (nat_le (length w.begun) more) refl

      by : (r d s p : Bool) → is_right o ≡ r → is_down o ≡ d → (o == 141) ≡ s → (o == 142) ≡ p → Turn w (taken o w)
      by true d s p e f g h = rightwards e (tests-are true d s p e f g h) (nat_le (length w.begun) (o - 142)) refl
      by false true s p e f g h = downwards f (tests-are false true s p e f g h) (nat_le (length w.begun) (o - 156)) refl
      by false false true p e f g h = pushes (eqb-true _ _ g) (tests-are false false true p e f g h)
      by false false false true e f g h = pops (eqb-true _ _ h) (tests-are false false false true e f g h)
      by false false false false e f g h = others e f g h (operands o w.begun) refl (tests-are false false false false e f g h)

-- the first bytes of a movement are no more than it has behind its first one
pub record Few (bytes : List ℕ) : Type 0 where
  pub right : is_right (get_or bytes 0 0) ≡ true → length bytes ≤ get_or bytes 0 0 - 142
  pub down : is_down (get_or bytes 0 0) ≡ true → length bytes ≤ get_or bytes 0 0 - 156

pub none-few : Few []
none-few = record { right = λ e. omega arith; down = λ e. omega arith }

-- with the next byte they are one more at most
pub right-few : (b : List ℕ) (byte : ℕ) → Few b → is_right (get_or (b ++ byte ∷ []) 0 0) ≡ true → length (b ++ byte ∷ []) ≤ (get_or (b ++ byte ∷ []) 0 0 - 142) + 1
right-few [] byte few e = omega arith
right-few (x ∷ xs) byte few e = let l = few.right e in let n = length-append (x ∷ xs) (byte ∷ []) in omega (arith, l, n)

pub down-few : (b : List ℕ) (byte : ℕ) → Few b → is_down (get_or (b ++ byte ∷ []) 0 0) ≡ true → length (b ++ byte ∷ []) ≤ (get_or (b ++ byte ∷ []) 0 0 - 156) + 1
down-few [] byte few e = omega arith
down-few (x ∷ xs) byte few e = let l = few.down e in let n = length-append (x ∷ xs) (byte ∷ []) in omega (arith, l, n)

-- between which numbers those of the movements lie
pub right-range : (n : ℕ) → is_right n ≡ true → (143 ≤ n) × (n ≤ 146)
right-range n e = let tests = both {a = nat_le 143 n} {b = nat_le n 146} e in (leb-true 143 n tests.0, leb-true n 146 tests.1)

pub down-range : (n : ℕ) → is_down n ≡ true → (157 ≤ n) × (n ≤ 160)
down-range n e = let tests = both {a = nat_le 157 n} {b = nat_le n 160} e in (leb-true 157 n tests.0, leb-true n 160 tests.1)

-- the same command isn't both a movement to the right and one down
apart : (n : ℕ) → is_right n ≡ true → is_down n ≡ true → ⊥
apart n e f = let below = (right-range n e).1 in let above = (down-range n f).0 in omega (arith, below, above)

-- what is begun behind the turn is few again
pub few-behind : (w out : Writer) → Turn w out → Few out.begun
few-behind w out (right_waits e l is) = subst (λ (v : Writer). Few v.begun) (sym is) (record { right = λ f. l; down = λ f. absurd (apart (opcode_in w) e f) })
few-behind w out (right_moves e l is) = subst (λ (v : Writer). Few v.begun) (sym is) none-few
few-behind w out (down_waits e l is) = subst (λ (v : Writer). Few v.begun) (sym is) (record { right = λ f. absurd (apart (opcode_in w) f e); down = λ f. l })
few-behind w out (down_moves e l is) = subst (λ (v : Writer). Few v.begun) (sym is) none-few
few-behind w out (pushes e is) = subst (λ (v : Writer). Few v.begun) (sym is) none-few
few-behind w out (pops e is) = subst (λ (v : Writer). Few v.begun) (sym is) none-few
few-behind w out (fails x is) = subst (λ (v : Writer). Few v.begun) (sym is) none-few
few-behind w out (other_waits more e f x l is) =
    subst (λ (v : Writer). Few v.begun) (sym is) (record { right = λ g. absurd (true≢false (sym g ∙ e)); down = λ g. absurd (true≢false (sym g ∙ f)) })
few-behind w out (copies more e f g h x l is) = subst (λ (v : Writer). Few v.begun) (sym is) none-few

-- how long a movement by a register is
setting-long : (opcode : ℕ) (bytes : List ℕ) (amount : ℤ) (pair : Pair) → length (by_setting opcode bytes amount pair).0 ≡ 1 + length bytes
setting-long opcode bytes amount pair = by pair.is_first_newer
  where
    by : (b : Bool)
        → length (cond {A = List ℕ × Pair} b ((opcode + 10) ∷ bytes, record pair { second = amount; is_first_newer = false }) ((opcode + 5) ∷ bytes, record pair { first = amount; is_first_newer = true })).0 ≡ 1 + length bytes
    by true = omega arith
    by false = omega arith

-- the movement by the tests of the two registers
abbrev sorted : ℕ → ℕ → List ℕ → ℤ → Pair → Bool → Bool → List ℕ × Pair
sorted shortest opcode bytes amount pair a b =
    cond {A = List ℕ × Pair} a ((shortest + 4) ∷ [], record pair { is_first_newer = true })
    (cond {A = List ℕ × Pair} b ((shortest + 9) ∷ [], record pair { is_first_newer = false }) (by_setting opcode bytes amount pair))

movement-long : (shortest opcode : ℕ) (bytes : List ℕ) (amount : ℤ) (pair : Pair)
    → (1 ≤ length (by_register shortest opcode bytes amount pair).0) × (length (by_register shortest opcode bytes amount pair).0 ≤ 1 + length bytes)
movement-long shortest opcode bytes amount pair = by (int_eq amount pair.first) (int_eq amount pair.second)
  where
    by : (a b : Bool) → (1 ≤ length (sorted shortest opcode bytes amount pair a b).0) × (length (sorted shortest opcode bytes amount pair a b).0 ≤ 1 + length bytes)
    by true b = (omega arith, omega arith)
    by false true = (omega arith, omega arith)
    by false false = let l = setting-long opcode bytes amount pair in (omega (arith, l), omega (arith, l))

-- a pop changes neither what is begun nor what is made
pub popping-made : (p : List Amounts) (w : Writer) → (popping p w).made ≡ w.made
popping-made [] w = refl
popping-made (last ∷ others) w = refl

pub popping-begun : (p : List Amounts) (w : Writer) → (popping p w).begun ≡ w.begun
popping-begun [] w = refl
popping-begun (last ∷ others) w = refl

-- a turn makes no bytes more than it takes, and a fifth of them at least
record Measured (w out : Writer) : Type 0 where
  enough : 5 * length w.made + length w.begun ≤ 5 * length out.made + length out.begun
  no_longer : length out.made + length out.begun ≤ length w.made + length w.begun

copied-measured : (w : Writer) → Measured w (copied w)
copied-measured w = let l = length-append w.made w.begun in record { enough = omega (arith, l); no_longer = omega (arith, l) }

turn-measured : (w out : Writer) → Turn w out → 1 ≤ length w.begun → (is_right (opcode_in w) ≡ true → length w.begun ≤ (opcode_in w - 142) + 1) → (is_down (opcode_in w) ≡ true → length w.begun ≤ (opcode_in w - 156) + 1) → Measured w out
turn-measured w out (right_waits e l is) some right down = subst (Measured w) (sym is) (record { enough = omega arith; no_longer = omega arith })
turn-measured w out (right_moves e l is) some right down =
    let bytes : List ℕ = drop 1 w.begun in
    let amount : ℤ = signed (opcode_in w - 142) bytes in
    let long = movement-long 143 (opcode_in w) bytes amount w.amounts.across in
    let all = length-append w.made (by_register 143 (opcode_in w) bytes amount w.amounts.across).0 in
    let shorter = length-drop 1 w.begun in
    let most = right e in
    let low = (right-range (opcode_in w) e).1 in
    subst (Measured w) (sym is) (record { enough = omega (arith, all, long.0, most, low); no_longer = omega (arith, all, long.1, shorter, some) })
turn-measured w out (down_waits e l is) some right down = subst (Measured w) (sym is) (record { enough = omega arith; no_longer = omega arith })
turn-measured w out (down_moves e l is) some right down =
    let bytes : List ℕ = drop 1 w.begun in
    let amount : ℤ = signed (opcode_in w - 156) bytes in
    let long = movement-long 157 (opcode_in w) bytes amount w.amounts.down in
    let all = length-append w.made (by_register 157 (opcode_in w) bytes amount w.amounts.down).0 in
    let shorter = length-drop 1 w.begun in
    let most = down e in
    let low = (down-range (opcode_in w) e).1 in
    subst (Measured w) (sym is) (record { enough = omega (arith, all, long.0, most, low); no_longer = omega (arith, all, long.1, shorter, some) })
turn-measured w out (pushes e is) some right down = let m = copied-measured (pushing w) in subst (Measured w) (sym is) (record { enough = m.enough; no_longer = m.no_longer })
turn-measured w out (pops e is) some right down =
    let l = length-append (popping w.pushed w).made (popping w.pushed w).begun in
    let m = ap length (popping-made w.pushed w) in
    let b = ap length (popping-begun w.pushed w) in
    subst (Measured w) (sym is) (record { enough = omega (arith, l, m, b); no_longer = omega (arith, l, m, b) })
turn-measured w out (fails x is) some right down = subst (Measured w) (sym is) (copied-measured w)
turn-measured w out (other_waits more e f x l is) some right down = subst (Measured w) (sym is) (record { enough = omega arith; no_longer = omega arith })
turn-measured w out (copies more e f g h x l is) some right down = subst (Measured w) (sym is) (copied-measured w)

-- so for any bytes, one after the other
pub measured : (rest b : List ℕ) (w : Writer) → Few b
    → (5 * length w.made + (length b + length rest) ≤ 5 * length (fold write (at b w) rest).made + length (fold write (at b w) rest).begun)
    × (length (fold write (at b w) rest).made + length (fold write (at b w) rest).begun ≤ length w.made + (length b + length rest))
measured [] b w few = (omega arith, omega arith)
measured (byte ∷ rest) b w few =
    let next : Writer = at (b ++ byte ∷ []) w in
    let out : Writer = taken (opcode_in next) next in
    let one = length-append b (byte ∷ []) in
    let m : Measured next out = turn-measured next out (turn next) (omega (arith, one)) (right-few b byte few) (down-few b byte few) in
    let all = measured rest out.begun out (few-behind next out (turn next)) in
    (omega (arith, one, m.enough, all.0), omega (arith, one, m.no_longer, all.1))

-- plain commands have at most five times as many bytes as they have with registers
pub plain-bound : (plain : List ℕ) → length (registered plain) ≤ 200000 → length plain ≤ 1000000
unfolding registered
plain-bound plain short =
    let all = measured plain [] page_writer none-few in
    let last : Writer = fold write page_writer plain in
    let l = length-append last.made last.begun in
    omega (arith, all.0, l, short)

pub no-longer : (plain : List ℕ) → length (registered plain) ≤ length plain
unfolding registered
no-longer plain =
    let all = measured plain [] page_writer none-few in
    let last : Writer = fold write page_writer plain in
    let l = length-append last.made last.begun in
    omega (arith, all.1, l)
