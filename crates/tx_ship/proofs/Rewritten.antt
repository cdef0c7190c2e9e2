-- What the registers make of plain commands means what the plain commands mean.
use Rattle.std.proofs.Common.{◌≡◌, ◌==◌, ℕ, zero, suc, ◌+◌, ◌-◌, ◌<◌, ◌≤◌, ℤ, Bool, true, false, cond, nat_le, nat_lt, ◌||◌, List, [], ◌∷◌, ◌++◌, length, get_or, drop, fold, Option, Some, None, refl, sym, ap, ◌∙◌, arith, subst, true≢false}
use Rattle.std.proofs.lemmas.Bool.{leb-true, leb-false, eqb-true}
use Rattle.std.proofs.lemmas.Bool.Decides.{Decides-int_eq}
use Rattle.std.proofs.lemmas.List.{append-nil, length-append, length-drop}
use Rattle.std.specs.Ordering.{int_eq}
use Rattle.tx_dvi.specs.declared.placed.Placed.{Placed}
use Rattle.tx_dvi.specs.declared.placed.Registers.{Registers}
use Rattle.tx_dvi.specs.Meaning.{Widths, Reader, Contents, signed, is_movement, movement_operands, operands, is_font_number, right_by, down_by, moved, with_rule, with_special, with_registers, with_fonts, character_set, set_character, is_known, choosing, choose, definition_in, defining, define, rule_set, popped, carried_out, when_whole, all_met, page_start, meaning}
use Rattle.tx_dvi.specs.declared.font.FontDefinition.{FontDefinition}
use Rattle.tx_dvi.specs.Meaning.{ReaderFonts}
use Rattle.tx_dvi.proofs.Reading.{reader, run, run-append, gathered}
use Rattle.tx_ship.specs.declared.amounts.Pair.{Pair}
use Rattle.tx_ship.specs.declared.amounts.Amounts.{Amounts}
use Rattle.tx_ship.specs.Registers.{by_register, Writer, page_writer, copied, pushing, popping, is_right, is_down, moved_right, moved_down, taken, write, registered}
use Rattle.tx_ship.proofs.Scanned.{is_other, is_plain, scanned, scan, Plainly}
use Rattle.tx_ship.proofs.Turns.{at, opcode_in, Turn, right_waits, right_moves, down_waits, down_moves, pushes, pops, fails, other_waits, copies, turn, right-range, down-range, Few, none-few, right-few, down-few, few-behind, popping-made, popping-begun}

-- the value of what is there
abbrev some_or : {A : Type 0} → A → Option A → A
some_or other None = other
some_or other (Some x) = x

some-is : {A : Type 0} {x y : A} → Some x ≡ Some y → x ≡ y
some-is {x = x} e = ap (some_or x) e

nil-is : {A : Type 0} (xs : List A) → length xs ≡ 0 → xs ≡ []
nil-is [] e = refl
nil-is (x ∷ xs) e = absurd (omega (arith, e))

-- the second of two tests, where the first doesn't hold
or-cut : {a b : Bool} → a ≡ false → (a || b) ≡ true → b ≡ true
or-cut {a = true} e h = absurd (true≢false e)
or-cut {a = false} e h = h

-- the registers of a reader of what is written, by those of a reader of the plain commands, which uses none
abbrev dressed : Amounts → Registers → Registers
dressed a r = record r { w = a.across.first; x = a.across.second; y = a.down.first; z = a.down.second }

abbrev all_dressed : List Amounts → List Registers → List Registers
all_dressed [] rs = []
all_dressed (a ∷ others) [] = []
all_dressed (a ∷ others) (r ∷ rs) = dressed a r ∷ all_dressed others rs

abbrev twin : Writer → Reader → Reader
twin w r = record { now = dressed w.amounts r.now; fonts = r.fonts; stack = all_dressed w.pushed r.stack; met = r.met; begun = [] }

-- a movement by a register, by the tests of the two and by which was used last
abbrev by_tests : ℕ → ℕ → List ℕ → ℤ → Pair → Bool → Bool → Bool → List ℕ × Pair
by_tests shortest opcode bytes amount pair a b c =
    cond {A = List ℕ × Pair} a ((shortest + 4) ∷ [], record pair { is_first_newer = true })
    (cond {A = List ℕ × Pair} b ((shortest + 9) ∷ [], record pair { is_first_newer = false })
    (cond {A = List ℕ × Pair} c ((opcode + 10) ∷ bytes, record pair { second = amount; is_first_newer = false }) ((opcode + 5) ∷ bytes, record pair { first = amount; is_first_newer = true })))

-- a reader in the midst of a command
abbrev mid : List ℕ → Reader → Reader
mid begun r = record r { begun = begun }

-- how many bytes a movement has
operands-right : (k : ℕ) (bytes : List ℕ) → k < 4 → operands (143 + k) bytes ≡ Some (1 + k)
operands-right zero bytes h = refl
operands-right (suc zero) bytes h = refl
operands-right (suc (suc zero)) bytes h = refl
operands-right (suc (suc (suc zero))) bytes h = refl
operands-right (suc (suc (suc (suc k)))) bytes h = absurd (omega (arith, h))

operands-down : (k : ℕ) (bytes : List ℕ) → k < 4 → operands (157 + k) bytes ≡ Some (1 + k)
operands-down zero bytes h = refl
operands-down (suc zero) bytes h = refl
operands-down (suc (suc zero)) bytes h = refl
operands-down (suc (suc (suc zero))) bytes h = refl
operands-down (suc (suc (suc (suc k)))) bytes h = absurd (omega (arith, h))

-- the number of a movement, counted from that of the shortest
right-number : (n : ℕ) → is_right n ≡ true → (n ≡ 143 + (n - 143)) × (n - 143 < 4)
right-number n e =
    let range = right-range n e in
    (omega (arith, range.0), omega (arith, range.0, range.1))

down-number : (n : ℕ) → is_down n ≡ true → (n ≡ 157 + (n - 157)) × (n - 157 < 4)
down-number n e =
    let range = down-range n e in
    (omega (arith, range.0), omega (arith, range.0, range.1))

right-operands : (n : ℕ) (bytes : List ℕ) → is_right n ≡ true → operands n bytes ≡ Some (n - 142)
right-operands n bytes e =
    let k = right-number n e in
    let size : 1 + (n - 143) ≡ n - 142 = omega (arith, k.0) in
    ap (λ m. operands m bytes) k.0 ∙ operands-right (n - 143) bytes k.1 ∙ ap Some size

down-operands : (n : ℕ) (bytes : List ℕ) → is_down n ≡ true → operands n bytes ≡ Some (n - 156)
down-operands n bytes e =
    let k = down-number n e in
    let size : 1 + (n - 157) ≡ n - 156 = omega (arith, k.0) in
    ap (λ m. operands m bytes) k.0 ∙ operands-down (n - 157) bytes k.1 ∙ ap Some size

push-operands : (n : ℕ) (bytes : List ℕ) → n ≡ 141 → operands n bytes ≡ Some 0
push-operands n bytes e = ap (λ m. operands m bytes) e

pop-operands : (n : ℕ) (bytes : List ℕ) → n ≡ 142 → operands n bytes ≡ Some 0
pop-operands n bytes e = ap (λ m. operands m bytes) e

module _ (widths : Widths) where
  abbrev none-read : (bytes : List ℕ) → Type 0
  none-read bytes = run widths None bytes ≡ None

  run-none : (bytes : List ℕ) → none-read bytes
  run-none [] = refl
  run-none (byte ∷ bytes) = run-none bytes

  scan-none : (bytes : List ℕ) → fold scan None bytes ≡ None
  scan-none [] = refl
  scan-none (byte ∷ bytes) = scan-none bytes

  -- a command of this number with its bytes, read from its first one on
  reads : (opcode more : ℕ) (ops : List ℕ) (now : Registers) (fonts : ReaderFonts) (stack : List Registers) (met : List Placed)
      → ((bytes : List ℕ) → operands opcode (opcode ∷ bytes) ≡ Some more) → length ops ≡ more → run widths (Some (reader now fonts stack met)) (opcode ∷ ops) ≡ carried_out widths opcode ops (reader now fonts stack met)
  reads opcode more ops now fonts stack met operands_are long =
      ap (λ o. run widths (when_whole widths o (opcode ∷ []) (reader now fonts stack met)) ops) (operands_are [])
      ∙ gathered widths now fonts stack met (opcode ∷ []) more (λ bytes. carried_out widths opcode bytes (reader now fonts stack met)) operands_are (λ bytes. refl) [] [] ops (omega (arith, long))

  -- a movement to the right: its plain command, and those that set w and x
  record SetsRight (opcode : ℕ) (ops : List ℕ) : Type 0 where
    plain : (q : Reader) → carried_out widths opcode ops q ≡ Some (with_registers (right_by (signed (opcode - 142) ops) q.now) q)
    first : (now : Registers) (fonts : ReaderFonts) (stack : List Registers) (met : List Placed)
        → run widths (Some (reader now fonts stack met)) ((opcode + 5) ∷ ops) ≡ Some (reader (right_by (signed (opcode - 142) ops) (record now { w = signed (opcode - 142) ops })) fonts stack met)
    second : (now : Registers) (fonts : ReaderFonts) (stack : List Registers) (met : List Placed)
        → run widths (Some (reader now fonts stack met)) ((opcode + 10) ∷ ops) ≡ Some (reader (right_by (signed (opcode - 142) ops) (record now { x = signed (opcode - 142) ops })) fonts stack met)

  sets-right : (k : ℕ) (ops : List ℕ) → k < 4 → length ops ≡ 1 + k → SetsRight (143 + k) ops
  sets-right zero ops h e = record {
    plain = λ q. refl;
    first = λ now fonts stack met. reads 148 1 ops now fonts stack met (λ bytes. refl) e;
    second = λ now fonts stack met. reads 153 1 ops now fonts stack met (λ bytes. refl) e;
  }
  sets-right (suc zero) ops h e = record {
    plain = λ q. refl;
    first = λ now fonts stack met. reads 149 2 ops now fonts stack met (λ bytes. refl) e;
    second = λ now fonts stack met. reads 154 2 ops now fonts stack met (λ bytes. refl) e;
  }
  sets-right (suc (suc zero)) ops h e = record {
    plain = λ q. refl;
    first = λ now fonts stack met. reads 150 3 ops now fonts stack met (λ bytes. refl) e;
    second = λ now fonts stack met. reads 155 3 ops now fonts stack met (λ bytes. refl) e;
  }
  sets-right (suc (suc (suc zero))) ops h e = record {
    plain = λ q. refl;
    first = λ now fonts stack met. reads 151 4 ops now fonts stack met (λ bytes. refl) e;
    second = λ now fonts stack met. reads 156 4 ops now fonts stack met (λ bytes. refl) e;
  }
  sets-right (suc (suc (suc (suc k)))) ops h e = absurd (omega (arith, h))

  -- a movement down: its plain command, and those that set y and z
  record SetsDown (opcode : ℕ) (ops : List ℕ) : Type 0 where
    plain : (q : Reader) → carried_out widths opcode ops q ≡ Some (with_registers (down_by (signed (opcode - 156) ops) q.now) q)
    first : (now : Registers) (fonts : ReaderFonts) (stack : List Registers) (met : List Placed)
        → run widths (Some (reader now fonts stack met)) ((opcode + 5) ∷ ops) ≡ Some (reader (down_by (signed (opcode - 156) ops) (record now { y = signed (opcode - 156) ops })) fonts stack met)
    second : (now : Registers) (fonts : ReaderFonts) (stack : List Registers) (met : List Placed)
        → run widths (Some (reader now fonts stack met)) ((opcode + 10) ∷ ops) ≡ Some (reader (down_by (signed (opcode - 156) ops) (record now { z = signed (opcode - 156) ops })) fonts stack met)

  sets-down : (k : ℕ) (ops : List ℕ) → k < 4 → length ops ≡ 1 + k → SetsDown (157 + k) ops
  sets-down zero ops h e = record {
    plain = λ q. refl;
    first = λ now fonts stack met. reads 162 1 ops now fonts stack met (λ bytes. refl) e;
    second = λ now fonts stack met. reads 167 1 ops now fonts stack met (λ bytes. refl) e;
  }
  sets-down (suc zero) ops h e = record {
    plain = λ q. refl;
    first = λ now fonts stack met. reads 163 2 ops now fonts stack met (λ bytes. refl) e;
    second = λ now fonts stack met. reads 168 2 ops now fonts stack met (λ bytes. refl) e;
  }
  sets-down (suc (suc zero)) ops h e = record {
    plain = λ q. refl;
    first = λ now fonts stack met. reads 164 3 ops now fonts stack met (λ bytes. refl) e;
    second = λ now fonts stack met. reads 169 3 ops now fonts stack met (λ bytes. refl) e;
  }
  sets-down (suc (suc (suc zero))) ops h e = record {
    plain = λ q. refl;
    first = λ now fonts stack met. reads 165 4 ops now fonts stack met (λ bytes. refl) e;
    second = λ now fonts stack met. reads 170 4 ops now fonts stack met (λ bytes. refl) e;
  }
  sets-down (suc (suc (suc (suc k)))) ops h e = absurd (omega (arith, h))

  -- a movement to the right by a register takes the twin where the plain one takes the reader
  right-by-register : (opcode : ℕ) (w : Writer) (q : Reader) (ops : List ℕ) → SetsRight opcode ops
      → run widths (Some (twin w q)) (by_register 143 opcode ops (signed (opcode - 142) ops) w.amounts.across).0
      ≡ Some (twin (record w { amounts = record w.amounts { across = (by_register 143 opcode ops (signed (opcode - 142) ops) w.amounts.across).1 } }) (with_registers (right_by (signed (opcode - 142) ops) q.now) q))
  right-by-register opcode w q ops sets =
      by (int_eq (signed (opcode - 142) ops) w.amounts.across.first) (int_eq (signed (opcode - 142) ops) w.amounts.across.second) w.amounts.across.is_first_newer refl refl
    where
      by : (a b c : Bool) → int_eq (signed (opcode - 142) ops) w.amounts.across.first ≡ a → int_eq (signed (opcode - 142) ops) w.amounts.across.second ≡ b
          → run widths (Some (twin w q)) (by_tests 143 opcode ops (signed (opcode - 142) ops) w.amounts.across a b c).0
          ≡ Some (twin (record w { amounts = record w.amounts { across = (by_tests 143 opcode ops (signed (opcode - 142) ops) w.amounts.across a b c).1 } }) (with_registers (right_by (signed (opcode - 142) ops) q.now) q))
      by true b c e f =
          let same : signed (opcode - 142) ops ≡ w.amounts.across.first = (Decides-int_eq (signed (opcode - 142) ops) w.amounts.across.first).0 e in
          λ i. Some (reader (right_by (sym same i) (dressed w.amounts q.now)) q.fonts (all_dressed w.pushed q.stack) q.met)
      by false true c e f =
          let same : signed (opcode - 142) ops ≡ w.amounts.across.second = (Decides-int_eq (signed (opcode - 142) ops) w.amounts.across.second).0 f in
          λ i. Some (reader (right_by (sym same i) (dressed w.amounts q.now)) q.fonts (all_dressed w.pushed q.stack) q.met)
      by false false true e f = sets.second (dressed w.amounts q.now) q.fonts (all_dressed w.pushed q.stack) q.met
      by false false false e f = sets.first (dressed w.amounts q.now) q.fonts (all_dressed w.pushed q.stack) q.met

  -- and one down
  down-by-register : (opcode : ℕ) (w : Writer) (q : Reader) (ops : List ℕ) → SetsDown opcode ops
      → run widths (Some (twin w q)) (by_register 157 opcode ops (signed (opcode - 156) ops) w.amounts.down).0
      ≡ Some (twin (record w { amounts = record w.amounts { down = (by_register 157 opcode ops (signed (opcode - 156) ops) w.amounts.down).1 } }) (with_registers (down_by (signed (opcode - 156) ops) q.now) q))
  down-by-register opcode w q ops sets =
      by (int_eq (signed (opcode - 156) ops) w.amounts.down.first) (int_eq (signed (opcode - 156) ops) w.amounts.down.second) w.amounts.down.is_first_newer refl refl
    where
      by : (a b c : Bool) → int_eq (signed (opcode - 156) ops) w.amounts.down.first ≡ a → int_eq (signed (opcode - 156) ops) w.amounts.down.second ≡ b
          → run widths (Some (twin w q)) (by_tests 157 opcode ops (signed (opcode - 156) ops) w.amounts.down a b c).0
          ≡ Some (twin (record w { amounts = record w.amounts { down = (by_tests 157 opcode ops (signed (opcode - 156) ops) w.amounts.down a b c).1 } }) (with_registers (down_by (signed (opcode - 156) ops) q.now) q))
      by true b c e f =
          let same : signed (opcode - 156) ops ≡ w.amounts.down.first = (Decides-int_eq (signed (opcode - 156) ops) w.amounts.down.first).0 e in
          λ i. Some (reader (down_by (sym same i) (dressed w.amounts q.now)) q.fonts (all_dressed w.pushed q.stack) q.met)
      by false true c e f =
          let same : signed (opcode - 156) ops ≡ w.amounts.down.second = (Decides-int_eq (signed (opcode - 156) ops) w.amounts.down.second).0 f in
          λ i. Some (reader (down_by (sym same i) (dressed w.amounts q.now)) q.fonts (all_dressed w.pushed q.stack) q.met)
      by false false true e f = sets.second (dressed w.amounts q.now) q.fonts (all_dressed w.pushed q.stack) q.met
      by false false false e f = sets.first (dressed w.amounts q.now) q.fonts (all_dressed w.pushed q.stack) q.met

  -- a command that uses no register takes the twin where it takes the reader
  record Keeps (w : Writer) (q r : Reader) (o : Option Reader) : Type 0 where
    twin_is : o ≡ Some (twin w r)
    stack_is : r.stack ≡ q.stack
    begun_is : r.begun ≡ q.begun

  kept : (f : Reader → Reader) (w : Writer) (q r : Reader) → ((x : Reader) → (f x).stack ≡ x.stack) → ((x : Reader) → (f x).begun ≡ x.begun) → f (twin w q) ≡ twin w (f q) → Some (f q) ≡ Some r → Keeps w q r (Some (f (twin w q)))
  kept f w q r stacks begins same is =
      let there : f q ≡ r = some-is is in
      record {
        twin_is = ap Some (same ∙ ap (twin w) there);
        stack_is = ap (λ (x : Reader). x.stack) (sym there) ∙ stacks q;
        begun_is = ap (λ (x : Reader). x.begun) (sym there) ∙ begins q;
      }

  kept-character : (code : ℕ) (chosen : Option ℕ) (w : Writer) (q r : Reader) → set_character widths code chosen q ≡ Some r → Keeps w q r (set_character widths code chosen (twin w q))
  kept-character code None w q r is = absurd (cc)
  kept-character code (Some font) w q r is = kept (character_set widths font code) w q r (λ x. refl) (λ x. refl) refl is

  kept-choice : (number : ℕ) (w : Writer) (q r : Reader) → choose number q ≡ Some r → Keeps w q r (choose number (twin w q))
  kept-choice number w q r is = by (is_known number q.fonts.known) is
    where
      by : (b : Bool) → cond {A = Option Reader} b (Some (with_fonts (choosing number q.fonts) q)) None ≡ Some r
          → Keeps w q r (cond {A = Option Reader} b (Some (with_fonts (choosing number q.fonts) (twin w q))) None)
      by true e = kept (λ (x : Reader). with_fonts (choosing number q.fonts) x) w q r (λ x. refl) (λ x. refl) refl e
      by false e = absurd (cc)

  kept-definition : (font : FontDefinition) (w : Writer) (q r : Reader) → define font q ≡ Some r → Keeps w q r (define font (twin w q))
  kept-definition font w q r is = by (is_known font.number q.fonts.known) is
    where
      by : (b : Bool) → cond {A = Option Reader} b None (Some (with_fonts (defining font q.fonts) q)) ≡ Some r
          → Keeps w q r (cond {A = Option Reader} b None (Some (with_fonts (defining font q.fonts) (twin w q))))
      by true e = absurd (cc)
      by false e = kept (λ (x : Reader). with_fonts (defining font q.fonts) x) w q r (λ x. refl) (λ x. refl) refl e

  -- what a command does, by the tests of its number
  abbrev chain : (a b c d e f g h s p t : Bool) → ℕ → List ℕ → Reader → Option Reader
  chain a b c d e f g h s p t opcode bytes r =
      cond {A = Option Reader} a (set_character widths opcode r.fonts.chosen r)
      (cond {A = Option Reader} b (choose (opcode - 171) r)
      (cond {A = Option Reader} c (set_character widths (get_or bytes 0 0) r.fonts.chosen r)
      (cond {A = Option Reader} d (choose (get_or bytes 0 0) r)
      (cond {A = Option Reader} e (define (definition_in bytes) r)
      (cond {A = Option Reader} f (Some (rule_set (signed 4 bytes) (signed 4 (drop 4 bytes)) r))
      (cond {A = Option Reader} g (Some (with_rule (signed 4 bytes) (signed 4 (drop 4 bytes)) r))
      (cond {A = Option Reader} h (Some r)
      (cond {A = Option Reader} s (Some (record r { stack = r.now ∷ r.stack }))
      (cond {A = Option Reader} p (popped r.stack r)
      (cond {A = Option Reader} t (Some (with_special (drop (opcode - 238) bytes) r))
      (cond {A = Option Reader} (is_movement opcode) (Some (with_registers (moved opcode (signed (movement_operands opcode) bytes) r.now) r)) None)))))))))))

  keeps : (a b c d e f g h s p t : Bool) → s ≡ false → p ≡ false → (a || (b || (c || (d || (e || (f || (g || (h || t)))))))) ≡ true
      → (opcode : ℕ) (bytes : List ℕ) (w : Writer) (q r : Reader) → chain a b c d e f g h s p t opcode bytes q ≡ Some r → Keeps w q r (chain a b c d e f g h s p t opcode bytes (twin w q))
  keeps true b c d e f g h s p t no_push no_pop some opcode bytes w q r is = kept-character opcode q.fonts.chosen w q r is
  keeps false true c d e f g h s p t no_push no_pop some opcode bytes w q r is = kept-choice (opcode - 171) w q r is
  keeps false false true d e f g h s p t no_push no_pop some opcode bytes w q r is = kept-character (get_or bytes 0 0) q.fonts.chosen w q r is
  keeps false false false true e f g h s p t no_push no_pop some opcode bytes w q r is = kept-choice (get_or bytes 0 0) w q r is
  keeps false false false false true f g h s p t no_push no_pop some opcode bytes w q r is = kept-definition (definition_in bytes) w q r is
  keeps false false false false false true g h s p t no_push no_pop some opcode bytes w q r is =
      kept (rule_set (signed 4 bytes) (signed 4 (drop 4 bytes))) w q r (λ x. refl) (λ x. refl) refl is
  keeps false false false false false false true h s p t no_push no_pop some opcode bytes w q r is =
      kept (with_rule (signed 4 bytes) (signed 4 (drop 4 bytes))) w q r (λ x. refl) (λ x. refl) refl is
  keeps false false false false false false false true s p t no_push no_pop some opcode bytes w q r is = kept (λ (x : Reader). x) w q r (λ x. refl) (λ x. refl) refl is
  keeps false false false false false false false false true p t no_push no_pop some opcode bytes w q r is = absurd (true≢false no_push)
  keeps false false false false false false false false false true t no_push no_pop some opcode bytes w q r is = absurd (true≢false no_pop)
  keeps false false false false false false false false false false true no_push no_pop some opcode bytes w q r is =
      kept (with_special (drop (opcode - 238) bytes)) w q r (λ x. refl) (λ x. refl) refl is
  keeps false false false false false false false false false false false no_push no_pop some opcode bytes w q r is = absurd (true≢false (sym some))

  -- a pop takes back the registers of both
  record Pops (w out : Writer) (q r : Reader) (o : Option Reader) : Type 0 where
    twin_is : o ≡ Some (twin out r)
    stacks : length out.pushed ≡ length r.stack
    begun_is : r.begun ≡ q.begun

  pops-both : (w : Writer) (q r : Reader) (amounts : List Amounts) (stack : List Registers) → length amounts ≡ length stack → popped stack q ≡ Some r
      → Pops w (popping amounts w) q r (popped (all_dressed amounts stack) (twin w q))
  pops-both w q r amounts [] long is = absurd (cc)
  pops-both w q r [] (last ∷ others) long is = absurd (omega (arith, long))
  pops-both w q r (a ∷ amounts) (last ∷ others) long is =
      let there : record q { now = last; stack = others } ≡ r = some-is is in
      record {
        twin_is = ap (λ (x : Reader). Some (twin (popping (a ∷ amounts) w) x)) there;
        stacks = omega (arith, long) ∙ ap (λ (x : Reader). length x.stack) there;
        begun_is = ap (λ (x : Reader). x.begun) (sym there);
      }

  module _ (start : Reader) where
    -- what is written so far is read as the plain commands are
    record Agrees (w : Writer) (r : Reader) : Type 0 where
      stacks : length w.pushed ≡ length r.stack
      read_is : run widths (Some start) w.made ≡ Some (twin w r)

    -- behind a whole command
    record Whole (w : Writer) (r : Reader) : Type 0 where
      begun_is : w.begun ≡ []
      reader_is : r.begun ≡ []
      agrees : Agrees w r

    -- bytes of a command are gathered as long as it isn't whole
    abbrev Gathers : List ℕ → Type 0
    Gathers begun = (q : Reader) → run widths (Some (mid [] q)) begun ≡ Some (mid begun q)

    gathers-none : Gathers []
    gathers-none q = refl

    gathers-more : (b : List ℕ) (byte more : ℕ) → Gathers b → operands (get_or (b ++ byte ∷ []) 0 0) (b ++ byte ∷ []) ≡ Some more → nat_le (length (b ++ byte ∷ [])) more ≡ true → Gathers (b ++ byte ∷ [])
    gathers-more b byte more gathers operands_are part q =
        run-append widths (Some (mid [] q)) b (byte ∷ []) ∙ ap (λ o. run widths o (byte ∷ [])) (gathers q)
        ∙ ap (λ o. when_whole widths o (b ++ byte ∷ []) (mid b q)) operands_are
        ∙ ap (λ t. cond {A = Option Reader} t (Some (mid (b ++ byte ∷ []) q)) (carried_out widths (get_or (b ++ byte ∷ []) 0 0) (drop 1 (b ++ byte ∷ [])) (mid [] q))) part

    -- once it is whole it is carried out
    gathers-whole : (b : List ℕ) (byte more : ℕ) → Gathers b → operands (get_or (b ++ byte ∷ []) 0 0) (b ++ byte ∷ []) ≡ Some more → nat_le (length (b ++ byte ∷ [])) more ≡ false
        → (q : Reader) → run widths (Some (mid [] q)) (b ++ byte ∷ []) ≡ carried_out widths (get_or (b ++ byte ∷ []) 0 0) (drop 1 (b ++ byte ∷ [])) (mid [] q)
    gathers-whole b byte more gathers operands_are past q =
        run-append widths (Some (mid [] q)) b (byte ∷ []) ∙ ap (λ o. run widths o (byte ∷ [])) (gathers q)
        ∙ ap (λ o. when_whole widths o (b ++ byte ∷ []) (mid b q)) operands_are
        ∙ ap (λ t. cond {A = Option Reader} t (Some (mid (b ++ byte ∷ []) q)) (carried_out widths (get_or (b ++ byte ∷ []) 0 0) (drop 1 (b ++ byte ∷ [])) (mid [] q))) past

    -- what is copied is read behind what was written
    copies-read : (w v : Writer) (r : Reader) (o : Option Reader) → Agrees w r → run widths (Some (twin w r)) v.begun ≡ o → v.made ≡ w.made → run widths (Some start) (v.made ++ v.begun) ≡ o
    copies-read w v r o agrees is made_is =
        run-append widths (Some start) v.made v.begun ∙ ap (λ (made : List ℕ). run widths (run widths (Some start) made) v.begun) made_is
        ∙ ap (λ o. run widths o v.begun) agrees.read_is ∙ is

    -- A command is whole, and the reader of the plain commands carries it out.
    module _ (w : Writer) (r r' : Reader) (bytes : List ℕ) (more : ℕ) (agrees : Agrees w r)
        (operands_are : operands (get_or bytes 0 0) bytes ≡ Some more) (past : more < length bytes)
        (right_most : is_right (get_or bytes 0 0) ≡ true → length bytes ≤ (get_or bytes 0 0 - 142) + 1) (down_most : is_down (get_or bytes 0 0) ≡ true → length bytes ≤ (get_or bytes 0 0 - 156) + 1)
        (plain : is_plain (get_or bytes 0 0) ≡ true)
        (whole : (q : Reader) → run widths (Some (mid [] q)) bytes ≡ carried_out widths (get_or bytes 0 0) (drop 1 bytes) (mid [] q))
        (is : carried_out widths (get_or bytes 0 0) (drop 1 bytes) (mid [] r) ≡ Some r') where
      abbrev o : ℕ
      o = get_or bytes 0 0

      abbrev ops : List ℕ
      ops = drop 1 bytes

      abbrev here : Writer
      here = at bytes w

      rightwards : is_right o ≡ true → o - 142 < length bytes → Whole (moved_right o here) r'
      rightwards e l =
          let k = right-number o e in
          let long : length ops ≡ 1 + (o - 143) = let n = length-drop 1 bytes in let most = right_most e in omega (arith, n, most, l, k.0) in
          let sets : SetsRight o ops = subst (λ (n : ℕ). SetsRight n ops) (sym k.0) (sets-right (o - 143) ops k.1 long) in
          let written : List ℕ × Pair = by_register 143 o ops (signed (o - 142) ops) w.amounts.across in
          let there : with_registers (right_by (signed (o - 142) ops) r.now) (mid [] r) ≡ r' = some-is (sym (sets.plain (mid [] r)) ∙ is) in
          record {
            begun_is = refl;
            reader_is = ap (λ (x : Reader). x.begun) (sym there);
            agrees = record {
              stacks = agrees.stacks ∙ ap (λ (x : Reader). length x.stack) there;
              read_is = run-append widths (Some start) w.made written.0 ∙ ap (λ s. run widths s written.0) agrees.read_is
                  ∙ right-by-register o w (mid [] r) ops sets ∙ ap (λ (x : Reader). Some (twin (moved_right o here) x)) there;
            };
          }

      downwards : is_down o ≡ true → o - 156 < length bytes → Whole (moved_down o here) r'
      downwards e l =
          let k = down-number o e in
          let long : length ops ≡ 1 + (o - 157) = let n = length-drop 1 bytes in let most = down_most e in omega (arith, n, most, l, k.0) in
          let sets : SetsDown o ops = subst (λ (n : ℕ). SetsDown n ops) (sym k.0) (sets-down (o - 157) ops k.1 long) in
          let written : List ℕ × Pair = by_register 157 o ops (signed (o - 156) ops) w.amounts.down in
          let there : with_registers (down_by (signed (o - 156) ops) r.now) (mid [] r) ≡ r' = some-is (sym (sets.plain (mid [] r)) ∙ is) in
          record {
            begun_is = refl;
            reader_is = ap (λ (x : Reader). x.begun) (sym there);
            agrees = record {
              stacks = agrees.stacks ∙ ap (λ (x : Reader). length x.stack) there;
              read_is = run-append widths (Some start) w.made written.0 ∙ ap (λ s. run widths s written.0) agrees.read_is
                  ∙ down-by-register o w (mid [] r) ops sets ∙ ap (λ (x : Reader). Some (twin (moved_down o here) x)) there;
            };
          }

      pushed-too : o ≡ 141 → Whole (copied (pushing here)) r'
      pushed-too e =
          let there : record (mid [] r) { stack = r.now ∷ r.stack } ≡ r' = some-is (ap (λ n. carried_out widths n ops (mid [] r)) (sym e) ∙ is) in
          record {
            begun_is = refl;
            reader_is = ap (λ (x : Reader). x.begun) (sym there);
            agrees = record {
              stacks = ap suc agrees.stacks ∙ ap (λ (x : Reader). length x.stack) there;
              read_is = copies-read w (pushing here) r (carried_out widths o ops (twin w r)) agrees (whole (twin w r)) refl
                  ∙ ap (λ n. carried_out widths n ops (twin w r)) e ∙ ap (λ (x : Reader). Some (twin (copied (pushing here)) x)) there;
            };
          }

      popped-too : o ≡ 142 → Whole (copied (popping w.pushed here)) r'
      popped-too e =
          let p : Pops here (popping w.pushed here) (mid [] r) r' (popped (all_dressed w.pushed r.stack) (twin w r))
          = pops-both here (mid [] r) r' w.pushed r.stack agrees.stacks (ap (λ n. carried_out widths n ops (mid [] r)) (sym e) ∙ is) in
          record {
            begun_is = refl;
            reader_is = p.begun_is;
            agrees = record {
              stacks = p.stacks;
              read_is = (λ i. run widths (Some start) (popping-made w.pushed here i ++ popping-begun w.pushed here i))
                  ∙ copies-read w here r (carried_out widths o ops (twin w r)) agrees (whole (twin w r)) refl
                  ∙ ap (λ n. carried_out widths n ops (twin w r)) e ∙ p.twin_is;
            };
          }

      copied-too : is_right o ≡ false → is_down o ≡ false → (o == 141) ≡ false → (o == 142) ≡ false → Whole (copied here) r'
      copied-too e f g h =
          let others : is_other o ≡ true = or-cut h (or-cut g (or-cut f (or-cut e plain))) in
          let k : Keeps w (mid [] r) r' (carried_out widths o ops (twin w (mid [] r)))
          = keeps (nat_lt o 128) (is_font_number o) (o == 128) (o == 235) (o == 243) (o == 132) (o == 137) (o == 138) (o == 141) (o == 142) (nat_le 239 o) g h others o ops w (mid [] r) r' is in
          record {
            begun_is = refl;
            reader_is = k.begun_is;
            agrees = record {
              stacks = agrees.stacks ∙ ap length (sym k.stack_is);
              read_is = copies-read w here r (carried_out widths o ops (twin w r)) agrees (whole (twin w r)) refl ∙ k.twin_is;
            };
          }

      carried : (out : Writer) → Turn here out → Whole out r'
      carried out (right_waits e l same) =
          let m : Some more ≡ Some (o - 142) = sym operands_are ∙ right-operands o bytes e in let n : more ≡ o - 142 = some-is m in absurd (omega (arith, n, l, past))
      carried out (right_moves e l same) = subst (λ (v : Writer). Whole v r') (sym same) (rightwards e l)
      carried out (down_waits e l same) =
          let m : Some more ≡ Some (o - 156) = sym operands_are ∙ down-operands o bytes e in let n : more ≡ o - 156 = some-is m in absurd (omega (arith, n, l, past))
      carried out (down_moves e l same) = subst (λ (v : Writer). Whole v r') (sym same) (downwards e l)
      carried out (pushes e same) = subst (λ (v : Writer). Whole v r') (sym same) (pushed-too e)
      carried out (pops e same) = subst (λ (v : Writer). Whole v r') (sym same) (popped-too e)
      carried out (fails x same) = absurd (let no : None ≡ Some more = sym x ∙ operands_are in cc)
      carried out (other_waits n e f x l same) = let m : n ≡ more = some-is (sym x ∙ operands_are) in absurd (omega (arith, m, l, past))
      carried out (copies n e f g h x l same) = subst (λ (v : Writer). Whole v r') (sym same) (copied-too e f g h)

    -- a command that isn't whole waits
    waits : (w out : Writer) (more : ℕ) → Turn w out → operands (opcode_in w) w.begun ≡ Some more → length w.begun ≤ more → 1 ≤ length w.begun → out ≡ w
    waits w out more (right_waits e l same) x part some = same
    waits w out more (right_moves e l same) x part some =
        let m : Some more ≡ Some (opcode_in w - 142) = sym x ∙ right-operands (opcode_in w) w.begun e in let n : more ≡ opcode_in w - 142 = some-is m in absurd (omega (arith, n, l, part))
    waits w out more (down_waits e l same) x part some = same
    waits w out more (down_moves e l same) x part some =
        let m : Some more ≡ Some (opcode_in w - 156) = sym x ∙ down-operands (opcode_in w) w.begun e in let n : more ≡ opcode_in w - 156 = some-is m in absurd (omega (arith, n, l, part))
    waits w out more (pushes e same) x part some = let m : Some more ≡ Some 0 = sym x ∙ push-operands (opcode_in w) w.begun e in let n : more ≡ 0 = some-is m in absurd (omega (arith, n, part, some))
    waits w out more (pops e same) x part some = let m : Some more ≡ Some 0 = sym x ∙ pop-operands (opcode_in w) w.begun e in let n : more ≡ 0 = some-is m in absurd (omega (arith, n, part, some))
    waits w out more (fails y same) x part some = absurd (let no : None ≡ Some more = sym y ∙ x in cc)
    waits w out more (other_waits n e f y l same) x part some = same
    waits w out more (copies n e f g h y l same) x part some = let m : n ≡ more = some-is (sym y ∙ x) in absurd (omega (arith, m, l, part))

    -- at the end of plain commands both readers have met the same
    record Ends (w : Writer) (r : Reader) : Type 0 where
      begun_is : w.begun ≡ r.begun
      agrees : Agrees w r

    -- the readers end alike behind these bytes, wherever they stand before them
    abbrev EndsBehind : List ℕ → List ℕ → Reader → Type 0
    EndsBehind rest s r' = (b : List ℕ) (w : Writer) (r : Reader) → Agrees w r → Gathers b → Few b → fold scan (Some b) rest ≡ Some s → run widths (Some (mid b r)) rest ≡ Some r' → Ends (fold write (at b w) rest) r'

    -- so they do behind one byte more, before these
    module _ (rest s : List ℕ) (r' : Reader) (again : EndsBehind rest s r') (byte : ℕ) (b : List ℕ) (w : Writer) (r : Reader) (agrees : Agrees w r) (gathers : Gathers b) (few : Few b) where
      abbrev bytes : List ℕ
      bytes = b ++ byte ∷ []

      abbrev number : ℕ
      number = get_or (b ++ byte ∷ []) 0 0

      abbrev before : Writer
      before = at (b ++ byte ∷ []) w

      abbrev next : Writer
      next = taken (get_or (b ++ byte ∷ []) 0 0) (at (b ++ byte ∷ []) w)

      one : length bytes ≡ length b + 1
      one = length-append b (byte ∷ [])

      goes : (q : Reader) → Whole next q → fold scan (Some []) rest ≡ Some s → run widths (Some q) rest ≡ Some r' → Ends (fold write next rest) r'
      goes q whole plain is =
          let reader_is : q ≡ mid [] q = λ i. record q { begun = whole.reader_is i } in
          let writer_is : at [] next ≡ next = λ i. record next { begun = sym whole.begun_is i } in
          subst (λ (v : Writer). Ends (fold write v rest) r') writer_is
          (again [] next q whole.agrees gathers-none none-few plain (ap (λ (x : Reader). run widths (Some x) rest) (sym reader_is) ∙ is))

      carries : (more : ℕ) → operands number bytes ≡ Some more → nat_le (length bytes) more ≡ false → (p : Bool) → is_plain number ≡ p → fold scan (cond {A = Option (List ℕ)} p (Some []) None) rest ≡ Some s
          → (c : Option Reader) → carried_out widths number (drop 1 bytes) (mid [] r) ≡ c → run widths c rest ≡ Some r' → Ends (fold write next rest) r'
      carries more x past false p plain c is_c is = absurd (let no : None ≡ Some s = sym (scan-none rest) ∙ plain in cc)
      carries more x past true p plain None is_c is = absurd (let no : None ≡ Some r' = sym (run-none rest) ∙ is in cc)
      carries more x past true p plain (Some q) is_c is =
          goes q
          (carried w r q bytes more agrees x (leb-false _ _ past) (right-few b byte few) (down-few b byte few) p (gathers-whole b byte more gathers x past) is_c next (turn before))
          plain is

      tested : (more : ℕ) → operands number bytes ≡ Some more → (t : Bool) → nat_le (length bytes) more ≡ t
          → fold scan (cond {A = Option (List ℕ)} t (Some bytes) (cond {A = Option (List ℕ)} (is_plain number) (Some []) None)) rest ≡ Some s
          → run widths (cond {A = Option Reader} t (Some (mid bytes r)) (carried_out widths number (drop 1 bytes) (mid [] r))) rest ≡ Some r'
          → Ends (fold write next rest) r'
      tested more x true part plain is =
          let still : next ≡ before = waits before next more (turn before) x (leb-true _ _ part) (omega (arith, one)) in
          subst (λ (v : Writer). Ends (fold write v rest) r') (sym still)
          (again bytes w r agrees (gathers-more b byte more gathers x part) (subst (λ (v : Writer). Few v.begun) still (few-behind before next (turn before))) plain is)
      tested more x false past plain is = carries more x past (is_plain number) refl plain (carried_out widths number (drop 1 bytes) (mid [] r)) refl is

      ends-behind : (x : Option ℕ) → operands number bytes ≡ x → fold scan (scanned x bytes) rest ≡ Some s → run widths (when_whole widths x bytes (mid b r)) rest ≡ Some r' → Ends (fold write next rest) r'
      ends-behind None x plain is = absurd (let no : None ≡ Some r' = sym (run-none rest) ∙ is in cc)
      ends-behind (Some more) x plain is = tested more x (nat_le (length bytes) more) refl plain is

    ends : (rest s : List ℕ) (r' : Reader) → EndsBehind rest s r'
    ends [] s r' b w r agrees gathers few plain is =
        let there : mid b r ≡ r' = some-is is in
        subst (Ends (at b w)) there (record { begun_is = refl; agrees = record { stacks = agrees.stacks; read_is = agrees.read_is } })
    ends (byte ∷ rest) s r' b w r agrees gathers few plain is =
        ends-behind rest s r' (ends rest s r') byte b w r agrees gathers few (operands (get_or (b ++ byte ∷ []) 0 0) (b ++ byte ∷ [])) refl plain is

-- where nothing is left of both, they bring the same page
brings : (widths : Widths) (known plain : List ℕ) (contents : Contents) (r : Reader) → Ends widths (page_start known) (fold write page_writer plain) r → (t : Bool) → (length r.stack + length r.begun == 0) ≡ t
    → cond {A = Option Contents} t (Some (record { placed = r.met; fonts = r.fonts.defined })) None ≡ Some contents
    → all_met (run widths (Some (page_start known)) ((fold write page_writer plain).made ++ (fold write page_writer plain).begun)) ≡ Some contents
brings widths known plain contents r there false f met = absurd (cc)
brings widths known plain contents r there true f met =
    let nothing : length r.stack + length r.begun ≡ 0 = eqb-true _ _ f in
    let begun_none : (fold write page_writer plain).begun ≡ [] = there.begun_is ∙ nil-is r.begun (omega (arith, nothing)) in
    let pushed_none : (fold write page_writer plain).pushed ≡ [] = nil-is (fold write page_writer plain).pushed (let n = there.agrees.stacks in omega (arith, n, nothing)) in
    ap (λ (bytes : List ℕ). all_met (run widths (Some (page_start known)) ((fold write page_writer plain).made ++ bytes))) begun_none
    ∙ ap (λ (bytes : List ℕ). all_met (run widths (Some (page_start known)) bytes)) (append-nil (fold write page_writer plain).made)
    ∙ ap all_met there.agrees.read_is
    ∙ ap (λ (p : List Amounts). cond {A = Option Contents} (length (all_dressed p r.stack) + 0 == 0) (Some (record { placed = r.met; fonts = r.fonts.defined })) None) pushed_none
    ∙ met

-- so whatever whole plain commands mean on a page, they mean with registers too
pub registered-means : (widths : Widths) (known : List ℕ) (plain : List ℕ) (contents : Contents) → Plainly plain → meaning widths known plain ≡ Some contents → meaning widths known (registered plain) ≡ Some contents
unfolding meaning registered
registered-means widths known plain contents plainly is = by (run widths (Some (page_start known)) plain) refl is
  where
    by : (o : Option Reader) → run widths (Some (page_start known)) plain ≡ o → all_met o ≡ Some contents
        → all_met (run widths (Some (page_start known)) ((fold write page_writer plain).made ++ (fold write page_writer plain).begun)) ≡ Some contents
    by None e met_is = absurd (cc)
    by (Some r) e met_is =
        let there : Ends widths (page_start known) (fold write page_writer plain) r
        = ends widths (page_start known) plain [] r [] page_writer (page_start known) (record { stacks = refl; read_is = refl }) (gathers-none widths (page_start known)) none-few plainly e in
        brings widths known plain contents r there (length r.stack + length r.begun == 0) refl met_is
