-- What the reader of a page does at the bytes of a command that may stand where it is.
use Rattle.std.proofs.Common.{◌≡◌, ℕ, zero, suc, ◌+◌, ◌*◌, ◌-◌, ◌^◌, ◌<◌, ◌≤◌, ◌==◌, ◌&&◌, nat_le, nat_lt, true, false, ℤ, pos, ◌+ℤ◌, List, [], ◌∷◌, ◌++◌, length, get_or, drop, map, Option, Some, None, is_some, refl, sym, ap, ◌∙◌, subst, inl, inr, arith, length-append}
use Rattle.std.proofs.lemmas.Bool.{and_from, and_right, cases_lt, le-leb, le-ltb, lt-ltb, cond-true, cond-false, ne_eqb}
use Rattle.std.proofs.lemmas.Int.{ints}
use Rattle.std.proofs.lemmas.List.{append-nil, drop-append-le, drop_all, get_or_append_left}
use Rattle.byteorder.specs.Endian.{big_from, big_number}
use Rattle.tx_dvi.specs.declared.placed.Registers.{Registers}
use Rattle.tx_dvi.specs.Dvi.{definition_bytes}
use Rattle.tx_dvi.specs.Meaning.{Reader as PageReader, carried_out, choose, choosing, is_font_number, is_known, movement_operands, moved, popped, set_character, signed, special_operands, with_character, with_fonts, with_registers}
use Rattle.tx_dvitype.specs.Files.{with_definition}
use Rattle.tx_dvitype.specs.Grammar.{Command, SetChar, Set1, SetRule, PutRule, Push, Pop, Right, W0, W, X0, X, Down, Y0, Y, Z0, Z, FntNum, Fnt1, Xxx, AreBytes, HasFont, IsAmount, amount, behind, command_bytes, defines, lettered, taken_back}
use Rattle.tx_dvitype.specs.Partial.{no_widths, is_within, may_begin, may_go, may_move, wanted, is_whole}
use Rattle.tx_dvitype.proofs.Amounts.{may-begin-amount}
use Rattle.tx_dvitype.proofs.Partials.{Moves, moves-so, movement-begins, movement-wanted, movement-carried}

pub record Spelled (q : PageReader) (c : Command) (opcode : ℕ) (ops : List ℕ) : Type 0 where
  pub are : command_bytes c ≡ opcode ∷ ops
  pub begins : (done text : List ℕ) → done ++ text ≡ ops → may_begin opcode done (record q { begun = opcode ∷ done }) ≡ true
  pub parts : (done text : List ℕ) (byte : ℕ) → done ++ byte ∷ text ≡ ops → (more : ℕ) × (wanted (opcode ∷ done) ≡ Some more) × (length (opcode ∷ done) ≤ more)
  pub whole : wanted (opcode ∷ ops) ≡ Some (length ops)
  pub carried : carried_out no_widths opcode ops q ≡ Some (behind c q)
  pub defined : (ds : List (List ℕ)) → with_definition (opcode ∷ ops) ds ≡ ds ++ map definition_bytes (defines c)

-- no bytes stand behind the first one
none-left : {P : Type 0} (done text : List ℕ) (byte : ℕ) → done ++ byte ∷ text ≡ [] → P
none-left [] text byte e = absurd (let no : suc (length text) ≡ 0 = ap (λ (xs : List ℕ). length xs) e in omega (arith, no))
none-left (x ∷ done) text byte e = absurd (let no : suc (length (done ++ byte ∷ text)) ≡ 0 = ap (λ (xs : List ℕ). length xs) e in omega (arith, no))

-- how many bytes do, where others follow
pub shorter : (done text ops : List ℕ) (byte : ℕ) → done ++ byte ∷ text ≡ ops → length done < length ops
shorter done text ops byte e = let same : length (done ++ byte ∷ text) ≡ length ops = ap (λ (xs : List ℕ). length xs) e in let all = length-append done (byte ∷ text) in omega (arith, same, all)

-- a command that defines no font
pub no-definition : (opcode : ℕ) (ops : List ℕ) → (opcode == 243) ≡ false → (ds : List (List ℕ)) → with_definition (opcode ∷ ops) ds ≡ ds ++ []
no-definition opcode ops other ds = cond-false (is_whole (opcode ∷ ops) && opcode == 243) (ds ++ (opcode ∷ ops) ∷ []) ds (and_right (is_whole (opcode ∷ ops)) (opcode == 243) other) ∙ sym (append-nil ds)

-- characters
stays : (z : ℤ) → z +ℤ pos 0 ≡ z
stays z = omega (arith, ints)

some-font : (chosen : Option ℕ) → HasFont chosen → is_some chosen ≡ true
some-font chosen has = ap (λ (o : Option ℕ). is_some o) has.1

set-is : (code : ℕ) (chosen : Option ℕ) (q : PageReader) → HasFont chosen → set_character no_widths code chosen q ≡ Some (lettered code chosen q)
set-is code chosen q has =
    ap (λ (o : Option ℕ). set_character no_widths code o q) has.1
    ∙ (λ i. Some (with_registers (record q.now { h = stays q.now.h i }) (with_character has.0 code q)))
    ∙ ap (λ (o : Option ℕ). Some (lettered code o q)) (sym has.1)

-- the number in the first bytes
pub from-front : (n i : ℕ) (xs ys : List ℕ) → i + n ≤ length xs → big_from i n (xs ++ ys) ≡ big_from i n xs
from-front zero i xs ys fits = refl
from-front (suc n) i xs ys fits =
    λ j. get_or_append_left xs ys 0 i (omega (arith, fits)) j * 256 ^ n + from-front n (suc i) xs ys (omega (arith, fits)) j

module _ (q : PageReader) where
  pub spelled-set_char : (code : ℕ) → code < 128 → HasFont q.fonts.chosen → Spelled q (SetChar code) code []
  unfolding may_begin wanted
  spelled-set_char code low has = record {
    are = refl;
    begins = λ done text e. rw (lt-ltb code 128 low) (some-font q.fonts.chosen has);
    parts = λ done text byte e. none-left done text byte e;
    whole = rw (lt-ltb code 128 low) refl;
    carried = rw (lt-ltb code 128 low) (set-is code q.fonts.chosen q has);
    defined = no-definition code [] (ne_eqb code 243 (λ e. omega (arith, low, e)));
  }

  one-left : {P : Type 0} (x : ℕ) (done text : List ℕ) (byte : ℕ) → done ++ byte ∷ text ≡ x ∷ [] → (done ≡ [] → P) → P
  one-left x [] text byte e goes = goes refl
  one-left x (y ∷ done) text byte e goes = none-left done text byte (ap (λ (xs : List ℕ). drop 1 xs) e)

  pub spelled-set1 : (code : ℕ) → HasFont q.fonts.chosen → Spelled q (Set1 code) 128 (code ∷ [])
  unfolding may_begin wanted
  spelled-set1 code has = record {
    are = refl;
    begins = λ done text e. some-font q.fonts.chosen has;
    parts = λ done text byte e. (1, refl, (let less = shorter done text (code ∷ []) byte e in omega (arith, less)));
    whole = refl;
    carried = set-is code q.fonts.chosen q has;
    defined = no-definition 128 (code ∷ []) refl;
  }

  -- fonts
  no-character : (number : ℕ) → nat_lt (171 + number) 128 ≡ false
  no-character number = le-ltb (171 + number) 128 (omega arith)

  font-opcode : (number : ℕ) → number < 64 → is_font_number (171 + number) ≡ true
  font-opcode number h = and_from (nat_le 171 (171 + number)) (nat_le (171 + number) 234) (le-leb 171 (171 + number) (omega arith)) (le-leb (171 + number) 234 (omega (arith, h)))

  chosen-is : (number : ℕ) → is_known number q.fonts.known ≡ true → choose number q ≡ Some (with_fonts (choosing number q.fonts) q)
  chosen-is number known = cond-true (is_known number q.fonts.known) (Some (with_fonts (choosing number q.fonts) q)) None known

  pub spelled-fnt_num : (number : ℕ) → number < 64 → is_known number q.fonts.known ≡ true → Spelled q (FntNum number) (171 + number) []
  unfolding may_begin wanted
  spelled-fnt_num number low known =
      let back : (171 + number) - 171 ≡ number = omega arith in
      record {
        are = refl;
        begins = λ done text e. rw (no-character number, font-opcode number low) (ap (λ n. is_known n q.fonts.known) back ∙ known);
        parts = λ done text byte e. none-left done text byte e;
        whole = rw (no-character number, font-opcode number low) refl;
        carried = rw (no-character number, font-opcode number low) (ap (λ n. choose n q) back ∙ chosen-is number known);
        defined = no-definition (171 + number) [] (ne_eqb (171 + number) 243 (λ e. omega (arith, low, e)));
      }

  some-known : (number : ℕ) (known : List ℕ) → is_known number known ≡ true → nat_lt 0 (length known) ≡ true
  some-known number [] e = e
  some-known number (k ∷ known) e = lt-ltb 0 (suc (length known)) (omega arith)

  choice-begins : (number : ℕ) → is_known number q.fonts.known ≡ true → (done text : List ℕ) → done ++ text ≡ number ∷ [] → may_begin 235 done (record q { begun = 235 ∷ done }) ≡ true
  unfolding may_begin
  choice-begins number known [] text e = some-known number q.fonts.known known
  choice-begins number known (x ∷ done) text e = (let same : x ≡ number = ap (λ (xs : List ℕ). get_or xs 0 0) e in ap (λ n. is_known n q.fonts.known) same) ∙ known

  pub spelled-fnt1 : (number : ℕ) → is_known number q.fonts.known ≡ true → Spelled q (Fnt1 number) 235 (number ∷ [])
  unfolding wanted
  spelled-fnt1 number known = record {
    are = refl;
    begins = choice-begins number known;
    parts = λ done text byte e. (1, refl, (let less = shorter done text (number ∷ []) byte e in omega (arith, less)));
    whole = refl;
    carried = chosen-is number known;
    defined = no-definition 235 (number ∷ []) refl;
  }

  -- push and pop
  pub spelled-push : Spelled q Push 141 []
  unfolding may_begin wanted
  spelled-push = record {
    are = refl;
    begins = λ done text e. refl;
    parts = λ done text byte e. none-left done text byte e;
    whole = refl;
    carried = refl;
    defined = no-definition 141 [] refl;
  }

  popped-is : (stack : List Registers) → 0 < length stack → popped stack q ≡ Some (taken_back stack q)
  popped-is [] some = absurd (omega (arith, some))
  popped-is (last ∷ others) some = refl

  pub spelled-pop : 0 < length q.stack → Spelled q Pop 142 []
  unfolding may_begin wanted
  spelled-pop some = record {
    are = refl;
    begins = λ done text e. lt-ltb 0 (length q.stack) some;
    parts = λ done text byte e. none-left done text byte e;
    whole = refl;
    carried = popped-is q.stack some;
    defined = no-definition 142 [] refl;
  }

  -- movements by a register
  pub spelled-w0 : Spelled q W0 147 []
  unfolding may_begin wanted
  spelled-w0 = record { are = refl; begins = λ done text e. refl; parts = λ done text byte e. none-left done text byte e; whole = refl; carried = refl; defined = no-definition 147 [] refl }

  pub spelled-x0 : Spelled q X0 152 []
  unfolding may_begin wanted
  spelled-x0 = record { are = refl; begins = λ done text e. refl; parts = λ done text byte e. none-left done text byte e; whole = refl; carried = refl; defined = no-definition 152 [] refl }

  pub spelled-y0 : Spelled q Y0 161 []
  unfolding may_begin wanted
  spelled-y0 = record { are = refl; begins = λ done text e. refl; parts = λ done text byte e. none-left done text byte e; whole = refl; carried = refl; defined = no-definition 161 [] refl }

  pub spelled-z0 : Spelled q Z0 166 []
  unfolding may_begin wanted
  spelled-z0 = record { are = refl; begins = λ done text e. refl; parts = λ done text byte e. none-left done text byte e; whole = refl; carried = refl; defined = no-definition 166 [] refl }

  -- movements by an amount
  module _ (c : Command) (opcode : ℕ) (size : List ℕ) (are : command_bytes c ≡ opcode ∷ size) (least : 143 ≤ opcode) (most : opcode ≤ 170) (operands_are : movement_operands opcode ≡ length size) (few : length size ≤ 4) (bytes : AreBytes size) (none : [] ≡ defines c)
      (moves : with_registers (moved opcode (signed (movement_operands opcode) size) q.now) q ≡ behind c q) where
    pub spelled-move : (place : ℤ) → ((done : List ℕ) → may_go opcode done q.now ≡ may_move place (movement_operands opcode) done) → is_within place ≡ true → is_within (place +ℤ amount size) ≡ true → Spelled q c opcode size
    unfolding wanted
    spelled-move place goes here there =
        let m : Moves opcode = moves-so opcode least most in
        record {
          are = are;
          begins = λ done text e.
              movement-begins opcode m done (record q { begun = opcode ∷ done }) ∙ goes done
              ∙ (λ i. may_move place ((operands_are ∙ ap (λ (xs : List ℕ). length xs) (sym e)) i) done)
              ∙ may-begin-amount place here done text (subst (λ (xs : List ℕ). AreBytes xs) (sym e) bytes) (subst (λ (xs : List ℕ). length xs ≤ 4) (sym e) few)
              (subst (λ (xs : List ℕ). is_within (place +ℤ signed (length xs) xs) ≡ true) (sym e) there);
          parts = λ done text byte e. (movement_operands opcode, movement-wanted opcode m done, (let less = shorter done text size byte e in omega (arith, less, operands_are)));
          whole = movement-wanted opcode m size ∙ ap (λ (n : ℕ). Some n) operands_are;
          carried = movement-carried opcode m size q ∙ ap (λ (p : PageReader). Some p) moves;
          defined = λ ds. no-definition opcode size (ne_eqb opcode 243 (λ e. omega (arith, most, e))) ds ∙ (λ i. ds ++ map definition_bytes (none i));
        }

  pub spelled-right : (size : List ℕ) → IsAmount size → AreBytes size → is_within q.now.h ≡ true → is_within (q.now.h +ℤ amount size) ≡ true → Spelled q (Right size) (142 + length size) size
  spelled-right [] is bytes here there = absurd (let least : 1 ≤ 0 = is.0 in omega (arith, least))
  spelled-right (a ∷ []) is bytes here there = spelled-move (Right (a ∷ [])) 143 (a ∷ []) refl (omega arith) (omega arith) refl (omega arith) bytes refl refl q.now.h (λ done. refl) here there
  spelled-right (a ∷ b ∷ []) is bytes here there = spelled-move (Right (a ∷ b ∷ [])) 144 (a ∷ b ∷ []) refl (omega arith) (omega arith) refl (omega arith) bytes refl refl q.now.h (λ done. refl) here there
  spelled-right (a ∷ b ∷ c ∷ []) is bytes here there = spelled-move (Right (a ∷ b ∷ c ∷ [])) 145 (a ∷ b ∷ c ∷ []) refl (omega arith) (omega arith) refl (omega arith) bytes refl refl q.now.h (λ done. refl) here there
  spelled-right (a ∷ b ∷ c ∷ d ∷ []) is bytes here there = spelled-move (Right (a ∷ b ∷ c ∷ d ∷ [])) 146 (a ∷ b ∷ c ∷ d ∷ []) refl (omega arith) (omega arith) refl (omega arith) bytes refl refl q.now.h (λ done. refl) here there
  spelled-right (a ∷ b ∷ c ∷ d ∷ e ∷ size) is bytes here there = absurd (let most : length (a ∷ b ∷ c ∷ d ∷ e ∷ size) ≤ 4 = is.1 in omega (arith, most))

  pub spelled-w : (size : List ℕ) → IsAmount size → AreBytes size → is_within q.now.h ≡ true → is_within (q.now.h +ℤ amount size) ≡ true → Spelled q (W size) (147 + length size) size
  spelled-w [] is bytes here there = absurd (let least : 1 ≤ 0 = is.0 in omega (arith, least))
  spelled-w (a ∷ []) is bytes here there = spelled-move (W (a ∷ [])) 148 (a ∷ []) refl (omega arith) (omega arith) refl (omega arith) bytes refl refl q.now.h (λ done. refl) here there
  spelled-w (a ∷ b ∷ []) is bytes here there = spelled-move (W (a ∷ b ∷ [])) 149 (a ∷ b ∷ []) refl (omega arith) (omega arith) refl (omega arith) bytes refl refl q.now.h (λ done. refl) here there
  spelled-w (a ∷ b ∷ c ∷ []) is bytes here there = spelled-move (W (a ∷ b ∷ c ∷ [])) 150 (a ∷ b ∷ c ∷ []) refl (omega arith) (omega arith) refl (omega arith) bytes refl refl q.now.h (λ done. refl) here there
  spelled-w (a ∷ b ∷ c ∷ d ∷ []) is bytes here there = spelled-move (W (a ∷ b ∷ c ∷ d ∷ [])) 151 (a ∷ b ∷ c ∷ d ∷ []) refl (omega arith) (omega arith) refl (omega arith) bytes refl refl q.now.h (λ done. refl) here there
  spelled-w (a ∷ b ∷ c ∷ d ∷ e ∷ size) is bytes here there = absurd (let most : length (a ∷ b ∷ c ∷ d ∷ e ∷ size) ≤ 4 = is.1 in omega (arith, most))

  pub spelled-x : (size : List ℕ) → IsAmount size → AreBytes size → is_within q.now.h ≡ true → is_within (q.now.h +ℤ amount size) ≡ true → Spelled q (X size) (152 + length size) size
  spelled-x [] is bytes here there = absurd (let least : 1 ≤ 0 = is.0 in omega (arith, least))
  spelled-x (a ∷ []) is bytes here there = spelled-move (X (a ∷ [])) 153 (a ∷ []) refl (omega arith) (omega arith) refl (omega arith) bytes refl refl q.now.h (λ done. refl) here there
  spelled-x (a ∷ b ∷ []) is bytes here there = spelled-move (X (a ∷ b ∷ [])) 154 (a ∷ b ∷ []) refl (omega arith) (omega arith) refl (omega arith) bytes refl refl q.now.h (λ done. refl) here there
  spelled-x (a ∷ b ∷ c ∷ []) is bytes here there = spelled-move (X (a ∷ b ∷ c ∷ [])) 155 (a ∷ b ∷ c ∷ []) refl (omega arith) (omega arith) refl (omega arith) bytes refl refl q.now.h (λ done. refl) here there
  spelled-x (a ∷ b ∷ c ∷ d ∷ []) is bytes here there = spelled-move (X (a ∷ b ∷ c ∷ d ∷ [])) 156 (a ∷ b ∷ c ∷ d ∷ []) refl (omega arith) (omega arith) refl (omega arith) bytes refl refl q.now.h (λ done. refl) here there
  spelled-x (a ∷ b ∷ c ∷ d ∷ e ∷ size) is bytes here there = absurd (let most : length (a ∷ b ∷ c ∷ d ∷ e ∷ size) ≤ 4 = is.1 in omega (arith, most))

  pub spelled-down : (size : List ℕ) → IsAmount size → AreBytes size → is_within q.now.v ≡ true → is_within (q.now.v +ℤ amount size) ≡ true → Spelled q (Down size) (156 + length size) size
  spelled-down [] is bytes here there = absurd (let least : 1 ≤ 0 = is.0 in omega (arith, least))
  spelled-down (a ∷ []) is bytes here there = spelled-move (Down (a ∷ [])) 157 (a ∷ []) refl (omega arith) (omega arith) refl (omega arith) bytes refl refl q.now.v (λ done. refl) here there
  spelled-down (a ∷ b ∷ []) is bytes here there = spelled-move (Down (a ∷ b ∷ [])) 158 (a ∷ b ∷ []) refl (omega arith) (omega arith) refl (omega arith) bytes refl refl q.now.v (λ done. refl) here there
  spelled-down (a ∷ b ∷ c ∷ []) is bytes here there = spelled-move (Down (a ∷ b ∷ c ∷ [])) 159 (a ∷ b ∷ c ∷ []) refl (omega arith) (omega arith) refl (omega arith) bytes refl refl q.now.v (λ done. refl) here there
  spelled-down (a ∷ b ∷ c ∷ d ∷ []) is bytes here there = spelled-move (Down (a ∷ b ∷ c ∷ d ∷ [])) 160 (a ∷ b ∷ c ∷ d ∷ []) refl (omega arith) (omega arith) refl (omega arith) bytes refl refl q.now.v (λ done. refl) here there
  spelled-down (a ∷ b ∷ c ∷ d ∷ e ∷ size) is bytes here there = absurd (let most : length (a ∷ b ∷ c ∷ d ∷ e ∷ size) ≤ 4 = is.1 in omega (arith, most))

  pub spelled-y : (size : List ℕ) → IsAmount size → AreBytes size → is_within q.now.v ≡ true → is_within (q.now.v +ℤ amount size) ≡ true → Spelled q (Y size) (161 + length size) size
  spelled-y [] is bytes here there = absurd (let least : 1 ≤ 0 = is.0 in omega (arith, least))
  spelled-y (a ∷ []) is bytes here there = spelled-move (Y (a ∷ [])) 162 (a ∷ []) refl (omega arith) (omega arith) refl (omega arith) bytes refl refl q.now.v (λ done. refl) here there
  spelled-y (a ∷ b ∷ []) is bytes here there = spelled-move (Y (a ∷ b ∷ [])) 163 (a ∷ b ∷ []) refl (omega arith) (omega arith) refl (omega arith) bytes refl refl q.now.v (λ done. refl) here there
  spelled-y (a ∷ b ∷ c ∷ []) is bytes here there = spelled-move (Y (a ∷ b ∷ c ∷ [])) 164 (a ∷ b ∷ c ∷ []) refl (omega arith) (omega arith) refl (omega arith) bytes refl refl q.now.v (λ done. refl) here there
  spelled-y (a ∷ b ∷ c ∷ d ∷ []) is bytes here there = spelled-move (Y (a ∷ b ∷ c ∷ d ∷ [])) 165 (a ∷ b ∷ c ∷ d ∷ []) refl (omega arith) (omega arith) refl (omega arith) bytes refl refl q.now.v (λ done. refl) here there
  spelled-y (a ∷ b ∷ c ∷ d ∷ e ∷ size) is bytes here there = absurd (let most : length (a ∷ b ∷ c ∷ d ∷ e ∷ size) ≤ 4 = is.1 in omega (arith, most))

  pub spelled-z : (size : List ℕ) → IsAmount size → AreBytes size → is_within q.now.v ≡ true → is_within (q.now.v +ℤ amount size) ≡ true → Spelled q (Z size) (166 + length size) size
  spelled-z [] is bytes here there = absurd (let least : 1 ≤ 0 = is.0 in omega (arith, least))
  spelled-z (a ∷ []) is bytes here there = spelled-move (Z (a ∷ [])) 167 (a ∷ []) refl (omega arith) (omega arith) refl (omega arith) bytes refl refl q.now.v (λ done. refl) here there
  spelled-z (a ∷ b ∷ []) is bytes here there = spelled-move (Z (a ∷ b ∷ [])) 168 (a ∷ b ∷ []) refl (omega arith) (omega arith) refl (omega arith) bytes refl refl q.now.v (λ done. refl) here there
  spelled-z (a ∷ b ∷ c ∷ []) is bytes here there = spelled-move (Z (a ∷ b ∷ c ∷ [])) 169 (a ∷ b ∷ c ∷ []) refl (omega arith) (omega arith) refl (omega arith) bytes refl refl q.now.v (λ done. refl) here there
  spelled-z (a ∷ b ∷ c ∷ d ∷ []) is bytes here there = spelled-move (Z (a ∷ b ∷ c ∷ d ∷ [])) 170 (a ∷ b ∷ c ∷ d ∷ []) refl (omega arith) (omega arith) refl (omega arith) bytes refl refl q.now.v (λ done. refl) here there
  spelled-z (a ∷ b ∷ c ∷ d ∷ e ∷ size) is bytes here there = absurd (let most : length (a ∷ b ∷ c ∷ d ∷ e ∷ size) ≤ 4 = is.1 in omega (arith, most))

  -- rules
  rule-parts : (done text height width : List ℕ) (byte : ℕ) → length height ≡ 4 → length width ≡ 4 → done ++ byte ∷ text ≡ height ++ width → suc (length done) ≤ 8
  rule-parts done text height width byte four other e = let less = shorter done text (height ++ width) byte e in let all = length-append height width in omega (arith, less, all, four, other)

  eight : (height width : List ℕ) → length height ≡ 4 → length width ≡ 4 → Some 8 ≡ Some (length (height ++ width))
  eight height width four other = let all = length-append height width in let same : 8 ≡ length (height ++ width) = omega (arith, all, four, other) in ap (λ (n : ℕ). Some n) same

  -- four bytes
  record Four (xs : List ℕ) : Type 0 where
    a : ℕ
    b : ℕ
    c : ℕ
    d : ℕ
    is : xs ≡ a ∷ b ∷ c ∷ d ∷ []

  four-are : (xs : List ℕ) → length xs ≡ 4 → Four xs
  four-are [] e = absurd (omega (arith, e))
  four-are (a ∷ []) e = absurd (omega (arith, e))
  four-are (a ∷ b ∷ []) e = absurd (omega (arith, e))
  four-are (a ∷ b ∷ c ∷ []) e = absurd (omega (arith, e))
  four-are (a ∷ b ∷ c ∷ d ∷ []) e = record { a = a; b = b; c = c; d = d; is = refl }
  four-are (a ∷ b ∷ c ∷ d ∷ x ∷ xs) e = absurd (omega (arith, e))

  passes : (done text height width : List ℕ) → length height ≡ 4 → length width ≡ 4 → AreBytes width → is_within q.now.h ≡ true → is_within (q.now.h +ℤ signed 4 width) ≡ true → done ++ text ≡ height ++ width → may_move q.now.h 4 (drop 4 done) ≡ true
  passes done text height width four other bytes here there e = elim (cases_lt (length done) 4) [
    | inl few ↦ (let none : drop 4 done ≡ [] = drop_all 4 done (omega (arith, few)) in (λ i. may_move q.now.h 4 (none i)) ∙ begins [] width refl)
    | inr many ↦ begins (drop 4 done) text (sym (drop-append-le 4 done text many) ∙ ap (λ (xs : List ℕ). drop 4 xs) e ∙ behind-height)
  ]
    where
      behind-height : drop 4 (height ++ width) ≡ width
      behind-height = let t : Four height = four-are height four in λ i. drop 4 (t.is i ++ width)

      begins : (xs ys : List ℕ) → xs ++ ys ≡ width → may_move q.now.h 4 xs ≡ true
      begins xs ys f =
          let long : length (xs ++ ys) ≡ 4 = ap (λ (zs : List ℕ). length zs) f ∙ other in
          (λ i. may_move q.now.h (sym long i) xs)
          ∙ may-begin-amount q.now.h here xs ys (subst (λ (zs : List ℕ). AreBytes zs) (sym f) bytes) (omega (arith, long)) ((λ i. is_within (q.now.h +ℤ signed (long i) (f i))) ∙ there)

  pub set_rule-carried : (height width : List ℕ) → length height ≡ 4 → length width ≡ 4 → carried_out no_widths 132 (height ++ width) q ≡ Some (behind (SetRule height width) q)
  set_rule-carried height width four other =
      let t : Four height = four-are height four in
      let u : Four width = four-are width other in
      (λ i. carried_out no_widths 132 (t.is i ++ u.is i) q) ∙ sym (λ i. Some (behind (SetRule (t.is i) (u.is i)) q))

  pub spelled-set_rule : (height width : List ℕ) → length height ≡ 4 → length width ≡ 4 → AreBytes width → is_within q.now.h ≡ true → is_within (q.now.h +ℤ signed 4 width) ≡ true → Spelled q (SetRule height width) 132 (height ++ width)
  unfolding may_begin wanted
  spelled-set_rule height width four other bytes here there =
      record {
        are = refl;
        begins = λ done text e. passes done text height width four other bytes here there e;
        parts = λ done text byte e. (8, refl, rule-parts done text height width byte four other e);
        whole = eight height width four other;
        carried = set_rule-carried height width four other;
        defined = no-definition 132 (height ++ width) refl;
      }

  pub spelled-put_rule : (height width : List ℕ) → length height ≡ 4 → length width ≡ 4 → Spelled q (PutRule height width) 137 (height ++ width)
  unfolding may_begin wanted
  spelled-put_rule height width four other =
      let t : Four height = four-are height four in
      let u : Four width = four-are width other in
      record {
        are = refl;
        begins = λ done text e. refl;
        parts = λ done text byte e. (8, refl, rule-parts done text height width byte four other e);
        whole = eight height width four other;
        carried = (λ i. carried_out no_widths 137 (t.is i ++ u.is i) q) ∙ sym (λ i. Some (behind (PutRule (t.is i) (u.is i)) q));
        defined = no-definition 137 (height ++ width) refl;
      }

  -- specials
  special-operands-are : (opcode n : ℕ) (done text size special : List ℕ) → done ++ text ≡ size ++ special → length size ≡ n → big_number n size ≡ length special → n ≤ length done → special_operands n (opcode ∷ done) ≡ n + length special
  special-operands-are opcode n done text size special e long is many =
      cond-true (nat_lt n (suc (length done))) (n + big_number n done) n (lt-ltb n (suc (length done)) (omega (arith, many)))
      ∙ ap (λ (m : ℕ). n + m) (sym (from-front n 0 done text (omega (arith, many))) ∙ ap (λ (xs : List ℕ). big_number n xs) e ∙ from-front n 0 size special (omega (arith, long)) ∙ is)

  special-parts : (opcode n : ℕ) (done text size special : List ℕ) (byte : ℕ) → done ++ byte ∷ text ≡ size ++ special → length size ≡ n → big_number n size ≡ length special → suc (length done) ≤ special_operands n (opcode ∷ done)
  special-parts opcode n done text size special byte e long is = elim (cases_lt (length done) n) [
    | inl few ↦ (let same : special_operands n (opcode ∷ done) ≡ n = cond-false (nat_lt n (suc (length done))) (n + big_number n done) n (le-ltb n (suc (length done)) (omega (arith, few))) in omega (arith, same, few))
    | inr many ↦ (let same = special-operands-are opcode n done (byte ∷ text) size special e long is many in let less = shorter done text (size ++ special) byte e in let all = length-append size special in omega (arith, same, less, all, long))
  ]

  special-whole : (opcode n : ℕ) (size special : List ℕ) → length size ≡ n → big_number n size ≡ length special → special_operands n (opcode ∷ (size ++ special)) ≡ length (size ++ special)
  special-whole opcode n size special long is =
      let all = length-append size special in
      let same = special-operands-are opcode n (size ++ special) [] size special (append-nil (size ++ special)) long is (omega (arith, all, long)) in
      omega (arith, same, all, long)

  spelled-xxx1 : (a : ℕ) (special : List ℕ) → big_number 1 (a ∷ []) ≡ length special → Spelled q (Xxx (a ∷ []) special) 239 ((a ∷ []) ++ special)
  unfolding may_begin wanted
  spelled-xxx1 a special is = record {
    are = refl;
    begins = λ done text e. refl;
    parts = λ done text byte e. (special_operands 1 (239 ∷ done), refl, special-parts 239 1 done text (a ∷ []) special byte e refl is);
    whole = ap (λ (n : ℕ). Some n) (special-whole 239 1 (a ∷ []) special refl is);
    carried = refl;
    defined = no-definition 239 ((a ∷ []) ++ special) refl;
  }

  spelled-xxx2 : (a b : ℕ) (special : List ℕ) → big_number 2 (a ∷ b ∷ []) ≡ length special → Spelled q (Xxx (a ∷ b ∷ []) special) 240 ((a ∷ b ∷ []) ++ special)
  unfolding may_begin wanted
  spelled-xxx2 a b special is = record {
    are = refl;
    begins = λ done text e. refl;
    parts = λ done text byte e. (special_operands 2 (240 ∷ done), refl, special-parts 240 2 done text (a ∷ b ∷ []) special byte e refl is);
    whole = ap (λ (n : ℕ). Some n) (special-whole 240 2 (a ∷ b ∷ []) special refl is);
    carried = refl;
    defined = no-definition 240 ((a ∷ b ∷ []) ++ special) refl;
  }

  spelled-xxx3 : (a b c : ℕ) (special : List ℕ) → big_number 3 (a ∷ b ∷ c ∷ []) ≡ length special → Spelled q (Xxx (a ∷ b ∷ c ∷ []) special) 241 ((a ∷ b ∷ c ∷ []) ++ special)
  unfolding may_begin wanted
  spelled-xxx3 a b c special is = record {
    are = refl;
    begins = λ done text e. refl;
    parts = λ done text byte e. (special_operands 3 (241 ∷ done), refl, special-parts 241 3 done text (a ∷ b ∷ c ∷ []) special byte e refl is);
    whole = ap (λ (n : ℕ). Some n) (special-whole 241 3 (a ∷ b ∷ c ∷ []) special refl is);
    carried = refl;
    defined = no-definition 241 ((a ∷ b ∷ c ∷ []) ++ special) refl;
  }

  spelled-xxx4 : (a b c d : ℕ) (special : List ℕ) → big_number 4 (a ∷ b ∷ c ∷ d ∷ []) ≡ length special → Spelled q (Xxx (a ∷ b ∷ c ∷ d ∷ []) special) 242 ((a ∷ b ∷ c ∷ d ∷ []) ++ special)
  unfolding may_begin wanted
  spelled-xxx4 a b c d special is = record {
    are = refl;
    begins = λ done text e. refl;
    parts = λ done text byte e. (special_operands 4 (242 ∷ done), refl, special-parts 242 4 done text (a ∷ b ∷ c ∷ d ∷ []) special byte e refl is);
    whole = ap (λ (n : ℕ). Some n) (special-whole 242 4 (a ∷ b ∷ c ∷ d ∷ []) special refl is);
    carried = refl;
    defined = no-definition 242 ((a ∷ b ∷ c ∷ d ∷ []) ++ special) refl;
  }

  pub spelled-xxx : (size special : List ℕ) → IsAmount size → big_number (length size) size ≡ length special → Spelled q (Xxx size special) (238 + length size) (size ++ special)
  spelled-xxx [] special amount_is is = absurd (let least : 1 ≤ 0 = amount_is.0 in omega (arith, least))
  spelled-xxx (a ∷ []) special amount_is is = spelled-xxx1 a special is
  spelled-xxx (a ∷ b ∷ []) special amount_is is = spelled-xxx2 a b special is
  spelled-xxx (a ∷ b ∷ c ∷ []) special amount_is is = spelled-xxx3 a b c special is
  spelled-xxx (a ∷ b ∷ c ∷ d ∷ []) special amount_is is = spelled-xxx4 a b c d special is
  spelled-xxx (a ∷ b ∷ c ∷ d ∷ e ∷ size) special amount_is is = absurd (let most : length (a ∷ b ∷ c ∷ d ∷ e ∷ size) ≤ 4 = amount_is.1 in omega (arith, most))
