-- A command that is begun can be gone on with: to the first bytes of one another byte can be put.
use Rattle.std.proofs.Common.{◌≡◌, ℕ, zero, suc, ◌+◌, ◌-◌, ◌*◌, ◌^◌, ◌<◌, ◌≤◌, ◌==◌, ◌&&◌, ◌||◌, not, nat_lt, nat_le, Bool, true, false, cond, ℤ, pos, ◌+ℤ◌, List, [], ◌∷◌, ◌++◌, length, get_or, drop, Option, Some, None, is_some, refl, sym, ap, ◌∙◌, subst, inl, inr, arith}
use Rattle.std.proofs.lemmas.Bool.{and_from, and_left, and_parts, cases_eq, cases_lt, cond_both, eq-eqb, eqb-true, false≢true, le-leb, le-ltb, leb-false, leb-true, lt-leb, ltb-false, ltb-true, ne_eqb, not-true, or_cases, or_left, or_right}
use Rattle.std.proofs.lemmas.Int.{ints}
use Rattle.std.proofs.lemmas.List.{drop-append-le, drop_all, get_or_default, get_or_past, length-drop, length_push}
use Rattle.std.proofs.lemmas.Option.{none-some}
use Rattle.byteorder.specs.Endian.{big_from, big_number}
use Rattle.tx_dvi.specs.declared.placed.Registers.{Registers}
use Rattle.tx_dvitype.specs.Grammar.{AreBytes}
use Rattle.tx_dvi.specs.Meaning.{Reader as PageReader, carried_out, character_set, choose, choosing, define, defining, definition_in, definition_operands, down_by, is_font_number, is_known, is_movement, moved, movement_operands, operands, popped, right_by, rule_set, set_character, signed, special_operands, with_fonts, with_registers, with_rule, with_special}
use Rattle.tx_dvitype.specs.Partial.{no_widths, is_within, is_near, padded, may_move, may_choose, may_define, may_go, may_pass, may_begin, wanted}
use Rattle.tx_dvitype.proofs.Bytes.{append-default, byte-at}
use Rattle.tx_dvitype.proofs.Free.{Free, free}
use Rattle.tx_dvitype.proofs.Padding.{signed_padded}
use Rattle.tx_dvitype.proofs.ReadPages.{some-of}
use Rattle.tx_dvitype.proofs.Standing.{IsNear, InPage}

-- The most bytes that the command has which these begin, if those that are put behind them are 0; where they alone tell no length, as many
-- as any of them has.
abbrev pub whole_size : List ℕ → ℕ
whole_size [] = 0
whole_size (opcode ∷ bytes) =
    cond (opcode == 243) (16 + (get_or bytes 13 0 + get_or bytes 14 0)) (cond (nat_le 239 opcode) (suc (opcode - 238) + big_number (opcode - 238) bytes) 9)

-- such a command is carried out near the corner
abbrev pub Carried : ℕ → List ℕ → PageReader → Type 0
Carried opcode bytes p = (x : PageReader) × (carried_out no_widths opcode bytes p ≡ Some x) × (is_near x.now ≡ true)

-- where one is begun
record Given (q : PageReader) (opcode : ℕ) (bytes : List ℕ) : Type 0 where
  near : is_near q.now ≡ true
  known : AreBytes q.fonts.known
  may : may_begin opcode bytes (record q { begun = opcode ∷ bytes }) ≡ true
  more : ℕ
  is : wanted (opcode ∷ bytes) ≡ Some more
  part : suc (length bytes) ≤ more

-- a byte with which it goes on, and then is carried out if it is whole
pub record Progress (q : PageReader) (opcode : ℕ) (bytes : List ℕ) : Type 0 where
  pub byte : ℕ
  pub small : byte < 256
  pub room : suc (length bytes) < whole_size (opcode ∷ bytes)
  pub same : whole_size (opcode ∷ (bytes ++ byte ∷ [])) ≡ whole_size (opcode ∷ bytes)
  pub may : may_begin opcode (bytes ++ byte ∷ []) (record q { begun = opcode ∷ (bytes ++ byte ∷ []) }) ≡ true
  pub more : ℕ
  pub wants : wanted (opcode ∷ (bytes ++ byte ∷ [])) ≡ Some more
  pub carries : more < suc (length (bytes ++ byte ∷ [])) → Carried opcode (bytes ++ byte ∷ []) (record q { begun = [] })

-- set1: any character
stays : (z : ℤ) → z +ℤ pos 0 ≡ z
stays z = omega (arith, ints)

character-carried : (chosen : Option ℕ) (code : ℕ) (p : PageReader) → is_some chosen ≡ true → is_near p.now ≡ true → (x : PageReader) × (set_character no_widths code chosen p ≡ Some x) × (is_near x.now ≡ true)
character-carried None code p some near = absurd (false≢true some)
character-carried (Some font) code p some near = (character_set no_widths font code p, refl, ((λ i. is_within (stays p.now.h i) && is_within p.now.v) ∙ near))

character : (q : PageReader) (bytes : List ℕ) → Given q 128 bytes → Progress q 128 bytes
unfolding may_begin wanted
character q bytes g =
    let one : 1 ≡ g.more = some-of g.is in
    let room : suc (length bytes) < 9 = omega (arith, one, g.part) in
    record {
      byte = 0;
      small = omega arith;
      room = room;
      same = refl;
      may = g.may;
      more = 1;
      wants = refl;
      carries = λ long. character-carried q.fonts.chosen (get_or (bytes ++ 0 ∷ []) 0 0) (record q { begun = [] }) g.may g.near;
    }

-- fnt1: the first font that is defined
first-known : (known : List ℕ) → 0 < length known → is_known (get_or known 0 0) known ≡ true
first-known [] some = absurd (omega (arith, some))
first-known (k ∷ known) some = or_left (k == k) (is_known k known) (eq-eqb k k refl)

choice : (q : PageReader) (bytes : List ℕ) → Given q 235 bytes → Progress q 235 bytes
unfolding may_begin wanted
choice q [] g =
    let first : is_known (get_or q.fonts.known 0 0) q.fonts.known ≡ true = first-known q.fonts.known (ltb-true 0 (length q.fonts.known) g.may) in
    let chosen : PageReader = with_fonts (choosing (get_or q.fonts.known 0 0) q.fonts) (record q { begun = [] }) in
    record {
      byte = get_or q.fonts.known 0 0;
      small = byte-at q.fonts.known 0 g.known;
      room = omega arith;
      same = refl;
      may = first;
      more = 1;
      wants = refl;
      carries = λ long. (chosen, (λ i. cond {A = Option PageReader} (first i) (Some chosen) None), g.near);
    }
choice q (byte ∷ bytes) g = absurd (let one : 1 ≡ g.more = some-of g.is in omega (arith, one, g.part))

-- fnt_def1: a number that is free, no area, and no name
no-area : (bytes : List ℕ) → (nat_le (length bytes) 12 || get_or bytes 12 0 == 0) ≡ true → get_or bytes 12 0 ≡ 0
no-area bytes e = elim (or_cases (nat_le (length bytes) 12) (get_or bytes 12 0 == 0) e) [
  | inl h ↦ get_or_past bytes 12 0 (leb-true (length bytes) 12 h)
  | inr h ↦ eqb-true (get_or bytes 12 0) 0 h
]

definition : (q : PageReader) (bytes : List ℕ) → Given q 243 bytes → Progress q 243 bytes
unfolding may_begin wanted
definition q [] g =
    let f : Free 256 q.fonts.known = free 256 q.fonts.known (ltb-true (length q.fonts.known) 256 g.may) in
    let room : 1 < 16 = omega arith in
    record {
      byte = f.number;
      small = f.below;
      room = room;
      same = refl;
      may = λ i. not (f.new i) && true;
      more = 15;
      wants = refl;
      carries = λ long. absurd (omega (arith, long));
    }
definition q (number ∷ bytes) g =
    let known : List ℕ = q.fonts.known in
    let parts = and_parts (not (is_known number known)) (nat_le (length bytes) 12 || get_or bytes 12 0 == 0) g.may in
    let new : is_known number known ≡ false = not-true (is_known number known) parts.0 in
    let none : get_or (bytes ++ 0 ∷ []) 12 0 ≡ 0 = append-default bytes 12 0 ∙ no-area bytes parts.1 in
    let lengths : ℕ = get_or bytes 12 0 + get_or bytes 13 0 in
    let most : definition_operands (243 ∷ number ∷ bytes) ≤ 15 + lengths = cond_both (nat_lt 15 (suc (suc (length bytes)))) (15 + lengths) 15 (λ n. n ≤ 15 + lengths) (λ e. omega arith) (λ e. omega arith) in
    let is : definition_operands (243 ∷ number ∷ bytes) ≡ g.more = some-of g.is in
    let room : suc (suc (length bytes)) < 16 + lengths = omega (arith, most, is, g.part) in
    let defined : PageReader = with_fonts (defining (definition_in (number ∷ (bytes ++ 0 ∷ []))) q.fonts) (record q { begun = [] }) in
    record {
      byte = 0;
      small = omega arith;
      room = room;
      same = λ i. 16 + (append-default bytes 12 0 i + append-default bytes 13 0 i);
      may = and_from (not (is_known number known)) (nat_le (length (bytes ++ 0 ∷ [])) 12 || get_or (bytes ++ 0 ∷ []) 12 0 == 0) parts.0
          (or_right (nat_le (length (bytes ++ 0 ∷ [])) 12) (get_or (bytes ++ 0 ∷ []) 12 0 == 0) (eq-eqb (get_or (bytes ++ 0 ∷ []) 12 0) 0 none));
      more = definition_operands (243 ∷ number ∷ (bytes ++ 0 ∷ []));
      wants = refl;
      carries = λ long. (defined, (λ i. cond {A = Option PageReader} (new i) None (Some defined)), g.near);
    }

-- put_rule: any numbers
rule-put : (q : PageReader) (bytes : List ℕ) → Given q 137 bytes → Progress q 137 bytes
unfolding may_begin wanted
rule-put q bytes g =
    let eight : 8 ≡ g.more = some-of g.is in
    let room : suc (length bytes) < 9 = omega (arith, eight, g.part) in
    record {
      byte = 0;
      small = omega arith;
      room = room;
      same = refl;
      may = refl;
      more = 8;
      wants = refl;
      carries = λ long. (with_rule (signed 4 (bytes ++ 0 ∷ [])) (signed 4 (drop 4 (bytes ++ 0 ∷ []))) (record q { begun = [] }), refl, g.near);
    }

-- xxx1 to xxx4: zeros
zero-behind : (n i : ℕ) (bytes : List ℕ) → big_from i n (bytes ++ 0 ∷ []) ≡ big_from i n bytes
zero-behind zero i bytes = refl
zero-behind (suc n) i bytes = λ j. append-default bytes i 0 j * 256 ^ n + zero-behind n (suc i) bytes j

special : (opcode n : ℕ) (q : PageReader) (bytes : List ℕ) → ((bs : List ℕ) (p : PageReader) → may_begin opcode bs p ≡ true) → ((bs : List ℕ) → wanted (opcode ∷ bs) ≡ Some (special_operands n (opcode ∷ bs)))
    → ((bs : List ℕ) → whole_size (opcode ∷ bs) ≡ suc n + big_number n bs) → ((bs : List ℕ) (p : PageReader) → carried_out no_widths opcode bs p ≡ Some (with_special (drop n bs) p)) → Given q opcode bytes → Progress q opcode bytes
special opcode n q bytes begins wants sizes carries g =
    let is : special_operands n (opcode ∷ bytes) ≡ g.more = some-of (sym (wants bytes) ∙ g.is) in
    let most : special_operands n (opcode ∷ bytes) ≤ n + big_number n bytes = cond_both (nat_lt n (suc (length bytes))) (n + big_number n bytes) n (λ m. m ≤ n + big_number n bytes) (λ e. omega arith) (λ e. omega arith) in
    let size : whole_size (opcode ∷ bytes) ≡ suc n + big_number n bytes = sizes bytes in
    record {
      byte = 0;
      small = omega arith;
      room = omega (arith, is, most, size, g.part);
      same = sizes (bytes ++ 0 ∷ []) ∙ ap (λ (m : ℕ). suc n + m) (zero-behind n 0 bytes) ∙ sym size;
      may = begins (bytes ++ 0 ∷ []) (record q { begun = opcode ∷ (bytes ++ 0 ∷ []) });
      more = special_operands n (opcode ∷ (bytes ++ 0 ∷ []));
      wants = wants (bytes ++ 0 ∷ []);
      carries = λ long. (with_special (drop n (bytes ++ 0 ∷ [])) (record q { begun = [] }), carries (bytes ++ 0 ∷ []) (record q { begun = [] }), g.near);
    }

special1 : (q : PageReader) (bytes : List ℕ) → Given q 239 bytes → Progress q 239 bytes
unfolding may_begin wanted
special1 q bytes g = special 239 1 q bytes (λ bs p. refl) (λ bs. refl) (λ bs. refl) (λ bs p. refl) g

special2 : (q : PageReader) (bytes : List ℕ) → Given q 240 bytes → Progress q 240 bytes
unfolding may_begin wanted
special2 q bytes g = special 240 2 q bytes (λ bs p. refl) (λ bs. refl) (λ bs. refl) (λ bs p. refl) g

special3 : (q : PageReader) (bytes : List ℕ) → Given q 241 bytes → Progress q 241 bytes
unfolding may_begin wanted
special3 q bytes g = special 241 3 q bytes (λ bs p. refl) (λ bs. refl) (λ bs. refl) (λ bs p. refl) g

special4 : (q : PageReader) (bytes : List ℕ) → Given q 242 bytes → Progress q 242 bytes
unfolding may_begin wanted
special4 q bytes g = special 242 4 q bytes (λ bs p. refl) (λ bs. refl) (λ bs. refl) (λ bs p. refl) g

-- An amount of movement goes on with zeros or with ones, as one of them leads near the corner.
record Pads (place : ℤ) (size : ℕ) (bytes : List ℕ) : Type 0 where
  byte : ℕ
  small : byte < 256
  goes_on : may_move place size (bytes ++ byte ∷ []) ≡ true
  arrives : size ≤ length (bytes ++ byte ∷ []) → is_within (place +ℤ signed size (bytes ++ byte ∷ [])) ≡ true

padded-same : (d : ℕ) (bytes : List ℕ) → padded d (bytes ++ d ∷ []) ≡ padded d bytes
padded-same d bytes = λ i. append-default bytes 0 d i ∷ append-default bytes 1 d i ∷ append-default bytes 2 d i ∷ append-default bytes 3 d i ∷ []

-- where all bytes are there, none is put behind them
signed-full : (size d : ℕ) (bytes : List ℕ) → size ≤ 4 → size ≤ length bytes → signed size (padded d bytes) ≡ signed size bytes
signed-full zero d bytes few long = refl
signed-full (suc zero) d bytes few long =
    let b0 : get_or bytes 0 d ≡ get_or bytes 0 0 = get_or_default bytes 0 d 0 (omega (arith, long)) in
    λ i. signed 1 (b0 i ∷ get_or bytes 1 d ∷ get_or bytes 2 d ∷ get_or bytes 3 d ∷ [])
signed-full (suc (suc zero)) d bytes few long =
    let b0 : get_or bytes 0 d ≡ get_or bytes 0 0 = get_or_default bytes 0 d 0 (omega (arith, long)) in
    let b1 : get_or bytes 1 d ≡ get_or bytes 1 0 = get_or_default bytes 1 d 0 (omega (arith, long)) in
    λ i. signed 2 (b0 i ∷ b1 i ∷ get_or bytes 2 d ∷ get_or bytes 3 d ∷ [])
signed-full (suc (suc (suc zero))) d bytes few long =
    let b0 : get_or bytes 0 d ≡ get_or bytes 0 0 = get_or_default bytes 0 d 0 (omega (arith, long)) in
    let b1 : get_or bytes 1 d ≡ get_or bytes 1 0 = get_or_default bytes 1 d 0 (omega (arith, long)) in
    let b2 : get_or bytes 2 d ≡ get_or bytes 2 0 = get_or_default bytes 2 d 0 (omega (arith, long)) in
    λ i. signed 3 (b0 i ∷ b1 i ∷ b2 i ∷ get_or bytes 3 d ∷ [])
signed-full (suc (suc (suc (suc zero)))) d bytes few long =
    let b0 : get_or bytes 0 d ≡ get_or bytes 0 0 = get_or_default bytes 0 d 0 (omega (arith, long)) in
    let b1 : get_or bytes 1 d ≡ get_or bytes 1 0 = get_or_default bytes 1 d 0 (omega (arith, long)) in
    let b2 : get_or bytes 2 d ≡ get_or bytes 2 0 = get_or_default bytes 2 d 0 (omega (arith, long)) in
    let b3 : get_or bytes 3 d ≡ get_or bytes 3 0 = get_or_default bytes 3 d 0 (omega (arith, long)) in
    λ i. signed 4 (b0 i ∷ b1 i ∷ b2 i ∷ b3 i ∷ [])
signed-full (suc (suc (suc (suc (suc size))))) d bytes few long = absurd (omega (arith, few))

module _ (place : ℤ) (size : ℕ) (bytes : List ℕ) (some : (size == 0) ≡ false) (few : size ≤ 4) where
  least-pads : is_within (place +ℤ signed size (padded 0 bytes)) ≡ true → Pads place size bytes
  least-pads h =
      let there : is_within (place +ℤ signed size (padded 0 (bytes ++ 0 ∷ []))) ≡ true = (λ i. is_within (place +ℤ signed size (padded-same 0 bytes i))) ∙ h in
      record {
        byte = 0;
        small = omega arith;
        goes_on = λ i. cond {A = Bool} (some i) true (there i || is_within (place +ℤ signed size (padded 255 (bytes ++ 0 ∷ []))));
        arrives = λ long. (λ i. is_within (place +ℤ sym (signed_padded size (bytes ++ 0 ∷ []) few) i)) ∙ there;
      }

  greatest-pads : is_within (place +ℤ signed size (padded 255 bytes)) ≡ true → Pads place size bytes
  greatest-pads h =
      let there : is_within (place +ℤ signed size (padded 255 (bytes ++ 255 ∷ []))) ≡ true = (λ i. is_within (place +ℤ signed size (padded-same 255 bytes i))) ∙ h in
      let one : (is_within (place +ℤ signed size (padded 0 (bytes ++ 255 ∷ []))) || is_within (place +ℤ signed size (padded 255 (bytes ++ 255 ∷ [])))) ≡ true
      = or_right (is_within (place +ℤ signed size (padded 0 (bytes ++ 255 ∷ [])))) (is_within (place +ℤ signed size (padded 255 (bytes ++ 255 ∷ [])))) there in
      record {
        byte = 255;
        small = omega arith;
        goes_on = λ i. cond {A = Bool} (some i) true (one i);
        arrives = λ long. (λ i. is_within (place +ℤ sym (signed-full size 255 (bytes ++ 255 ∷ []) few long) i)) ∙ there;
      }

  pads : may_move place size bytes ≡ true → Pads place size bytes
  pads may =
      let tests : may_move place size bytes ≡ (is_within (place +ℤ signed size (padded 0 bytes)) || is_within (place +ℤ signed size (padded 255 bytes)))
      = λ i. cond {A = Bool} (some i) true (is_within (place +ℤ signed size (padded 0 bytes)) || is_within (place +ℤ signed size (padded 255 bytes))) in
      elim (or_cases (is_within (place +ℤ signed size (padded 0 bytes))) (is_within (place +ℤ signed size (padded 255 bytes))) (sym tests ∙ may)) [
        | inl h ↦ least-pads h
        | inr h ↦ greatest-pads h
      ]

-- set_rule: any height, and such a width
pass-goes : (h : ℤ) (bytes : List ℕ) (pad : Pads h 4 (drop 4 bytes)) → may_move h 4 (drop 4 bytes) ≡ true → may_move h 4 (drop 4 (bytes ++ pad.byte ∷ [])) ≡ true
pass-goes h bytes pad may = elim (cases_lt (length bytes) 4) [
  | inl few ↦ height few
  | inr many ↦ (let behind : drop 4 (bytes ++ pad.byte ∷ []) ≡ drop 4 bytes ++ pad.byte ∷ [] = drop-append-le 4 bytes (pad.byte ∷ []) many in (λ i. may_move h 4 (behind i)) ∙ pad.goes_on)
]
  where
    height : length bytes < 4 → may_move h 4 (drop 4 (bytes ++ pad.byte ∷ [])) ≡ true
    height few =
        let one : length (bytes ++ pad.byte ∷ []) ≡ length bytes + 1 = length_push bytes pad.byte in
        let there : drop 4 (bytes ++ pad.byte ∷ []) ≡ [] = drop_all 4 (bytes ++ pad.byte ∷ []) (omega (arith, few, one)) in
        let before : drop 4 bytes ≡ [] = drop_all 4 bytes (omega (arith, few)) in
        (λ i. may_move h 4 (there i)) ∙ (λ i. may_move h 4 (sym before i)) ∙ may

pass-arrives : (h : ℤ) (bytes : List ℕ) (pad : Pads h 4 (drop 4 bytes)) → 8 ≤ length (bytes ++ pad.byte ∷ []) → is_within (h +ℤ signed 4 (drop 4 (bytes ++ pad.byte ∷ []))) ≡ true
pass-arrives h bytes pad long =
    let one : length (bytes ++ pad.byte ∷ []) ≡ length bytes + 1 = length_push bytes pad.byte in
    let many : 4 ≤ length bytes = omega (arith, long, one) in
    let behind : drop 4 (bytes ++ pad.byte ∷ []) ≡ drop 4 bytes ++ pad.byte ∷ [] = drop-append-le 4 bytes (pad.byte ∷ []) many in
    let left : length (drop 4 bytes) ≡ length bytes - 4 = length-drop 4 bytes in
    let more : length (drop 4 bytes ++ pad.byte ∷ []) ≡ length (drop 4 bytes) + 1 = length_push (drop 4 bytes) pad.byte in
    (λ i. is_within (h +ℤ signed 4 (behind i))) ∙ pad.arrives (omega (arith, long, one, left, more))

rule-set : (q : PageReader) (bytes : List ℕ) → Given q 132 bytes → Progress q 132 bytes
unfolding may_begin wanted
rule-set q bytes g =
    let eight : 8 ≡ g.more = some-of g.is in
    let room : suc (length bytes) < 9 = omega (arith, eight, g.part) in
    let pad : Pads q.now.h 4 (drop 4 bytes) = pads q.now.h 4 (drop 4 bytes) refl (omega arith) g.may in
    let next : List ℕ = bytes ++ pad.byte ∷ [] in
    record {
      byte = pad.byte;
      small = pad.small;
      room = room;
      same = refl;
      may = pass-goes q.now.h bytes pad g.may;
      more = 8;
      wants = refl;
      carries = λ long. (
        rule_set (signed 4 next) (signed 4 (drop 4 next)) (record q { begun = [] }),
        refl,
        and_from (is_within (q.now.h +ℤ signed 4 (drop 4 next))) (is_within q.now.v) (pass-arrives q.now.h bytes pad (omega (arith, long))) (and_parts (is_within q.now.h) (is_within q.now.v) g.near).1,
      );
    }

-- the movements, as tests tell them from other commands
pub record Moves (opcode : ℕ) : Type 0 where
  pub no_letter : nat_lt opcode 128 ≡ false
  pub no_number : is_font_number opcode ≡ false
  pub no_set1 : (opcode == 128) ≡ false
  pub no_fnt1 : (opcode == 235) ≡ false
  pub no_definition : (opcode == 243) ≡ false
  pub no_set_rule : (opcode == 132) ≡ false
  pub no_put_rule : (opcode == 137) ≡ false
  pub no_nop : (opcode == 138) ≡ false
  pub no_push : (opcode == 141) ≡ false
  pub no_pop : (opcode == 142) ≡ false
  pub no_special : nat_le 239 opcode ≡ false
  pub moves : is_movement opcode ≡ true

pub moves-so : (opcode : ℕ) → 143 ≤ opcode → opcode ≤ 170 → Moves opcode
moves-so opcode least most = record {
  no_letter = le-ltb opcode 128 (omega (arith, least));
  no_number = and_left (nat_le 171 opcode) (nat_le opcode 234) (lt-leb 171 opcode (omega (arith, most)));
  no_set1 = ne_eqb opcode 128 (λ e. omega (arith, least, e));
  no_fnt1 = ne_eqb opcode 235 (λ e. omega (arith, most, e));
  no_definition = ne_eqb opcode 243 (λ e. omega (arith, most, e));
  no_set_rule = ne_eqb opcode 132 (λ e. omega (arith, least, e));
  no_put_rule = ne_eqb opcode 137 (λ e. omega (arith, least, e));
  no_nop = ne_eqb opcode 138 (λ e. omega (arith, least, e));
  no_push = ne_eqb opcode 141 (λ e. omega (arith, least, e));
  no_pop = ne_eqb opcode 142 (λ e. omega (arith, least, e));
  no_special = lt-leb 239 opcode (omega (arith, most));
  moves = and_from (nat_le 143 opcode) (nat_le opcode 170) (le-leb 143 opcode least) (le-leb opcode 170 most);
}

module _ (opcode : ℕ) (m : Moves opcode) where
  pub movement-begins : (bytes : List ℕ) (p : PageReader) → may_begin opcode bytes p ≡ may_go opcode bytes p.now
  unfolding may_begin
  movement-begins bytes p =
      λ i. cond {A = Bool} (m.no_letter i) (is_some p.fonts.chosen)
      (cond {A = Bool} (m.no_number i) (is_known (opcode - 171) p.fonts.known)
      (cond {A = Bool} (m.no_set1 i) (is_some p.fonts.chosen)
      (cond {A = Bool} (m.no_fnt1 i) (may_choose bytes p.fonts.known)
      (cond {A = Bool} (m.no_definition i) (may_define bytes p.fonts.known)
      (cond {A = Bool} (m.no_set_rule i) (may_pass bytes p.now)
      (cond {A = Bool} (m.no_put_rule i || m.no_push i) true
      (cond {A = Bool} (m.no_pop i) (nat_lt 0 (length p.stack))
      (cond {A = Bool} (m.moves i) (may_go opcode bytes p.now)
      (nat_le 239 opcode && nat_le opcode 242)))))))))

  pub movement-wanted : (bytes : List ℕ) → wanted (opcode ∷ bytes) ≡ Some (movement_operands opcode)
  unfolding wanted
  movement-wanted bytes =
      λ i. cond {A = Option ℕ} (m.no_letter i || m.no_number i) (Some 0)
      (cond {A = Option ℕ} (m.no_set1 i || m.no_fnt1 i) (Some 1)
      (cond {A = Option ℕ} (m.no_definition i) (Some (definition_operands (opcode ∷ bytes)))
      (cond {A = Option ℕ} (m.no_set_rule i || m.no_put_rule i) (Some 8)
      (cond {A = Option ℕ} (m.no_nop i || m.no_push i || m.no_pop i) (Some 0)
      (cond {A = Option ℕ} (m.moves i) (Some (movement_operands opcode))
      (cond {A = Option ℕ} (nat_lt opcode 239) None
      (cond {A = Option ℕ} (nat_le opcode 242) (Some (special_operands (opcode - 238) (opcode ∷ bytes))) None)))))))

  pub movement-carried : (bytes : List ℕ) (p : PageReader) → carried_out no_widths opcode bytes p ≡ Some (with_registers (moved opcode (signed (movement_operands opcode) bytes) p.now) p)
  movement-carried bytes p =
      λ i. cond {A = Option PageReader} (m.no_letter i) (set_character no_widths opcode p.fonts.chosen p)
      (cond {A = Option PageReader} (m.no_number i) (choose (opcode - 171) p)
      (cond {A = Option PageReader} (m.no_set1 i) (set_character no_widths (get_or bytes 0 0) p.fonts.chosen p)
      (cond {A = Option PageReader} (m.no_fnt1 i) (choose (get_or bytes 0 0) p)
      (cond {A = Option PageReader} (m.no_definition i) (define (definition_in bytes) p)
      (cond {A = Option PageReader} (m.no_set_rule i) (Some (rule_set (signed 4 bytes) (signed 4 (drop 4 bytes)) p))
      (cond {A = Option PageReader} (m.no_put_rule i) (Some (with_rule (signed 4 bytes) (signed 4 (drop 4 bytes)) p))
      (cond {A = Option PageReader} (m.no_nop i) (Some p)
      (cond {A = Option PageReader} (m.no_push i) (Some (record p { stack = p.now ∷ p.stack }))
      (cond {A = Option PageReader} (m.no_pop i) (popped p.stack p)
      (cond {A = Option PageReader} (m.no_special i) (Some (with_special (drop (opcode - 238) bytes) p))
      (cond {A = Option PageReader} (m.moves i) (Some (with_registers (moved opcode (signed (movement_operands opcode) bytes) p.now) p)) None)))))))))))

  movement-size : (bytes : List ℕ) → whole_size (opcode ∷ bytes) ≡ 9
  movement-size bytes =
      λ i. cond {A = ℕ} (m.no_definition i) (16 + (get_or bytes 13 0 + get_or bytes 14 0)) (cond {A = ℕ} (m.no_special i) (suc (opcode - 238) + big_number (opcode - 238) bytes) 9)

few-operands : (opcode : ℕ) → opcode ≤ 170 → movement_operands opcode ≤ 4
few-operands opcode most =
    cond_both (nat_le opcode 146) (opcode - 142) _ (λ n. n ≤ 4) (λ e. omega (arith, leb-true opcode 146 e)) (λ e.
    cond_both (nat_le opcode 151) (opcode - 147) _ (λ n. n ≤ 4) (λ e. omega (arith, leb-true opcode 151 e)) (λ e.
    cond_both (nat_le opcode 156) (opcode - 152) _ (λ n. n ≤ 4) (λ e. omega (arith, leb-true opcode 156 e)) (λ e.
    cond_both (nat_le opcode 160) (opcode - 156) _ (λ n. n ≤ 4) (λ e. omega (arith, leb-true opcode 160 e)) (λ e.
    cond_both (nat_le opcode 165) (opcode - 161) (opcode - 166) (λ n. n ≤ 4) (λ e. omega (arith, leb-true opcode 165 e)) (λ e. omega (arith, most))))))

-- w0, x0, y0 and z0 have no operands
has-none : (opcode other : ℕ) → 0 < movement_operands opcode → movement_operands other ≡ 0 → (opcode == other) ≡ true → ⊥
has-none opcode other some none e = let same : movement_operands opcode ≡ movement_operands other = ap (λ (n : ℕ). movement_operands n) (eqb-true opcode other e) in omega (arith, some, none, same)

module _ (opcode : ℕ) (size : ℤ) (now : Registers) (some : 0 < movement_operands opcode) (near : is_near now ≡ true) where
  moved-right : opcode ≤ 156 → is_within (now.h +ℤ size) ≡ true → is_near (moved opcode size now) ≡ true
  moved-right fits there =
      cond_both (nat_le opcode 146) (right_by size now) _ IsNear (λ e. right) (λ e.
      cond_both (opcode == 147) (right_by now.w now) _ IsNear (λ e. absurd (has-none opcode 147 some refl e)) (λ e.
      cond_both (nat_le opcode 151) (right_by size (record now { w = size })) _ IsNear (λ e. right) (λ e.
      cond_both (opcode == 152) (right_by now.x now) _ IsNear (λ e. absurd (has-none opcode 152 some refl e)) (λ e.
      cond_both (nat_le opcode 156) (right_by size (record now { x = size })) _ IsNear (λ e. right) (λ e. absurd (omega (arith, fits, leb-false opcode 156 e)))))))
    where
      right : (is_within (now.h +ℤ size) && is_within now.v) ≡ true
      right = and_from (is_within (now.h +ℤ size)) (is_within now.v) there (and_parts (is_within now.h) (is_within now.v) near).1

  moved-down : 156 < opcode → is_within (now.v +ℤ size) ≡ true → is_near (moved opcode size now) ≡ true
  moved-down past there =
      cond_both (nat_le opcode 146) (right_by size now) _ IsNear (λ e. absurd (omega (arith, past, leb-true opcode 146 e))) (λ e.
      cond_both (opcode == 147) (right_by now.w now) _ IsNear (λ e. absurd (has-none opcode 147 some refl e)) (λ e.
      cond_both (nat_le opcode 151) (right_by size (record now { w = size })) _ IsNear (λ e. absurd (omega (arith, past, leb-true opcode 151 e))) (λ e.
      cond_both (opcode == 152) (right_by now.x now) _ IsNear (λ e. absurd (has-none opcode 152 some refl e)) (λ e.
      cond_both (nat_le opcode 156) (right_by size (record now { x = size })) _ IsNear (λ e. absurd (omega (arith, past, leb-true opcode 156 e))) (λ e.
      cond_both (nat_le opcode 160) (down_by size now) _ IsNear (λ e. down) (λ e.
      cond_both (opcode == 161) (down_by now.y now) _ IsNear (λ e. absurd (has-none opcode 161 some refl e)) (λ e.
      cond_both (nat_le opcode 165) (down_by size (record now { y = size })) _ IsNear (λ e. down) (λ e.
      cond_both (opcode == 166) (down_by now.z now) (down_by size (record now { z = size })) IsNear (λ e. absurd (has-none opcode 166 some refl e)) (λ e. down)))))))))
    where
      down : (is_within now.h && is_within (now.v +ℤ size)) ≡ true
      down = and_from (is_within now.h) (is_within (now.v +ℤ size)) (and_parts (is_within now.h) (is_within now.v) near).0 there

movement : (q : PageReader) (opcode : ℕ) (bytes : List ℕ) → 143 ≤ opcode → opcode ≤ 170 → Given q opcode bytes → Progress q opcode bytes
movement q opcode bytes least most g = by (nat_le opcode 156) refl (sym (movement-begins opcode m bytes (record q { begun = opcode ∷ bytes })) ∙ g.may)
  where
    m : Moves opcode
    m = moves-so opcode least most

    is : movement_operands opcode ≡ g.more
    is = some-of (sym (movement-wanted opcode m bytes) ∙ g.is)

    some : 0 < movement_operands opcode
    some = omega (arith, is, g.part)

    few : movement_operands opcode ≤ 4
    few = few-operands opcode most

    begun : (movement_operands opcode == 0) ≡ false
    begun = ne_eqb (movement_operands opcode) 0 (λ e. omega (arith, some, e))

    room : suc (length bytes) < whole_size (opcode ∷ bytes)
    room = let nine : whole_size (opcode ∷ bytes) ≡ 9 = movement-size opcode m bytes in omega (arith, nine, is, few, g.part)

    made : (byte : ℕ) → byte < 256 → may_go opcode (bytes ++ byte ∷ []) q.now ≡ true
        → (movement_operands opcode ≤ length (bytes ++ byte ∷ []) → is_near (moved opcode (signed (movement_operands opcode) (bytes ++ byte ∷ [])) q.now) ≡ true) → Progress q opcode bytes
    made byte small go near = record {
      byte = byte;
      small = small;
      room = room;
      same = movement-size opcode m (bytes ++ byte ∷ []) ∙ sym (movement-size opcode m bytes);
      may = movement-begins opcode m (bytes ++ byte ∷ []) (record q { begun = opcode ∷ (bytes ++ byte ∷ []) }) ∙ go;
      more = movement_operands opcode;
      wants = movement-wanted opcode m (bytes ++ byte ∷ []);
      carries = λ long. (
        with_registers (moved opcode (signed (movement_operands opcode) (bytes ++ byte ∷ [])) q.now) (record q { begun = [] }),
        movement-carried opcode m (bytes ++ byte ∷ []) (record q { begun = [] }),
        near (omega (arith, long)),
      );
    }

    by : (b : Bool) → nat_le opcode 156 ≡ b → cond {A = Bool} b (may_move q.now.h (movement_operands opcode) bytes) (may_move q.now.v (movement_operands opcode) bytes) ≡ true → Progress q opcode bytes
    by true e f =
        let pad : Pads q.now.h (movement_operands opcode) bytes = pads q.now.h (movement_operands opcode) bytes begun few f in
        let goes : may_go opcode (bytes ++ pad.byte ∷ []) q.now ≡ may_move q.now.h (movement_operands opcode) (bytes ++ pad.byte ∷ [])
        = λ i. cond {A = Bool} (e i) (may_move q.now.h (movement_operands opcode) (bytes ++ pad.byte ∷ [])) (may_move q.now.v (movement_operands opcode) (bytes ++ pad.byte ∷ [])) in
        made pad.byte pad.small (goes ∙ pad.goes_on) (λ long. moved-right opcode (signed (movement_operands opcode) (bytes ++ pad.byte ∷ [])) q.now some g.near (leb-true opcode 156 e) (pad.arrives long))
    by false e f =
        let pad : Pads q.now.v (movement_operands opcode) bytes = pads q.now.v (movement_operands opcode) bytes begun few f in
        let goes : may_go opcode (bytes ++ pad.byte ∷ []) q.now ≡ may_move q.now.v (movement_operands opcode) (bytes ++ pad.byte ∷ [])
        = λ i. cond {A = Bool} (e i) (may_move q.now.h (movement_operands opcode) (bytes ++ pad.byte ∷ [])) (may_move q.now.v (movement_operands opcode) (bytes ++ pad.byte ∷ [])) in
        made pad.byte pad.small (goes ∙ pad.goes_on) (λ long. moved-down opcode (signed (movement_operands opcode) (bytes ++ pad.byte ∷ [])) q.now some g.near (leb-false opcode 156 e) (pad.arrives long))

-- which commands can be begun and not whole
data Kind (opcode : ℕ) : Type 0 where
  AtCharacter : opcode ≡ 128 → Kind opcode
  AtChoice : opcode ≡ 235 → Kind opcode
  AtDefinition : opcode ≡ 243 → Kind opcode
  AtSetRule : opcode ≡ 132 → Kind opcode
  AtPutRule : opcode ≡ 137 → Kind opcode
  AtMovement : 143 ≤ opcode → opcode ≤ 170 → Kind opcode
  AtSpecial : 239 ≤ opcode → opcode ≤ 242 → Kind opcode

split : {P : Type 0} (b : Bool) (x y : Option ℕ) (more : ℕ) → cond b x y ≡ Some more → (b ≡ true → x ≡ Some more → P) → (b ≡ false → y ≡ Some more → P) → P
split true x y more e first other = first refl e
split false x y more e first other = other refl e

wants-some : (more : ℕ) → 0 < more → Some 0 ≡ Some more → ⊥
wants-some more some e = let none : 0 ≡ more = some-of e in omega (arith, some, none)

kind : (opcode : ℕ) (bytes : List ℕ) (more : ℕ) → 0 < more → operands opcode bytes ≡ Some more → Kind opcode
kind opcode bytes more some e =
    split (nat_lt opcode 128 || is_font_number opcode) (Some 0) _ more e (λ t h. absurd (wants-some more some h)) (λ t1 e1.
    split (opcode == 128 || opcode == 235) (Some 1) _ more e1 (λ t h. elim (or_cases (opcode == 128) (opcode == 235) t) [ inl at ↦ AtCharacter (eqb-true opcode 128 at) | inr at ↦ AtChoice (eqb-true opcode 235 at) ]) (λ t2 e2.
    split (opcode == 243) (Some (definition_operands bytes)) _ more e2 (λ t h. AtDefinition (eqb-true opcode 243 t)) (λ t3 e3.
    split (opcode == 132 || opcode == 137) (Some 8) _ more e3 (λ t h. elim (or_cases (opcode == 132) (opcode == 137) t) [ inl at ↦ AtSetRule (eqb-true opcode 132 at) | inr at ↦ AtPutRule (eqb-true opcode 137 at) ]) (λ t4 e4.
    split (opcode == 138 || opcode == 141 || opcode == 142) (Some 0) _ more e4 (λ t h. absurd (wants-some more some h)) (λ t5 e5.
    split (is_movement opcode) (Some (movement_operands opcode)) _ more e5 (λ t h. moving t) (λ t6 e6.
    split (nat_lt opcode 239) None _ more e6 (λ t h. absurd (none-some more h)) (λ t7 e7.
    split (nat_le opcode 242) (Some (special_operands (opcode - 238) bytes)) None more e7 (λ t h. AtSpecial (ltb-false opcode 239 t7) (leb-true opcode 242 t)) (λ t h. absurd (none-some more h)))))))))
  where
    moving : is_movement opcode ≡ true → Kind opcode
    moving t = let parts = and_parts (nat_le 143 opcode) (nat_le opcode 170) t in AtMovement (leb-true 143 opcode parts.0) (leb-true opcode 170 parts.1)

-- whichever it is
at-opcode : (q : PageReader) (opcode other : ℕ) (bytes : List ℕ) → opcode ≡ other → (Given q other bytes → Progress q other bytes) → Given q opcode bytes → Progress q opcode bytes
at-opcode q opcode other bytes same goes = subst (λ (n : ℕ). Given q n bytes → Progress q n bytes) (sym same) goes

any-special : (q : PageReader) (opcode : ℕ) (bytes : List ℕ) → 239 ≤ opcode → opcode ≤ 242 → Given q opcode bytes → Progress q opcode bytes
any-special q opcode bytes least most g = elim (cases_eq opcode 239) [
  | inl at ↦ at-opcode q opcode 239 bytes at (special1 q bytes) g
  | inr no1 ↦ elim (cases_eq opcode 240) [
    | inl at ↦ at-opcode q opcode 240 bytes at (special2 q bytes) g
    | inr no2 ↦ elim (cases_eq opcode 241) [
      | inl at ↦ at-opcode q opcode 241 bytes at (special3 q bytes) g
      | inr no3 ↦ at-opcode q opcode 242 bytes (omega (arith, least, most, no1, no2, no3)) (special4 q bytes) g
    ]
  ]
]

goes-on : (q : PageReader) (opcode : ℕ) (bytes : List ℕ) → Given q opcode bytes → Progress q opcode bytes
unfolding wanted
goes-on q opcode bytes g = elim (kind opcode (opcode ∷ bytes) g.more (omega (arith, g.part)) g.is) [
  | AtCharacter at ↦ at-opcode q opcode 128 bytes at (character q bytes) g
  | AtChoice at ↦ at-opcode q opcode 235 bytes at (choice q bytes) g
  | AtDefinition at ↦ at-opcode q opcode 243 bytes at (definition q bytes) g
  | AtSetRule at ↦ at-opcode q opcode 132 bytes at (rule-set q bytes) g
  | AtPutRule at ↦ at-opcode q opcode 137 bytes at (rule-put q bytes) g
  | AtMovement least most ↦ movement q opcode bytes least most g
  | AtSpecial least most ↦ any-special q opcode bytes least most g
]

pub progress : (q : PageReader) (opcode : ℕ) (bytes : List ℕ) → InPage (record q { begun = opcode ∷ bytes }) → Progress q opcode bytes
progress q opcode bytes here = goes-on q opcode bytes (record {
  near = here.near;
  known = here.known;
  may = here.part.0;
  more = here.part.1.0;
  is = here.part.1.1;
  part = here.part.1.2;
})
