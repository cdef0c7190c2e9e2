-- Bytes that the reader of a page takes for a command are one that may stand where it is.
use Rattle.std.proofs.Common.{◌≡◌, ℕ, suc, ◌+◌, ◌-◌, ◌/◌, ◌%◌, ◌^◌, ◌<◌, ◌≤◌, ◌==◌, ◌&&◌, ◌||◌, not, nat_le, nat_lt, Bool, true, false, cond, List, [], ◌∷◌, ◌++◌, length, get_or, take, drop, map, Option, Some, None, is_some, refl, sym, ap, ◌∙◌, subst, inl, inr, arith}
use Rattle.std.proofs.lemmas.Bool.{and_parts, cases_eq, cases_lt, eqb-true, false≢true, le-leb, le-ltb, leb-true, lt-leb, lt-ltb, ltb-true, ne_eqb, not-true, or_cases, cond-true, cond-false, cond_both}
use Rattle.std.proofs.lemmas.List.{get_or_append_left, length-drop, length-take-le, length_push, take-append-drop}
use Rattle.std.proofs.lemmas.Option.{none-some}
use Rattle.byteorder.specs.Endian.{big_number}
use Rattle.tx_dvi.specs.declared.font.FontDefinition.{FontDefinition}
use Rattle.tx_dvi.specs.Dvi.{definition_bytes, unsigned_bytes, IsDefinable}
use Rattle.tx_dvi.specs.Meaning.{Reader as PageReader, carried_out, definition_operands, is_font_number, is_known, is_movement, movement_operands, moved, operands, signed, special_operands, with_registers}
use Rattle.tx_dvitype.specs.Files.{with_definition}
use Rattle.tx_dvitype.specs.Grammar.{Command, SetChar, Set1, SetRule, PutRule, Push, Pop, Right, W0, W, X0, X, Down, Y0, Y, Z0, Z, FntNum, Fnt1, Xxx, FntDef1, AreBytes, HasFont, MayStand, behind, command_bytes, defines}
use Rattle.tx_dvitype.specs.Partial.{no_widths, may_begin, may_choose, may_define, may_go, may_pass, wanted}
use Rattle.tx_dvitype.proofs.Bytes.{byte-at}
use Rattle.tx_dvitype.proofs.Commands.{IsBetween}
use Rattle.tx_dvitype.proofs.Defining.{behind_def, spelled-fnt_def1}
use Rattle.tx_dvitype.proofs.Moves.{moved-last}
use Rattle.tx_dvitype.proofs.Numbers.{room-left}
use Rattle.tx_dvitype.proofs.Partials.{Moves, moves-so, movement-carried, movement-wanted}
use Rattle.tx_dvitype.proofs.ReadPages.{no-bytes, some-of}
use Rattle.tx_dvitype.proofs.Spelling.{Spelled, from-front, no-definition, set_rule-carried, spelled-set_char, spelled-set1, spelled-put_rule, spelled-push, spelled-pop, spelled-fnt_num, spelled-fnt1, spelled-xxx}

pub record Decoded (q : PageReader) (opcode : ℕ) (ops : List ℕ) : Type 0 where
  pub command : Command
  pub bytes : command_bytes command ≡ opcode ∷ ops
  pub may : MayStand command q
  pub carried : carried_out no_widths opcode ops q ≡ Some (behind command q)
  pub defined : (ds : List (List ℕ)) → with_definition (opcode ∷ ops) ds ≡ ds ++ map definition_bytes (defines command)

-- as the bytes of the command are read
as-spelled : (q : PageReader) (c : Command) (o : ℕ) (os : List ℕ) (opcode : ℕ) (ops : List ℕ) → Spelled q c o os → o ≡ opcode → os ≡ ops → MayStand c q → Decoded q opcode ops
as-spelled q c o os opcode ops s first others may = record {
  command = c;
  bytes = s.are ∙ (λ i. first i ∷ others i);
  may = may;
  carried = sym (λ i. carried_out no_widths (first i) (others i) q) ∙ s.carried;
  defined = λ ds. sym (λ i. with_definition (first i ∷ others i) ds) ∙ s.defined ds;
}

-- a test that holds or not
choose_by : {P : Type 0} (b x y : Bool) → cond b x y ≡ true → (b ≡ true → x ≡ true → P) → (b ≡ false → y ≡ true → P) → P
choose_by true x y e first other = first refl e
choose_by false x y e first other = other refl e

some-is : (chosen : Option ℕ) → is_some chosen ≡ true → HasFont chosen
some-is None e = absurd (false≢true e)
some-is (Some font) e = (font, refl)

-- bytes by how many there are
record One (xs : List ℕ) : Type 0 where
  a : ℕ
  is : xs ≡ a ∷ []

one-of : (xs : List ℕ) → length xs ≡ 1 → One xs
one-of [] e = absurd (omega (arith, e))
one-of (a ∷ []) e = record { a = a; is = refl }
one-of (a ∷ b ∷ xs) e = absurd (omega (arith, e))

record Fours (xs : List ℕ) : Type 0 where
  a : ℕ
  b : ℕ
  c : ℕ
  d : ℕ
  left : List ℕ
  is : xs ≡ a ∷ b ∷ c ∷ d ∷ left

four-of : (xs : List ℕ) → 4 ≤ length xs → Fours xs
four-of [] e = absurd (omega (arith, e))
four-of (a ∷ []) e = absurd (omega (arith, e))
four-of (a ∷ b ∷ []) e = absurd (omega (arith, e))
four-of (a ∷ b ∷ c ∷ []) e = absurd (omega (arith, e))
four-of (a ∷ b ∷ c ∷ d ∷ xs) e = record { a = a; b = b; c = c; d = d; left = xs; is = refl }

-- the bytes of a number
number-bytes : (a b c d : ℕ) (rest : List ℕ) → a < 256 → b < 256 → c < 256 → d < 256 → unsigned_bytes (big_number 4 (a ∷ b ∷ c ∷ d ∷ rest)) ≡ a ∷ b ∷ c ∷ d ∷ []
unfolding unsigned_bytes
number-bytes a b c d rest fa fb fc fd =
    let n : ℕ = big_number 4 (a ∷ b ∷ c ∷ d ∷ rest) in
    let e3 : n / 256 ^ 3 % 256 ≡ a = omega (arith, fa, fb, fc, fd) in
    let e2 : n / 256 ^ 2 % 256 ≡ b = omega (arith, fa, fb, fc, fd) in
    let e1 : n / 256 ^ 1 % 256 ≡ c = omega (arith, fa, fb, fc, fd) in
    let e0 : n % 256 ≡ d = omega (arith, fa, fb, fc, fd) in
    λ i. e3 i ∷ e2 i ∷ e1 i ∷ e0 i ∷ []

number-small : (a b c d : ℕ) (rest : List ℕ) → a < 256 → b < 256 → c < 256 → d < 256 → big_number 4 (a ∷ b ∷ c ∷ d ∷ rest) < 2 ^ 32
number-small a b c d rest fa fb fc fd = omega (arith, fa, fb, fc, fd)

-- a definition, by its bytes
record Definition (ops : List ℕ) : Type 0 where
  font : FontDefinition
  are : behind_def font ≡ ops
  fits : IsDefinable font
  number : font.number ≡ get_or ops 0 0

definition-of : (n c0 c1 c2 c3 s0 s1 s2 s3 d0 d1 d2 d3 a l : ℕ) (name : List ℕ) → AreBytes (n ∷ c0 ∷ c1 ∷ c2 ∷ c3 ∷ s0 ∷ s1 ∷ s2 ∷ s3 ∷ d0 ∷ d1 ∷ d2 ∷ d3 ∷ a ∷ l ∷ name) → a ≡ 0 → length name ≡ l → Definition (n ∷ c0 ∷ c1 ∷ c2 ∷ c3 ∷ s0 ∷ s1 ∷ s2 ∷ s3 ∷ d0 ∷ d1 ∷ d2 ∷ d3 ∷ a ∷ l ∷ name)
definition-of n c0 c1 c2 c3 s0 s1 s2 s3 d0 d1 d2 d3 a l name are none long =
    let xs : List ℕ = n ∷ c0 ∷ c1 ∷ c2 ∷ c3 ∷ s0 ∷ s1 ∷ s2 ∷ s3 ∷ d0 ∷ d1 ∷ d2 ∷ d3 ∷ a ∷ l ∷ name in
    let name_fits : l < 256 = byte-at xs 14 are in
    record {
      font = record { number = n; checksum = big_number 4 (c0 ∷ c1 ∷ c2 ∷ c3 ∷ []); size = big_number 4 (s0 ∷ s1 ∷ s2 ∷ s3 ∷ []); design_size = big_number 4 (d0 ∷ d1 ∷ d2 ∷ d3 ∷ []); name = name };
      are = λ i. n ∷ number-bytes c0 c1 c2 c3 [] (byte-at xs 1 are) (byte-at xs 2 are) (byte-at xs 3 are) (byte-at xs 4 are) i
          ++ (number-bytes s0 s1 s2 s3 [] (byte-at xs 5 are) (byte-at xs 6 are) (byte-at xs 7 are) (byte-at xs 8 are) i ++ (number-bytes d0 d1 d2 d3 [] (byte-at xs 9 are) (byte-at xs 10 are) (byte-at xs 11 are) (byte-at xs 12 are) i ++ sym none i ∷ long i ∷ name));
      fits = record {
        number = (byte-at xs 0 are);
        checksum = number-small c0 c1 c2 c3 [] (byte-at xs 1 are) (byte-at xs 2 are) (byte-at xs 3 are) (byte-at xs 4 are);
        size = number-small s0 s1 s2 s3 [] (byte-at xs 5 are) (byte-at xs 6 are) (byte-at xs 7 are) (byte-at xs 8 are);
        design_size = number-small d0 d1 d2 d3 [] (byte-at xs 9 are) (byte-at xs 10 are) (byte-at xs 11 are) (byte-at xs 12 are);
        name = omega (arith, name_fits, long);
      };
      number = refl;
    }

-- a front of so many bytes, and the rest of the definition
record Fifteen (ops : List ℕ) : Type 0 where
  n : ℕ
  rest : List ℕ
  is : ops ≡ n ∷ rest
  sums : Fours rest
  sizes : Fours sums.left
  designs : Fours sizes.left
  a : ℕ
  l : ℕ
  name : List ℕ
  ends : designs.left ≡ a ∷ l ∷ name

record Two (xs : List ℕ) : Type 0 where
  a : ℕ
  l : ℕ
  left : List ℕ
  is : xs ≡ a ∷ l ∷ left

two-of : (xs : List ℕ) → 2 ≤ length xs → Two xs
two-of [] e = absurd (omega (arith, e))
two-of (a ∷ []) e = absurd (omega (arith, e))
two-of (a ∷ l ∷ xs) e = record { a = a; l = l; left = xs; is = refl }

fours-long : (xs : List ℕ) (f : Fours xs) → length xs ≡ 4 + length f.left
fours-long xs f = ap (λ (ys : List ℕ). length ys) f.is ∙ (let n : suc (suc (suc (suc (length f.left)))) ≡ 4 + length f.left = omega arith in n)

fifteen : (n : ℕ) (rest : List ℕ) → 15 ≤ length (n ∷ rest) → Fifteen (n ∷ rest)
fifteen n rest long =
    let f1 : Fours rest = four-of rest (omega (arith, long)) in
    let l1 = fours-long rest f1 in
    let f2 : Fours f1.left = four-of f1.left (omega (arith, long, l1)) in
    let l2 = fours-long f1.left f2 in
    let f3 : Fours f2.left = four-of f2.left (omega (arith, long, l1, l2)) in
    let l3 = fours-long f2.left f3 in
    let t : Two f3.left = two-of f3.left (omega (arith, long, l1, l2, l3)) in
    record { n = n; rest = rest; is = refl; sums = f1; sizes = f2; designs = f3; a = t.a; l = t.l; name = t.left; ends = t.is }

whole-list : (ops : List ℕ) (t : Fifteen ops) → ops ≡ t.n ∷ t.sums.a ∷ t.sums.b ∷ t.sums.c ∷ t.sums.d ∷ t.sizes.a ∷ t.sizes.b ∷ t.sizes.c ∷ t.sizes.d ∷ t.designs.a ∷ t.designs.b ∷ t.designs.c ∷ t.designs.d ∷ t.a ∷ t.l ∷ t.name
whole-list ops t =
    t.is ∙ (λ i. t.n ∷ t.sums.is i) ∙ (λ i. t.n ∷ t.sums.a ∷ t.sums.b ∷ t.sums.c ∷ t.sums.d ∷ t.sizes.is i)
    ∙ (λ i. t.n ∷ t.sums.a ∷ t.sums.b ∷ t.sums.c ∷ t.sums.d ∷ t.sizes.a ∷ t.sizes.b ∷ t.sizes.c ∷ t.sizes.d ∷ t.designs.is i)
    ∙ (λ i. t.n ∷ t.sums.a ∷ t.sums.b ∷ t.sums.c ∷ t.sums.d ∷ t.sizes.a ∷ t.sizes.b ∷ t.sizes.c ∷ t.sizes.d ∷ t.designs.a ∷ t.designs.b ∷ t.designs.c ∷ t.designs.d ∷ t.ends i)

definition-from : (n : ℕ) (rest : List ℕ) → AreBytes (n ∷ rest) → 15 ≤ length (n ∷ rest) → get_or (n ∷ rest) 13 0 ≡ 0 → length (n ∷ rest) ≡ 15 + get_or (n ∷ rest) 14 0 → Definition (n ∷ rest)
definition-from n rest are long none all =
    let t : Fifteen (n ∷ rest) = fifteen n rest long in
    let is = whole-list (n ∷ rest) t in
    let zero : t.a ≡ 0 = ap (λ (xs : List ℕ). get_or xs 13 0) (sym is) ∙ none in
    let last : get_or (n ∷ rest) 14 0 ≡ t.l = ap (λ (xs : List ℕ). get_or xs 14 0) is in
    let count : length (n ∷ rest) ≡ 15 + length t.name = ap (λ (xs : List ℕ). length xs) is ∙ (let m : suc (suc (suc (suc (suc (suc (suc (suc (suc (suc (suc (suc (suc (suc (suc (length t.name))))))))))))))) ≡ 15 + length t.name = omega arith in m) in
    subst (λ (xs : List ℕ). Definition xs) (sym is)
    (definition-of t.n t.sums.a t.sums.b t.sums.c t.sums.d t.sizes.a t.sizes.b t.sizes.c t.sizes.d t.designs.a t.designs.b t.designs.c t.designs.d t.a t.l t.name
    (subst (λ (xs : List ℕ). AreBytes xs) is are) zero (omega (arith, count, all, last)))

false-right : (b : Bool) → (b && false) ≡ false
false-right true = refl
false-right false = refl

wanted-is : (opcode : ℕ) (ops : List ℕ) → wanted (opcode ∷ ops) ≡ operands opcode (opcode ∷ ops)
unfolding wanted
wanted-is opcode ops = refl

module _ (q : PageReader) (at : IsBetween q) (opcode : ℕ) (ops : List ℕ) (are : AreBytes (opcode ∷ ops)) (whole : wanted (opcode ∷ ops) ≡ Some (length ops)) where
  abbrev D : Type 0
  D = Decoded q opcode ops

  -- how many bytes follow
  counts : (n : ℕ) → operands opcode (opcode ∷ ops) ≡ Some n → length ops ≡ n
  counts n is = some-of (sym whole ∙ wanted-is opcode ops ∙ is)

  character : opcode < 128 → is_some q.fonts.chosen ≡ true → D
  character low has =
      let none : ops ≡ [] = no-bytes ops (counts 0 (rw (lt-ltb opcode 128 low) refl)) in
      as-spelled q (SetChar opcode) opcode [] opcode ops (spelled-set_char q opcode low (some-is q.fonts.chosen has)) refl (sym none) (low, some-is q.fonts.chosen has)

  font-number : is_font_number opcode ≡ true → is_known (opcode - 171) q.fonts.known ≡ true → D
  font-number is known =
      let parts = and_parts (nat_le 171 opcode) (nat_le opcode 234) is in
      let least : 171 ≤ opcode = leb-true 171 opcode parts.0 in
      let most : opcode ≤ 234 = leb-true opcode 234 parts.1 in
      let no_letter : nat_lt opcode 128 ≡ false = le-ltb opcode 128 (omega (arith, least)) in
      let none : ops ≡ [] = no-bytes ops (counts 0 (rw (no_letter, is) refl)) in
      let low : opcode - 171 < 64 = omega (arith, least, most) in
      as-spelled q (FntNum (opcode - 171)) (171 + (opcode - 171)) [] opcode ops (spelled-fnt_num q (opcode - 171) low known) (omega (arith, least)) (sym none) (low, known)

  set1 : opcode ≡ 128 → is_some q.fonts.chosen ≡ true → D
  set1 same has =
      let t : One ops = one-of ops (counts 1 (ap (λ (n : ℕ). operands n (n ∷ ops)) same)) in
      as-spelled q (Set1 t.a) 128 (t.a ∷ []) opcode ops (spelled-set1 q t.a (some-is q.fonts.chosen has)) (sym same) (sym t.is) (some-is q.fonts.chosen has)

  fnt1 : opcode ≡ 235 → may_choose ops q.fonts.known ≡ true → D
  fnt1 same may =
      let t : One ops = one-of ops (counts 1 (ap (λ (n : ℕ). operands n (n ∷ ops)) same)) in
      let known : is_known t.a q.fonts.known ≡ true = (λ i. may_choose (sym t.is i) q.fonts.known) ∙ may in
      as-spelled q (Fnt1 t.a) 235 (t.a ∷ []) opcode ops (spelled-fnt1 q t.a known) (sym same) (sym t.is) known

  definition : opcode ≡ 243 → may_define ops q.fonts.known ≡ true → D
  definition same may = by ops refl
    where
      is : length ops ≡ definition_operands (243 ∷ ops)
      is = counts (definition_operands (243 ∷ ops)) (ap (λ (n : ℕ). operands n (n ∷ ops)) same)

      long : 15 ≤ length ops
      long = elim (cases_lt 15 (suc (length ops))) [
        | inl past ↦ omega (arith, past)
        | inr fits ↦ (let few : definition_operands (243 ∷ ops) ≡ 15 = cond-false (nat_lt 15 (suc (length ops))) (15 + (get_or ops 13 0 + get_or ops 14 0)) 15 (le-ltb 15 (suc (length ops)) fits) in omega (arith, is, few))
      ]

      sum : length ops ≡ 15 + (get_or ops 13 0 + get_or ops 14 0)
      sum = is ∙ cond-true (nat_lt 15 (suc (length ops))) (15 + (get_or ops 13 0 + get_or ops 14 0)) 15 (lt-ltb 15 (suc (length ops)) (omega (arith, long)))

      made : (n : ℕ) (rest : List ℕ) → (n ∷ rest) ≡ ops → is_known n q.fonts.known ≡ false → get_or rest 12 0 ≡ 0 → D
      made n rest e new none =
          let t : Definition (n ∷ rest) = definition-from n rest (subst (λ (xs : List ℕ). AreBytes xs) (sym e) are.1) (subst (λ (xs : List ℕ). 15 ≤ length xs) (sym e) long) none
          (let all : length (n ∷ rest) ≡ 15 + (get_or (n ∷ rest) 13 0 + get_or (n ∷ rest) 14 0) = subst (λ (xs : List ℕ). length xs ≡ 15 + (get_or xs 13 0 + get_or xs 14 0)) (sym e) sum in omega (arith, all, none)) in
          let fresh : is_known t.font.number q.fonts.known ≡ false = ap (λ m. is_known m q.fonts.known) t.number ∙ new in
          as-spelled q (FntDef1 t.font) 243 (behind_def t.font) opcode ops (spelled-fnt_def1 q t.font fresh (room-left t.font.number q.fonts.known t.fits.number fresh at.known at.distinct) t.fits) (sym same) (t.are ∙ e) (t.fits, fresh)

      by : (xs : List ℕ) → xs ≡ ops → D
      by [] e = absurd (let none : 0 ≡ length ops = ap (λ (xs : List ℕ). length xs) e in omega (arith, none, long))
      by (n ∷ rest) e =
          let parts = and_parts (not (is_known n q.fonts.known)) (nat_le (length rest) 12 || get_or rest 12 0 == 0) ((λ i. may_define (e i) q.fonts.known) ∙ may) in
          let many : 13 < length (n ∷ rest) = (let count : length (n ∷ rest) ≡ length ops = ap (λ (xs : List ℕ). length xs) e in omega (arith, count, long)) in
          made n rest e (not-true (is_known n q.fonts.known) parts.0) (elim (or_cases (nat_le (length rest) 12) (get_or rest 12 0 == 0) parts.1) [
            | inl few ↦ absurd (let fits : length rest ≤ 12 = leb-true (length rest) 12 few in omega (arith, fits, many))
            | inr none ↦ eqb-true (get_or rest 12 0) 0 none
          ])

  -- eight bytes
  first-four : length ops ≡ 8 → length (take 4 ops) ≡ 4
  first-four eight = length-take-le 4 ops (omega (arith, eight))

  last-four : length ops ≡ 8 → length (drop 4 ops) ≡ 4
  last-four eight = let left = length-drop 4 ops in omega (arith, left, eight)

  set_rule : opcode ≡ 132 → D
  set_rule same =
      let eight : length ops ≡ 8 = counts 8 (ap (λ (n : ℕ). operands n (n ∷ ops)) same) in
      let both : take 4 ops ++ drop 4 ops ≡ ops = take-append-drop 4 ops in
      record {
        command = SetRule (take 4 ops) (drop 4 ops);
        bytes = λ i. sym same i ∷ both i;
        may = (first-four eight, last-four eight);
        carried = (λ i. carried_out no_widths (same i) (sym both i) q) ∙ set_rule-carried q (take 4 ops) (drop 4 ops) (first-four eight) (last-four eight);
        defined = no-definition opcode ops (ap (λ n. n == 243) same);
      }

  put_rule : opcode ≡ 137 → D
  put_rule same =
      let eight : length ops ≡ 8 = counts 8 (ap (λ (n : ℕ). operands n (n ∷ ops)) same) in
      as-spelled q (PutRule (take 4 ops) (drop 4 ops)) 137 (take 4 ops ++ drop 4 ops) opcode ops (spelled-put_rule q (take 4 ops) (drop 4 ops) (first-four eight) (last-four eight)) (sym same) (take-append-drop 4 ops)
      (first-four eight, last-four eight)

  push : opcode ≡ 141 → D
  push same = let none : ops ≡ [] = no-bytes ops (counts 0 (ap (λ (n : ℕ). operands n (n ∷ ops)) same)) in as-spelled q Push 141 [] opcode ops (spelled-push q) (sym same) (sym none) tt

  pop : opcode ≡ 142 → nat_lt 0 (length q.stack) ≡ true → D
  pop same some =
      let none : ops ≡ [] = no-bytes ops (counts 0 (ap (λ (n : ℕ). operands n (n ∷ ops)) same)) in
      as-spelled q Pop 142 [] opcode ops (spelled-pop q (ltb-true 0 (length q.stack) some)) (sym same) (sym none) (ltb-true 0 (length q.stack) some)

  special : 239 ≤ opcode → opcode ≤ 242 → D
  special least most = made is
    where
      n : ℕ
      n = opcode - 238

      no_letter : nat_lt opcode 128 ≡ false
      no_letter = le-ltb opcode 128 (omega (arith, least))

      no_number : is_font_number opcode ≡ false
      no_number = (λ i. nat_le 171 opcode && lt-leb opcode 234 (omega (arith, least)) i) ∙ false-right (nat_le 171 opcode)

      no_movement : is_movement opcode ≡ false
      no_movement = (λ i. nat_le 143 opcode && lt-leb opcode 170 (omega (arith, least)) i) ∙ false-right (nat_le 143 opcode)

      wants : operands opcode (opcode ∷ ops) ≡ Some (special_operands (opcode - 238) (opcode ∷ ops))
      wants = rw (
        no_letter,
        no_number,
        ne_eqb opcode 128 (λ e. omega (arith, least, e)),
        ne_eqb opcode 235 (λ e. omega (arith, least, e)),
        ne_eqb opcode 243 (λ e. omega (arith, most, e)),
        ne_eqb opcode 132 (λ e. omega (arith, least, e)),
        ne_eqb opcode 137 (λ e. omega (arith, least, e)),
        ne_eqb opcode 138 (λ e. omega (arith, least, e)),
        ne_eqb opcode 141 (λ e. omega (arith, least, e)),
        ne_eqb opcode 142 (λ e. omega (arith, least, e)),
        no_movement,
        le-ltb opcode 239 least,
        le-leb opcode 242 most,
      ) refl

      is : length ops ≡ special_operands (opcode - 238) (opcode ∷ ops)
      is = counts (special_operands (opcode - 238) (opcode ∷ ops)) wants

      made : length ops ≡ special_operands (opcode - 238) (opcode ∷ ops) → D
      made long =
          let many : opcode - 238 ≤ length ops = elim (cases_lt (opcode - 238) (suc (length ops))) [
            | inl past ↦ omega (arith, past)
            | inr fits ↦ (let few : special_operands (opcode - 238) (opcode ∷ ops) ≡ opcode - 238 = cond-false (nat_lt (opcode - 238) (suc (length ops))) ((opcode - 238) + big_number (opcode - 238) ops) (opcode - 238) (le-ltb (opcode - 238) (suc (length ops)) fits) in omega (arith, long, few, fits))
          ] in
          let sum : special_operands (opcode - 238) (opcode ∷ ops) ≡ (opcode - 238) + big_number (opcode - 238) ops
          = cond-true (nat_lt (opcode - 238) (suc (length ops))) ((opcode - 238) + big_number (opcode - 238) ops) (opcode - 238) (lt-ltb (opcode - 238) (suc (length ops)) (omega (arith, many))) in
          let size : List ℕ = take (opcode - 238) ops in
          let text : List ℕ = drop (opcode - 238) ops in
          let both : size ++ text ≡ ops = take-append-drop (opcode - 238) ops in
          let size_long : length size ≡ opcode - 238 = length-take-le (opcode - 238) ops many in
          let text_long : length text ≡ length ops - (opcode - 238) = length-drop (opcode - 238) ops in
          let told : big_number (opcode - 238) size ≡ big_number (opcode - 238) ops = sym (from-front (opcode - 238) 0 size text (omega (arith, size_long))) ∙ ap (λ (xs : List ℕ). big_number (opcode - 238) xs) both in
          let left : big_number (opcode - 238) ops ≡ length text = omega (arith, long, sum, text_long) in
          let says : big_number (length size) size ≡ length text = (λ i. big_number (size_long i) size) ∙ told ∙ left in
          let amount_is : (1 ≤ length size) × (length size ≤ 4) = (omega (arith, size_long, least), omega (arith, size_long, most)) in
          as-spelled q (Xxx size text) (238 + length size) (size ++ text) opcode ops (spelled-xxx q size text amount_is says) (omega (arith, size_long, least)) both (amount_is, says)

  -- movements
  module _ (m : Moves opcode) where
    size-is : length ops ≡ movement_operands opcode
    size-is = some-of (sym whole ∙ movement-wanted opcode m ops)

    moves-by : (c : Command) → command_bytes c ≡ opcode ∷ ops → MayStand c q → defines c ≡ [] → with_registers (moved opcode (signed (length ops) ops) q.now) q ≡ behind c q → D
    moves-by c bytes may none is = record {
      command = c;
      bytes = bytes;
      may = may;
      carried = movement-carried opcode m ops q ∙ (λ i. Some (with_registers (moved opcode (signed (sym size-is i) ops) q.now) q)) ∙ (λ i. Some (is i));
      defined = λ ds. no-definition opcode ops m.no_definition ds ∙ (λ i. ds ++ map definition_bytes (sym none i));
    }

    right : 143 ≤ opcode → opcode ≤ 146 → D
    right least most =
        let n : movement_operands opcode ≡ opcode - 142 = rw (le-leb opcode 146 most) refl in
        let same : 142 + length ops ≡ opcode = omega (arith, least, n, size-is) in
        moves-by (Right ops) (λ i. same i ∷ ops) (omega (arith, least, n, size-is), omega (arith, most, n, size-is)) refl (rw (le-leb opcode 146 most) refl)

    w0 : opcode ≡ 147 → D
    w0 is =
        let none : ops ≡ [] = no-bytes ops (size-is ∙ ap (λ (n : ℕ). movement_operands n) is) in
        moves-by W0 (λ i. sym is i ∷ sym none i) tt refl (λ i. with_registers (moved (is i) (signed (length ops) ops) q.now) q)

    w : 148 ≤ opcode → opcode ≤ 151 → D
    w least most =
        let n : movement_operands opcode ≡ opcode - 147 = rw (lt-leb opcode 146 (omega (arith, least)), le-leb opcode 151 most) refl in
        let same : 147 + length ops ≡ opcode = omega (arith, least, n, size-is) in
        moves-by (W ops) (λ i. same i ∷ ops) (omega (arith, least, n, size-is), omega (arith, most, n, size-is)) refl (rw (lt-leb opcode 146 (omega (arith, least)), ne_eqb opcode 147 (λ e. omega (arith, least, e)), le-leb opcode 151 most) refl)

    x0 : opcode ≡ 152 → D
    x0 is =
        let none : ops ≡ [] = no-bytes ops (size-is ∙ ap (λ (n : ℕ). movement_operands n) is) in
        moves-by X0 (λ i. sym is i ∷ sym none i) tt refl (λ i. with_registers (moved (is i) (signed (length ops) ops) q.now) q)

    x : 153 ≤ opcode → opcode ≤ 156 → D
    x least most =
        let n : movement_operands opcode ≡ opcode - 152 = rw (lt-leb opcode 146 (omega (arith, least)), lt-leb opcode 151 (omega (arith, least)), le-leb opcode 156 most) refl in
        let same : 152 + length ops ≡ opcode = omega (arith, least, n, size-is) in
        moves-by (X ops) (λ i. same i ∷ ops) (omega (arith, least, n, size-is), omega (arith, most, n, size-is)) refl
        (rw (lt-leb opcode 146 (omega (arith, least)), ne_eqb opcode 147 (λ e. omega (arith, least, e)), lt-leb opcode 151 (omega (arith, least)), ne_eqb opcode 152 (λ e. omega (arith, least, e)), le-leb opcode 156 most) refl)

    down : 157 ≤ opcode → opcode ≤ 160 → D
    down least most =
        let n : movement_operands opcode ≡ opcode - 156 = rw (lt-leb opcode 146 (omega (arith, least)), lt-leb opcode 151 (omega (arith, least)), lt-leb opcode 156 (omega (arith, least)), le-leb opcode 160 most) refl in
        let same : 156 + length ops ≡ opcode = omega (arith, least, n, size-is) in
        moves-by (Down ops) (λ i. same i ∷ ops) (omega (arith, least, n, size-is), omega (arith, most, n, size-is)) refl
        (rw (lt-leb opcode 146 (omega (arith, least)), ne_eqb opcode 147 (λ e. omega (arith, least, e)), lt-leb opcode 151 (omega (arith, least)), ne_eqb opcode 152 (λ e. omega (arith, least, e)), lt-leb opcode 156 (omega (arith, least)), le-leb opcode 160 most) refl)

    y0 : opcode ≡ 161 → D
    y0 is =
        let none : ops ≡ [] = no-bytes ops (size-is ∙ ap (λ (n : ℕ). movement_operands n) is) in
        moves-by Y0 (λ i. sym is i ∷ sym none i) tt refl (λ i. with_registers (moved (is i) (signed (length ops) ops) q.now) q)

    y : 162 ≤ opcode → opcode ≤ 165 → D
    y least most =
        let n : movement_operands opcode ≡ opcode - 161 = rw (lt-leb opcode 146 (omega (arith, least)), lt-leb opcode 151 (omega (arith, least)), lt-leb opcode 156 (omega (arith, least)), lt-leb opcode 160 (omega (arith, least)), le-leb opcode 165 most) refl in
        let same : 161 + length ops ≡ opcode = omega (arith, least, n, size-is) in
        moves-by (Y ops) (λ i. same i ∷ ops) (omega (arith, least, n, size-is), omega (arith, most, n, size-is)) refl
        (rw (
          lt-leb opcode 146 (omega (arith, least)),
          ne_eqb opcode 147 (λ e. omega (arith, least, e)),
          lt-leb opcode 151 (omega (arith, least)),
          ne_eqb opcode 152 (λ e. omega (arith, least, e)),
          lt-leb opcode 156 (omega (arith, least)),
          lt-leb opcode 160 (omega (arith, least)),
          ne_eqb opcode 161 (λ e. omega (arith, least, e)),
          le-leb opcode 165 most,
        ) refl)

    z0 : opcode ≡ 166 → D
    z0 is =
        let none : ops ≡ [] = no-bytes ops (size-is ∙ ap (λ (n : ℕ). movement_operands n) is) in
        moves-by Z0 (λ i. sym is i ∷ sym none i) tt refl (λ i. with_registers (moved (is i) (signed (length ops) ops) q.now) q)

    z : 167 ≤ opcode → opcode ≤ 170 → D
    z least most =
        let n : movement_operands opcode ≡ opcode - 166 = rw (lt-leb opcode 146 (omega (arith, least)), lt-leb opcode 151 (omega (arith, least)), lt-leb opcode 156 (omega (arith, least)), lt-leb opcode 160 (omega (arith, least)), lt-leb opcode 165 (omega (arith, least))) refl in
        let same : 166 + length ops ≡ opcode = omega (arith, least, n, size-is) in
        moves-by (Z ops) (λ i. same i ∷ ops) (omega (arith, least, n, size-is), omega (arith, most, n, size-is)) refl
        (rw (moved-last opcode (signed (length ops) ops) q.now least) refl)

    movement : 143 ≤ opcode → opcode ≤ 170 → D
    movement least most = elim (cases_lt opcode 147) [
      | inl h ↦ right least (omega (arith, h))
      | inr h1 ↦ elim (cases_eq opcode 147) [
        | inl e ↦ w0 e
        | inr n1 ↦ elim (cases_lt opcode 152) [
          | inl h ↦ w (omega (arith, h1, n1)) (omega (arith, h))
          | inr h2 ↦ elim (cases_eq opcode 152) [
            | inl e ↦ x0 e
            | inr n2 ↦ elim (cases_lt opcode 157) [
              | inl h ↦ x (omega (arith, h2, n2)) (omega (arith, h))
              | inr h3 ↦ elim (cases_lt opcode 161) [
                | inl h ↦ down h3 (omega (arith, h))
                | inr h4 ↦ elim (cases_eq opcode 161) [
                  | inl e ↦ y0 e
                  | inr n4 ↦ elim (cases_lt opcode 166) [
                    | inl h ↦ y (omega (arith, h4, n4)) (omega (arith, h))
                    | inr h5 ↦ elim (cases_eq opcode 166) [
                      | inl e ↦ z0 e
                      | inr n5 ↦ z (omega (arith, h5, n5)) most
                    ]
                  ]
                ]
              ]
            ]
          ]
        ]
      ]
    ]

  -- whichever it is
  pub decoded : may_begin opcode ops (record q { begun = opcode ∷ ops }) ≡ true → D
  unfolding may_begin
  decoded may =
      choose_by (nat_lt opcode 128) (is_some q.fonts.chosen) _ may (λ t f. character (ltb-true opcode 128 t) f) (λ t1 e1.
      choose_by (is_font_number opcode) (is_known (opcode - 171) q.fonts.known) _ e1 (λ t f. font-number t f) (λ t2 e2.
      choose_by (opcode == 128) (is_some q.fonts.chosen) _ e2 (λ t f. set1 (eqb-true opcode 128 t) f) (λ t3 e3.
      choose_by (opcode == 235) (may_choose ops q.fonts.known) _ e3 (λ t f. fnt1 (eqb-true opcode 235 t) f) (λ t4 e4.
      choose_by (opcode == 243) (may_define ops q.fonts.known) _ e4 (λ t f. definition (eqb-true opcode 243 t) f) (λ t5 e5.
      choose_by (opcode == 132) (may_pass ops q.now) _ e5 (λ t f. set_rule (eqb-true opcode 132 t)) (λ t6 e6.
      choose_by (opcode == 137 || opcode == 141) true _ e6 (λ t f. elim (or_cases (opcode == 137) (opcode == 141) t) [ inl h ↦ put_rule (eqb-true opcode 137 h) | inr h ↦ push (eqb-true opcode 141 h) ]) (λ t7 e7.
      choose_by (opcode == 142) (nat_lt 0 (length q.stack)) _ e7 (λ t f. pop (eqb-true opcode 142 t) f) (λ t8 e8.
      choose_by (is_movement opcode) (may_go opcode ops q.now) (nat_le 239 opcode && nat_le opcode 242) e8 (λ t f. moving t) (λ t9 e9. specials e9)))))))))
    where
      moving : is_movement opcode ≡ true → D
      moving t =
          let parts = and_parts (nat_le 143 opcode) (nat_le opcode 170) t in
          let least : 143 ≤ opcode = leb-true 143 opcode parts.0 in
          let most : opcode ≤ 170 = leb-true opcode 170 parts.1 in
          movement (moves-so opcode least most) least most

      specials : (nat_le 239 opcode && nat_le opcode 242) ≡ true → D
      specials t = let parts = and_parts (nat_le 239 opcode) (nat_le opcode 242) t in special (leb-true 239 opcode parts.0) (leb-true opcode 242 parts.1)

-- how many bytes are wanted grows with those that are there
same-test : {P : Type 0} (b : Bool) (x y x' y' : Option ℕ) (a a' : ℕ) → cond b x y ≡ Some a → cond b x' y' ≡ Some a' → (x ≡ Some a → x' ≡ Some a' → P) → (y ≡ Some a → y' ≡ Some a' → P) → P
same-test true x y x' y' a a' e f first other = first e f
same-test false x y x' y' a a' e f first other = other e f

as-much : (n a a' : ℕ) → Some n ≡ Some a → Some n ≡ Some a' → a ≤ a'
as-much n a a' e f = let one : n ≡ a = some-of e in let two : n ≡ a' = some-of f in omega (arith, one, two)

definition-grows : (ops : List ℕ) (b : ℕ) → definition_operands (243 ∷ ops) ≤ definition_operands (243 ∷ (ops ++ b ∷ []))
definition-grows ops b = elim (cases_lt 15 (suc (length ops))) [
  | inl past ↦ (let one = length_push ops b in
      let first : definition_operands (243 ∷ ops) ≡ 15 + (get_or ops 13 0 + get_or ops 14 0) = cond-true (nat_lt 15 (suc (length ops))) (15 + (get_or ops 13 0 + get_or ops 14 0)) 15 (lt-ltb 15 (suc (length ops)) past) in
      let later : definition_operands (243 ∷ (ops ++ b ∷ [])) ≡ 15 + (get_or (ops ++ b ∷ []) 13 0 + get_or (ops ++ b ∷ []) 14 0)
      = cond-true (nat_lt 15 (suc (length (ops ++ b ∷ [])))) (15 + (get_or (ops ++ b ∷ []) 13 0 + get_or (ops ++ b ∷ []) 14 0)) 15 (lt-ltb 15 (suc (length (ops ++ b ∷ []))) (omega (arith, past, one))) in
      let s13 = get_or_append_left ops (b ∷ []) 0 13 (omega (arith, past)) in
      let s14 = get_or_append_left ops (b ∷ []) 0 14 (omega (arith, past)) in
      omega (arith, first, later, s13, s14))
  | inr fits ↦ (let first : definition_operands (243 ∷ ops) ≡ 15 = cond-false (nat_lt 15 (suc (length ops))) (15 + (get_or ops 13 0 + get_or ops 14 0)) 15 (le-ltb 15 (suc (length ops)) fits) in
      let later : 15 ≤ definition_operands (243 ∷ (ops ++ b ∷ [])) = cond_both (nat_lt 15 (suc (length (ops ++ b ∷ [])))) (15 + (get_or (ops ++ b ∷ []) 13 0 + get_or (ops ++ b ∷ []) 14 0)) 15 (λ n. 15 ≤ n) (λ e. omega arith) (λ e. omega arith) in
      omega (arith, first, later))
]

special-grows : (opcode n : ℕ) (ops : List ℕ) (b : ℕ) → special_operands n (opcode ∷ ops) ≤ special_operands n (opcode ∷ (ops ++ b ∷ []))
special-grows opcode n ops b = elim (cases_lt n (suc (length ops))) [
  | inl past ↦ (let one = length_push ops b in
      let first : special_operands n (opcode ∷ ops) ≡ n + big_number n ops = cond-true (nat_lt n (suc (length ops))) (n + big_number n ops) n (lt-ltb n (suc (length ops)) past) in
      let later : special_operands n (opcode ∷ (ops ++ b ∷ [])) ≡ n + big_number n (ops ++ b ∷ []) = cond-true (nat_lt n (suc (length (ops ++ b ∷ [])))) (n + big_number n (ops ++ b ∷ [])) n (lt-ltb n (suc (length (ops ++ b ∷ []))) (omega (arith, past, one))) in
      let same = from-front n 0 ops (b ∷ []) (omega (arith, past)) in
      omega (arith, first, later, same))
  | inr fits ↦ (let first : special_operands n (opcode ∷ ops) ≡ n = cond-false (nat_lt n (suc (length ops))) (n + big_number n ops) n (le-ltb n (suc (length ops)) fits) in
      let later : n ≤ special_operands n (opcode ∷ (ops ++ b ∷ [])) = cond_both (nat_lt n (suc (length (ops ++ b ∷ [])))) (n + big_number n (ops ++ b ∷ [])) n (λ k. n ≤ k) (λ e. omega arith) (λ e. omega arith) in
      omega (arith, first, later))
]

operands-grow : (opcode : ℕ) (ops : List ℕ) (b a a' : ℕ) → operands opcode (opcode ∷ ops) ≡ Some a → operands opcode (opcode ∷ (ops ++ b ∷ [])) ≡ Some a' → a ≤ a'
operands-grow opcode ops b a a' e f =
    same-test (nat_lt opcode 128 || is_font_number opcode) (Some 0) _ (Some 0) _ a a' e f (as-much 0 a a') (λ e1 f1.
    same-test (opcode == 128 || opcode == 235) (Some 1) _ (Some 1) _ a a' e1 f1 (as-much 1 a a') (λ e2 f2.
    same-test (opcode == 243) (Some (definition_operands (opcode ∷ ops))) _ (Some (definition_operands (opcode ∷ (ops ++ b ∷ [])))) _ a a' e2 f2
    (λ x y. let one : definition_operands (243 ∷ ops) ≡ a = some-of x in let two : definition_operands (243 ∷ (ops ++ b ∷ [])) ≡ a' = some-of y in let more = definition-grows ops b in omega (arith, one, two, more)) (λ e3 f3.
    same-test (opcode == 132 || opcode == 137) (Some 8) _ (Some 8) _ a a' e3 f3 (as-much 8 a a') (λ e4 f4.
    same-test (opcode == 138 || opcode == 141 || opcode == 142) (Some 0) _ (Some 0) _ a a' e4 f4 (as-much 0 a a') (λ e5 f5.
    same-test (is_movement opcode) (Some (movement_operands opcode)) _ (Some (movement_operands opcode)) _ a a' e5 f5 (as-much (movement_operands opcode) a a') (λ e6 f6.
    same-test (nat_lt opcode 239) None _ None _ a a' e6 f6 (λ x y. absurd (none-some a x)) (λ e7 f7.
    same-test (nat_le opcode 242) (Some (special_operands (opcode - 238) (opcode ∷ ops))) None (Some (special_operands (opcode - 238) (opcode ∷ (ops ++ b ∷ [])))) None a a' e7 f7
    (λ x y. let one : special_operands (opcode - 238) (opcode ∷ ops) ≡ a = some-of x in let two : special_operands (opcode - 238) (opcode ∷ (ops ++ b ∷ [])) ≡ a' = some-of y in let more = special-grows opcode (opcode - 238) ops b in omega (arith, one, two, more))
    (λ x y. absurd (none-some a x)))))))))

pub wanted-grows : (opcode : ℕ) (ops : List ℕ) (b a a' : ℕ) → wanted (opcode ∷ ops) ≡ Some a → wanted (opcode ∷ (ops ++ b ∷ [])) ≡ Some a' → a ≤ a'
wanted-grows opcode ops b a a' e f = operands-grow opcode ops b a a' (sym (wanted-is opcode ops) ∙ e) (sym (wanted-is opcode (ops ++ b ∷ [])) ∙ f)
