-- From where the reader of a file stands it can come to the end of one: bytes are put behind those that were read, from the end backwards.
use Rattle.std.proofs.Common.{◌≡◌, ℕ, zero, suc, ◌+◌, ◌-◌, ◌*◌, ◌%◌, ◌^◌, ◌<◌, ◌≤◌, ◌==◌, ◌&&◌, ◌||◌, nat_lt, nat_le, Bool, true, false, cond, List, [], ◌∷◌, ◌++◌, length, get_or, Option, Some, None, Result, Ok, Err, refl, sym, ap, ◌∙◌, inl, inr, arith, zero-add}
use Rattle.std.proofs.lemmas.Bool.{and_from, and_left, and_right, cases_eq, cases_lt, eq-eqb, le-leb, le-ltb, lt-leb, lt-ltb, ne_eqb, or_right}
use Rattle.std.proofs.lemmas.List.{get_or_past, length_push}
use Rattle.std.specs.List.{AllByRecursion}
use Rattle.tx_dvitype.specs.declared.error.DviRule.{DviRule}
use Rattle.tx_dvitype.specs.declared.error.DviRule.TheVariants.{Preamble, Page, Command, Postamble, End}
use Rattle.tx_dvitype.specs.declared.reader.ReadPage.{ReadPage}
use Rattle.tx_dvitype.specs.declared.reader.Reader.{Reader}
use Rattle.tx_dvi.specs.declared.placed.Registers.{Registers}
use Rattle.tx_dvitype.specs.Files.{Broken, stands_at, with_byte, preamble_start, is_mag, may_begin_preamble, is_preamble, behind_preamble, past_preamble, preamble_taken, may_begin_page, may_begin_post, behind_bop, past_bop, at_post, postamble, page_taken, behind_eop, ending, may_stand, behind_postamble, past_postamble, postamble_taken, end_taken, taken, taken_by, is_last, stopped, rest_read}
use Rattle.tx_dvitype.specs.Grammar.{AreBytes}
use Rattle.tx_dvi.specs.Meaning.{Reader as PageReader}
use Rattle.tx_dvitype.specs.Partial.{is_near, carried_near, may_begin, read_within, wanted}
use Rattle.tx_dvitype.proofs.Bytes.{AreAllBytes, append-default, byte-at, definitions-on, ending-bytes, length-place, place-bytes, postamble-bytes, postamble-long}
use Rattle.tx_dvitype.proofs.ReadFront.{may-anything, stands-there, take-one}
use Rattle.tx_dvitype.proofs.ReadPages.{byte-goes, eop-goes, next-reader, no-bytes}
use Rattle.tx_dvitype.proofs.Standing.{IsNear, IsPreambleBegun, preamble-on}

-- bytes that lead to the end of a file
pub record CanEnd (place : ℕ) (r : Reader) : Type 0 where
  pub more : List ℕ
  pub are : AreBytes more
  pub pages : List ReadPage
  pub ends : rest_read place r more ≡ Ok pages

pub one-before : (place : ℕ) (r next : Reader) (byte : ℕ) → byte < 256 → taken place r byte ≡ Some next → CanEnd (place + 1) next → CanEnd place r
one-before place r next byte small is end = record {
  more = byte ∷ end.more;
  are = (small, end.are);
  pages = end.pages;
  ends = take-one place r next byte end.more is ∙ end.ends;
}

-- behind the postamble stands what is expected there
pub end-takes : (place : ℕ) (r : Reader) (byte : ℕ) → r.element ≡ End → stands_at r.expected (length r.page.begun) byte ≡ true → taken place r byte ≡ Some (with_byte byte r)
unfolding taken end_taken
end-takes place r byte is may = ap (λ (e : DviRule). taken_by e place r byte) is ∙ (λ i. cond {A = Option Reader} (may i) (Some (with_byte byte r)) None)

pub end-can : (left place : ℕ) (r : Reader) → r.element ≡ End → AreBytes r.expected → length r.expected ≡ length r.page.begun + left → CanEnd place r
end-can zero place r is are long = record {
  more = [];
  are = tt;
  pages = r.pages;
  ends = λ i. cond {A = Result (List ReadPage) Broken} (is_last (is i) && eq-eqb (length r.page.begun) (length r.expected) (omega (arith, long)) i) (Ok r.pages) (Err (stopped place r));
}
end-can (suc left) place r is are long =
    let byte : ℕ = get_or r.expected (length r.page.begun) 0 in
    let may : stands_at r.expected (length r.page.begun) byte ≡ true = stands-there r.expected (length r.page.begun) byte (omega (arith, long)) refl in
    let one : length (r.page.begun ++ byte ∷ []) ≡ length r.page.begun + 1 = length_push r.page.begun byte in
    one-before place r (with_byte byte r) byte (byte-at r.expected (length r.page.begun) are) (end-takes place r byte is may)
    (end-can left (place + 1) (with_byte byte r) is are (omega (arith, long, one)))

-- in the postamble too
pub post-takes : (place : ℕ) (r : Reader) (byte : ℕ) → r.element ≡ Postamble → (may_stand r || stands_at r.expected (length r.page.begun) byte) ≡ true → taken place r byte ≡ Some (past_postamble place (with_byte byte r))
unfolding taken postamble_taken
post-takes place r byte is may = ap (λ (e : DviRule). taken_by e place r byte) is ∙ (λ i. cond {A = Option Reader} (may i) (Some (past_postamble place (with_byte byte r))) None)

pub post-can : (left place : ℕ) (r : Reader) → r.element ≡ Postamble → AreBytes r.expected → length r.expected ≡ length r.page.begun + suc left → CanEnd place r
post-can zero place r is are long =
    let byte : ℕ = get_or r.expected (length r.page.begun) 0 in
    let next : Reader = with_byte byte r in
    let there : stands_at r.expected (length r.page.begun) byte ≡ true = stands-there r.expected (length r.page.begun) byte (omega (arith, long)) refl in
    let may : (may_stand r || stands_at r.expected (length r.page.begun) byte) ≡ true = or_right (may_stand r) (stands_at r.expected (length r.page.begun) byte) there in
    let one : length (r.page.begun ++ byte ∷ []) ≡ length r.page.begun + 1 = length_push r.page.begun byte in
    let whole : (length (r.page.begun ++ byte ∷ []) == length r.expected) ≡ true = eq-eqb (length (r.page.begun ++ byte ∷ [])) (length r.expected) (omega (arith, long, one)) in
    one-before place r (behind_postamble place next) byte (byte-at r.expected (length r.page.begun) are)
    (post-takes place r byte is may ∙ (λ i. Some (cond {A = Reader} (whole i) (behind_postamble place next) next)))
    (end-can (length (ending place (length r.expected))) (place + 1) (behind_postamble place next) refl (ending-bytes place (length r.expected)) (sym (zero-add (length (ending place (length r.expected))))))
post-can (suc left) place r is are long =
    let byte : ℕ = get_or r.expected (length r.page.begun) 0 in
    let next : Reader = with_byte byte r in
    let there : stands_at r.expected (length r.page.begun) byte ≡ true = stands-there r.expected (length r.page.begun) byte (omega (arith, long)) refl in
    let may : (may_stand r || stands_at r.expected (length r.page.begun) byte) ≡ true = or_right (may_stand r) (stands_at r.expected (length r.page.begun) byte) there in
    let one : length (r.page.begun ++ byte ∷ []) ≡ length r.page.begun + 1 = length_push r.page.begun byte in
    let part : (length (r.page.begun ++ byte ∷ []) == length r.expected) ≡ false = ne_eqb (length (r.page.begun ++ byte ∷ [])) (length r.expected) (λ e. omega (arith, long, one, e)) in
    one-before place r next byte (byte-at r.expected (length r.page.begun) are)
    (post-takes place r byte is may ∙ (λ i. Some (cond {A = Reader} (part i) (behind_postamble place next) next)))
    (post-can left (place + 1) next is are (omega (arith, long, one)))

-- behind a page stands post
pub post-begins : (place : ℕ) (r : Reader) → r.element ≡ Page → length r.page.begun ≡ 0 → 0 < length r.pages → taken place r 248 ≡ Some (at_post r)
unfolding taken page_taken
post-begins place r is none some =
    let one : nat_lt 0 (length r.pages) ≡ true = lt-ltb 0 (length r.pages) some in
    ap (λ (e : DviRule). taken_by e place r 248) is
    ∙ (λ i. cond {A = Option Reader} ((none i == 0) && (true && one i)) (Some (at_post r)) (cond {A = Option Reader} (may_begin_page r 248) (Some (past_bop place (with_byte 248 r))) None))

pages-can : (place : ℕ) (r : Reader) → r.element ≡ Page → length r.page.begun ≡ 0 → 0 < length r.pages → length r.pointer ≡ 4 → AreBytes r.pointer → AreAllBytes r.definitions → CanEnd place r
pages-can place r is none some four pointer definitions =
    let one : length (r.page.begun ++ 248 ∷ []) ≡ length r.page.begun + 1 = length_push r.page.begun 248 in
    let long : 1 < length (postamble r) = postamble-long r four in
    one-before place r (at_post r) 248 (omega arith) (post-begins place r is none some)
    (post-can (length (postamble r) - 2) (place + 1) (at_post r) refl (postamble-bytes r pointer definitions) (omega (arith, none, one, long)))

-- on a page, between two commands, stand a pop for each push, and eop
pop-goes : (p : PageReader) (last : Registers) (others : List Registers) → p.begun ≡ [] → p.stack ≡ last ∷ others → is_near last ≡ true → read_within p 142 ≡ Some (record p { now = last; stack = others; begun = [] })
unfolding read_within may_begin wanted carried_near
pop-goes p last others none pushed near =
    let some : nat_lt 0 (length (last ∷ others)) ≡ true = lt-ltb 0 (length (last ∷ others)) (omega arith) in
    (λ i. read_within (record p { begun = none i; stack = pushed i }) 142)
    ∙ (λ i. cond {A = Option PageReader} (some i) (cond {A = Option PageReader} (near i) (Some (record p { now = last; stack = others; begun = [] })) None) None)

no-more : (begun : List ℕ) → begun ≡ [] → AreBytes (begun ++ 142 ∷ [])
no-more [] none = (omega arith, tt)
no-more (byte ∷ begun) none = absurd (let no : suc (length begun) ≡ 0 = ap (λ (b : List ℕ). length b) none in omega (arith, no))

pub level-can : (stack : List Registers) (place : ℕ) (r : Reader) → r.element ≡ Command → length r.page.begun ≡ 0 → r.page.stack ≡ stack → AllByRecursion IsNear stack → length r.pointer ≡ 4 → AreBytes r.pointer → AreAllBytes r.definitions → CanEnd place r
level-can [] place r is none at near four pointer definitions =
    let level : length r.page.stack ≡ 0 = ap (λ (s : List Registers). length s) at in
    let page : ReadPage = record { counts = r.counts; placed = r.page.met } in
    let one : length (r.pages ++ page ∷ []) ≡ length r.pages + 1 = length_push r.pages page in
    one-before place r (behind_eop r) 140 (omega arith) (eop-goes place r is none level)
    (pages-can (place + 1) (behind_eop r) refl none (omega (arith, one)) four pointer definitions)
level-can (last ∷ others) place r is none at near four pointer definitions =
    let empty : r.page.begun ≡ [] = no-bytes r.page.begun none in
    let x : PageReader = record r.page { now = last; stack = others; begun = [] } in
    one-before place r (next-reader r 142 x) 142 (omega arith) (byte-goes place r x 142 is (pop-goes r.page last others empty at near.0))
    (level-can others (place + 1) (next-reader r 142 x) is refl refl near.1 four pointer (definitions-on (r.page.begun ++ 142 ∷ []) r.definitions (no-more r.page.begun empty) definitions))

-- in a bop any numbers stand, and the pointer
record BopByte (r : Reader) : Type 0 where
  byte : ℕ
  small : byte < 256
  no_post : may_begin_post r byte ≡ false
  may : may_begin_page r byte ≡ true

bop-byte : (r : Reader) → length r.page.begun < 45 → length r.pointer ≡ 4 → AreBytes r.pointer → BopByte r
bop-byte r few four pointer = elim (cases_eq (length r.page.begun) 0) [
  | inl none ↦ first none
  | inr some ↦ elim (cases_lt 40 (length r.page.begun)) [
    | inl past ↦ last past
    | inr fits ↦ middle some fits
  ]
]
  where
    first : length r.page.begun ≡ 0 → BopByte r
    first none = record {
      byte = 139;
      small = omega arith;
      no_post = and_right (length r.page.begun == 0) (139 == 248 && nat_lt 0 (length r.pages)) refl;
      may = λ i. cond {A = Bool} (eq-eqb (length r.page.begun) 0 none i) true (cond {A = Bool} (nat_le (length r.page.begun) 40) true (stands_at r.pointer (length r.page.begun - 41) 139));
    }

    middle : (length r.page.begun ≡ 0 → ⊥) → length r.page.begun ≤ 40 → BopByte r
    middle some fits = record {
      byte = 0;
      small = omega arith;
      no_post = and_right (length r.page.begun == 0) (0 == 248 && nat_lt 0 (length r.pages)) refl;
      may = λ i. cond {A = Bool} (ne_eqb (length r.page.begun) 0 some i) (0 == 139) (cond {A = Bool} (le-leb (length r.page.begun) 40 fits i) true (stands_at r.pointer (length r.page.begun - 41) 0));
    }

    last : 40 < length r.page.begun → BopByte r
    last past =
        let byte : ℕ = get_or r.pointer (length r.page.begun - 41) 0 in
        let some : (length r.page.begun == 0) ≡ false = ne_eqb (length r.page.begun) 0 (λ e. omega (arith, past, e)) in
        let over : nat_le (length r.page.begun) 40 ≡ false = lt-leb (length r.page.begun) 40 past in
        let there : stands_at r.pointer (length r.page.begun - 41) byte ≡ true = stands-there r.pointer (length r.page.begun - 41) byte (omega (arith, past, few, four)) refl in
        record {
          byte = byte;
          small = byte-at r.pointer (length r.page.begun - 41) pointer;
          no_post = and_left (length r.page.begun == 0) (byte == 248 && nat_lt 0 (length r.pages)) some;
          may = λ i. cond {A = Bool} (some i) (byte == 139) (cond {A = Bool} (over i) true (there i));
        }

pub bop-takes : (place : ℕ) (r : Reader) (byte : ℕ) → r.element ≡ Page → may_begin_post r byte ≡ false → may_begin_page r byte ≡ true → taken place r byte ≡ Some (past_bop place (with_byte byte r))
unfolding taken page_taken
bop-takes place r byte is no_post may =
    ap (λ (e : DviRule). taken_by e place r byte) is
    ∙ (λ i. cond {A = Option Reader} (no_post i) (Some (at_post r)) (cond {A = Option Reader} (may i) (Some (past_bop place (with_byte byte r))) None))

pub page-can : (left place : ℕ) (r : Reader) → r.element ≡ Page → length r.page.begun + suc left ≡ 45 → length r.pointer ≡ 4 → AreBytes r.pointer → AreAllBytes r.definitions → CanEnd place r
page-can zero place r is long four pointer definitions =
    let t : BopByte r = bop-byte r (omega (arith, long)) four pointer in
    let next : Reader = with_byte t.byte r in
    let one : length (r.page.begun ++ t.byte ∷ []) ≡ length r.page.begun + 1 = length_push r.page.begun t.byte in
    let whole : (length (r.page.begun ++ t.byte ∷ []) == 45) ≡ true = eq-eqb (length (r.page.begun ++ t.byte ∷ [])) 45 (omega (arith, long, one)) in
    one-before place r (behind_bop place next) t.byte t.small
    (bop-takes place r t.byte is t.no_post t.may ∙ (λ i. Some (cond {A = Reader} (whole i) (behind_bop place next) next)))
    (level-can [] (place + 1) (behind_bop place next) refl refl refl tt (length-place ((place - 44) % 2 ^ 32)) (place-bytes ((place - 44) % 2 ^ 32)) definitions)
page-can (suc left) place r is long four pointer definitions =
    let t : BopByte r = bop-byte r (omega (arith, long)) four pointer in
    let next : Reader = with_byte t.byte r in
    let one : length (r.page.begun ++ t.byte ∷ []) ≡ length r.page.begun + 1 = length_push r.page.begun t.byte in
    let part : (length (r.page.begun ++ t.byte ∷ []) == 45) ≡ false = ne_eqb (length (r.page.begun ++ t.byte ∷ [])) 45 (λ e. omega (arith, long, one, e)) in
    one-before place r next t.byte t.small
    (bop-takes place r t.byte is t.no_post t.may ∙ (λ i. Some (cond {A = Reader} (part i) (behind_bop place next) next)))
    (page-can left (place + 1) next is (omega (arith, long, one)) four pointer definitions)

-- in a preamble stand its numbers, \mag, and no comment
record PreambleByte (begun : List ℕ) : Type 0 where
  byte : ℕ
  small : byte < 256
  may : may_begin_preamble begun byte ≡ true
  comment : get_or (begun ++ byte ∷ []) 14 0 ≡ get_or begun 14 0

fixed-bytes : AreBytes preamble_start
fixed-bytes = (omega arith, (omega arith, (omega arith, (omega arith, (omega arith, (omega arith, (omega arith, (omega arith, (omega arith, (omega arith, (omega arith, (omega arith, tt))))))))))))

-- where no length of a comment is there yet
no-comment : (begun : List ℕ) (byte : ℕ) → length begun < 14 → get_or (begun ++ byte ∷ []) 14 0 ≡ get_or begun 14 0
no-comment begun byte few =
    let one : length (begun ++ byte ∷ []) ≡ length begun + 1 = length_push begun byte in
    let there : get_or (begun ++ byte ∷ []) 14 0 ≡ 0 = get_or_past (begun ++ byte ∷ []) 14 0 (omega (arith, few, one)) in
    let before : get_or begun 14 0 ≡ 0 = get_or_past begun 14 0 (omega (arith, few)) in
    there ∙ sym before

-- \mag by its low byte
mag-byte : (high : ℕ) → high ≤ 128 → (low : ℕ) × (low < 256) × (is_mag (256 * high + low) ≡ true)
mag-byte zero fits = (1, omega arith, refl)
mag-byte (suc high) fits = (0, omega arith, and_from (nat_le 1 (256 * suc high + 0)) (nat_le (256 * suc high + 0) 32768) (le-leb 1 (256 * suc high + 0) (omega arith)) (le-leb (256 * suc high + 0) 32768 (omega (arith, fits))))

module _ (begun : List ℕ) (here : IsPreambleBegun begun) where
  fixed : length begun < 12 → PreambleByte begun
  fixed few =
      let byte : ℕ = get_or preamble_start (length begun) 0 in
      let low : nat_lt (length begun) 12 ≡ true = lt-ltb (length begun) 12 few in
      let there : stands_at preamble_start (length begun) byte ≡ true = stands-there preamble_start (length begun) byte few refl in
      record {
        byte = byte;
        small = byte-at preamble_start (length begun) fixed-bytes;
        may = λ i. cond {A = Bool} (low i) (there i) (cond {A = Bool} (length begun == 12) (nat_le byte 128) (cond {A = Bool} (length begun == 13) (is_mag (256 * get_or begun 12 0 + byte)) true));
        comment = no-comment begun byte (omega (arith, few));
      }

  high : length begun ≡ 12 → PreambleByte begun
  high at =
      let low : nat_lt (length begun) 12 ≡ false = le-ltb (length begun) 12 (omega (arith, at)) in
      let is : (length begun == 12) ≡ true = eq-eqb (length begun) 12 at in
      record {
        byte = 0;
        small = omega arith;
        may = λ i. cond {A = Bool} (low i) (stands_at preamble_start (length begun) 0) (cond {A = Bool} (is i) true (cond {A = Bool} (length begun == 13) (is_mag (256 * get_or begun 12 0 + 0)) true));
        comment = no-comment begun 0 (omega (arith, at));
      }

  second : length begun ≡ 13 → PreambleByte begun
  second at =
      let low : nat_lt (length begun) 12 ≡ false = le-ltb (length begun) 12 (omega (arith, at)) in
      let past : (length begun == 12) ≡ false = ne_eqb (length begun) 12 (λ e. omega (arith, at, e)) in
      let is : (length begun == 13) ≡ true = eq-eqb (length begun) 13 at in
      let t = mag-byte (get_or begun 12 0) (here.1 at) in
      record {
        byte = t.0;
        small = t.1;
        may = λ i. cond {A = Bool} (low i) (stands_at preamble_start (length begun) t.0) (cond {A = Bool} (past i) (nat_le t.0 128) (cond {A = Bool} (is i) (t.2 i) true));
        comment = no-comment begun t.0 (omega (arith, at));
      }

  preamble-byte : PreambleByte begun
  preamble-byte = elim (cases_lt (length begun) 12) [
    | inl few ↦ fixed few
    | inr many ↦ elim (cases_eq (length begun) 12) [
      | inl at ↦ high at
      | inr no12 ↦ elim (cases_eq (length begun) 13) [
        | inl at ↦ second at
        | inr no13 ↦ (let long : 14 ≤ length begun = omega (arith, many, no12, no13) in record { byte = 0; small = omega arith; may = may-anything begun 0 long; comment = append-default begun 14 0 })
      ]
    ]
  ]

pub preamble-takes : (place : ℕ) (r : Reader) (byte : ℕ) → r.element ≡ Preamble → may_begin_preamble r.page.begun byte ≡ true → taken place r byte ≡ Some (past_preamble (with_byte byte r))
unfolding taken preamble_taken
preamble-takes place r byte is may = ap (λ (e : DviRule). taken_by e place r byte) is ∙ (λ i. cond {A = Option Reader} (may i) (Some (past_preamble (with_byte byte r))) None)

preamble-step : (place : ℕ) (r : Reader) (t : PreambleByte r.page.begun) → r.element ≡ Preamble → length r.pointer ≡ 4 → AreBytes r.pointer → AreAllBytes r.definitions
    → (is_preamble (r.page.begun ++ t.byte ∷ []) ≡ false → CanEnd (place + 1) (with_byte t.byte r)) → CanEnd place r
preamble-step place r t is four pointer definitions others = by (is_preamble (r.page.begun ++ t.byte ∷ [])) refl
  where
    by : (b : Bool) → is_preamble (r.page.begun ++ t.byte ∷ []) ≡ b → CanEnd place r
    by true whole =
        one-before place r (behind_preamble (with_byte t.byte r)) t.byte t.small
        (preamble-takes place r t.byte is t.may ∙ (λ i. Some (cond {A = Reader} (whole i) (behind_preamble (with_byte t.byte r)) (with_byte t.byte r))))
        (page-can 44 (place + 1) (behind_preamble (with_byte t.byte r)) refl (omega arith) four pointer definitions)
    by false part =
        one-before place r (with_byte t.byte r) t.byte t.small
        (preamble-takes place r t.byte is t.may ∙ (λ i. Some (cond {A = Reader} (part i) (behind_preamble (with_byte t.byte r)) (with_byte t.byte r))))
        (others part)

pub preamble-can : (left place : ℕ) (r : Reader) → r.element ≡ Preamble → IsPreambleBegun r.page.begun → 15 + get_or r.page.begun 14 0 ≡ length r.page.begun + left → length r.pointer ≡ 4 → AreBytes r.pointer → AreAllBytes r.definitions → CanEnd place r
preamble-can zero place r is here long four pointer definitions = absurd (let less : length r.page.begun < 15 + get_or r.page.begun 14 0 = here.0 in omega (arith, less, long))
preamble-can (suc left) place r is here long four pointer definitions =
    let t : PreambleByte r.page.begun = preamble-byte r.page.begun here in
    let one : length (r.page.begun ++ t.byte ∷ []) ≡ length r.page.begun + 1 = length_push r.page.begun t.byte in
    let count : 15 + get_or (r.page.begun ++ t.byte ∷ []) 14 0 ≡ length (r.page.begun ++ t.byte ∷ []) + left = omega (arith, long, one, t.comment) in
    preamble-step place r t is four pointer definitions (λ part. preamble-can left (place + 1) (with_byte t.byte r) is (preamble-on r.page.begun t.byte here t.may part) count four pointer definitions)
