-- Where the reader of a file can stand: what is so of it before the first byte stays so with each byte that it takes.
use Rattle.std.proofs.Common.{◌≡◌, ℕ, ◌+◌, ◌-◌, ◌*◌, ◌%◌, ◌^◌, ◌<◌, ◌≤◌, ◌==◌, ◌&&◌, ◌||◌, ◌⊎◌, nat_lt, nat_le, Bool, true, false, cond, List, [], ◌∷◌, ◌++◌, length, get_or, drop, Option, Some, None, refl, sym, ap, ◌∙◌, subst, inl, inr, arith}
use Rattle.std.proofs.lemmas.Bool.{and_cases, and_parts, cases_lt, cond_both, eq-eqb, eqb-false, eqb-true, le-ltb, leb-true, ltb-false, ltb-true}
use Rattle.std.proofs.lemmas.List.{get_or_append_left, get_or_push, length_push}
use Rattle.std.proofs.lemmas.Option.{cond_some, none-some}
use Rattle.std.specs.List.{AllByRecursion}
use Rattle.tx_dvitype.specs.declared.error.DviRule.{DviRule}
use Rattle.tx_dvitype.specs.declared.error.DviRule.TheVariants.{File, Preamble, Page, Command, Postamble, End}
use Rattle.tx_dvitype.specs.declared.reader.Reader.{Reader}
use Rattle.tx_dvi.specs.declared.font.FontDefinition.{FontDefinition}
use Rattle.tx_dvi.specs.declared.placed.Registers.{Registers}
use Rattle.tx_dvitype.specs.Files.{stands_at, preamble_start, is_mag, may_begin_preamble, is_preamble, with_byte, behind_preamble, past_preamble, preamble_taken, may_begin_page, may_begin_post, behind_bop, past_bop, at_post, postamble, page_taken, with_definition, with_page, behind_eop, command_taken, may_stand, behind_postamble, past_postamble, postamble_taken, end_taken, taken, taken_by, at_start}
use Rattle.tx_dvitype.specs.Grammar.{AreBytes}
use Rattle.tx_dvi.specs.Meaning.{Reader as PageReader, carried_out, choose, choosing, define, defining, definition_in, is_font_number, is_known, is_movement, moved, movement_operands, page_start, popped, rule_set, set_character, signed, with_fonts, with_registers, with_rule, with_special}
use Rattle.tx_dvitype.specs.Partial.{no_widths, is_near, is_level, kept_near, carried_near, gathered, may_begin, read_within, wanted}
use Rattle.tx_dvitype.proofs.Bytes.{AreAllBytes, byte-at, bytes-append, bytes-behind, definitions-on, ending-bytes, length-place, place-bytes, postamble-bytes, postamble-long}
use Rattle.tx_dvitype.proofs.ReadPages.{some-of}

abbrev pub IsNear : Registers → Type 0
IsNear now = is_near now ≡ true

-- bytes that begin a command of a page, and aren't all of it
abbrev pub IsPart : List ℕ → PageReader → Type 0
IsPart [] p = Unit {0}
IsPart (opcode ∷ bytes) p = (may_begin opcode bytes p ≡ true) × ((more : ℕ) × (wanted (opcode ∷ bytes) ≡ Some more) × (length (opcode ∷ bytes) ≤ more))

-- in a page
pub record InPage (p : PageReader) : Type 0 where
  pub near : IsNear p.now
  pub stack : AllByRecursion IsNear p.stack
  pub known : AreBytes p.fonts.known
  pub begun : AreBytes p.begun
  pub part : IsPart p.begun p

-- between two commands of it, wherever that is
record Between (p : PageReader) : Type 0 where
  begun : p.begun ≡ []
  stack : AllByRecursion IsNear p.stack
  known : AreBytes p.fonts.known

abbrev IsBetween : Option PageReader → Type 0
IsBetween None = Unit {0}
IsBetween (Some p) = Between p

either : (b : Bool) (x y : Option PageReader) → IsBetween x → IsBetween y → IsBetween (cond b x y)
either true x y first other = first
either false x y first other = other

-- with the same fonts, and the same registers pushed
alike : (p q : PageReader) → q.begun ≡ p.begun → q.stack ≡ p.stack → q.fonts.known ≡ p.fonts.known → Between p → Between q
alike p q begun stack known b = record {
  begun = begun ∙ b.begun;
  stack = subst (λ (s : List Registers). AllByRecursion IsNear s) (sym stack) b.stack;
  known = subst (λ (k : List ℕ). AreBytes k) (sym known) b.known;
}

between-set : (code : ℕ) (chosen : Option ℕ) (p : PageReader) → Between p → IsBetween (set_character no_widths code chosen p)
between-set code None p b = tt
between-set code (Some font) p b = record { begun = b.begun; stack = b.stack; known = b.known }

between-choose : (number : ℕ) (p : PageReader) → Between p → IsBetween (choose number p)
between-choose number p b = either (is_known number p.fonts.known) (Some (with_fonts (choosing number p.fonts) p)) None (alike p (with_fonts (choosing number p.fonts) p) refl refl refl b) tt

between-define : (font : FontDefinition) (p : PageReader) → font.number < 256 → Between p → IsBetween (define font p)
between-define font p small b = either (is_known font.number p.fonts.known) None (Some (with_fonts (defining font p.fonts) p)) tt defined
  where
    defined : Between (with_fonts (defining font p.fonts) p)
    defined = record { begun = b.begun; stack = b.stack; known = bytes-append p.fonts.known (font.number ∷ []) b.known (small, tt) }

between-pushed : (p : PageReader) → IsNear p.now → Between p → Between (record p { stack = p.now ∷ p.stack })
between-pushed p near b = record { begun = b.begun; stack = (near, b.stack); known = b.known }

between-popped : (stack : List Registers) (p : PageReader) → AllByRecursion IsNear stack → Between p → IsBetween (popped stack p)
between-popped [] p near b = tt
between-popped (last ∷ others) p near b = record { begun = b.begun; stack = near.1; known = b.known }

between-carried : (opcode : ℕ) (bytes : List ℕ) (p : PageReader) → IsNear p.now → AreBytes bytes → Between p → IsBetween (carried_out no_widths opcode bytes p)
between-carried opcode bytes p near are b =
    either (nat_lt opcode 128) (set_character no_widths opcode p.fonts.chosen p) _ (between-set opcode p.fonts.chosen p b)
    (either (is_font_number opcode) (choose (opcode - 171) p) _ (between-choose (opcode - 171) p b)
    (either (opcode == 128) (set_character no_widths (get_or bytes 0 0) p.fonts.chosen p) _ (between-set (get_or bytes 0 0) p.fonts.chosen p b)
    (either (opcode == 235) (choose (get_or bytes 0 0) p) _ (between-choose (get_or bytes 0 0) p b)
    (either (opcode == 243) (define (definition_in bytes) p) _ (between-define (definition_in bytes) p (byte-at bytes 0 are) b)
    (either (opcode == 132) (Some (rule_set (signed 4 bytes) (signed 4 (drop 4 bytes)) p)) _ (alike p (rule_set (signed 4 bytes) (signed 4 (drop 4 bytes)) p) refl refl refl b)
    (either (opcode == 137) (Some (with_rule (signed 4 bytes) (signed 4 (drop 4 bytes)) p)) _ (alike p (with_rule (signed 4 bytes) (signed 4 (drop 4 bytes)) p) refl refl refl b)
    (either (opcode == 138) (Some p) _ b
    (either (opcode == 141) (Some (record p { stack = p.now ∷ p.stack })) _ (between-pushed p near b)
    (either (opcode == 142) (popped p.stack p) _ (between-popped p.stack p b.stack b)
    (either (nat_le 239 opcode) (Some (with_special (drop (opcode - 238) bytes) p)) _ (alike p (with_special (drop (opcode - 238) bytes) p) refl refl refl b)
    (either (is_movement opcode) (Some (with_registers (moved opcode (signed (movement_operands opcode) bytes) p.now) p)) None
    (alike p (with_registers (moved opcode (signed (movement_operands opcode) bytes) p.now) p) refl refl refl b) tt)))))))))))

-- what is kept near the corner
kept-near : (o : Option PageReader) (x : PageReader) → kept_near o ≡ Some x → (o ≡ Some x) × IsNear x.now
kept-near None x e = absurd (none-some x e)
kept-near (Some y) x e =
    let t = cond_some (is_near y.now) y x e in
    let same : y ≡ x = t.1 in
    ((λ i. Some (same i)), subst (λ (q : PageReader). IsNear q.now) same t.0)

-- a command that was carried out
carried-next : (opcode : ℕ) (bytes : List ℕ) (p x : PageReader) → IsNear p.now → AreBytes bytes → Between p → carried_near opcode bytes p ≡ Some x → InPage x × (x.begun ≡ [])
unfolding carried_near
carried-next opcode bytes p x near are b e =
    let t = kept-near (carried_out no_widths opcode bytes p) x e in
    let c : Between x = subst (λ (o : Option PageReader). IsBetween o) t.0 (between-carried opcode bytes p near are b) in
    (behind-command x t.1 c, c.begun)
  where
    behind-command : (q : PageReader) → IsNear q.now → Between q → InPage q
    behind-command q there c = record {
      near = there;
      stack = c.stack;
      known = c.known;
      begun = subst (λ (bytes : List ℕ). AreBytes bytes) (sym c.begun) tt;
      part = subst (λ (bytes : List ℕ). IsPart bytes q) (sym c.begun) tt;
    }

part-of : (bytes : List ℕ) (p : PageReader) → may_begin (get_or bytes 0 0) (drop 1 bytes) p ≡ true → (more : ℕ) → wanted bytes ≡ Some more → length bytes ≤ more → IsPart bytes p
part-of [] p may more is fits = tt
part-of (opcode ∷ bytes) p may more is fits = (may, (more, is, fits))

-- the reader of a page behind one byte more: the command is whole, or it isn't
pub record Next (p x : PageReader) (byte : ℕ) : Type 0 where
  pub page : InPage x
  pub begun : (x.begun ≡ p.begun ++ byte ∷ []) ⊎ (x.begun ≡ [])

gathered-next : (p x : PageReader) (byte : ℕ) → InPage p → byte < 256 → may_begin (get_or (p.begun ++ byte ∷ []) 0 0) (drop 1 (p.begun ++ byte ∷ [])) (record p { begun = p.begun ++ byte ∷ [] }) ≡ true
    → (o : Option ℕ) → wanted (p.begun ++ byte ∷ []) ≡ o → gathered o (p.begun ++ byte ∷ []) p ≡ Some x → Next p x byte
gathered-next p x byte here small may None is e = absurd (none-some x e)
gathered-next p x byte here small may (Some more) is e = by (nat_le (length (p.begun ++ byte ∷ [])) more) refl e
  where
    are : AreBytes (p.begun ++ byte ∷ [])
    are = bytes-append p.begun (byte ∷ []) here.begun (small, tt)

    begun : nat_le (length (p.begun ++ byte ∷ [])) more ≡ true → InPage (record p { begun = p.begun ++ byte ∷ [] })
    begun fits = record {
      near = here.near;
      stack = here.stack;
      known = here.known;
      begun = are;
      part = part-of (p.begun ++ byte ∷ []) (record p { begun = p.begun ++ byte ∷ [] }) may more is (leb-true (length (p.begun ++ byte ∷ [])) more fits);
    }

    by : (b : Bool) → nat_le (length (p.begun ++ byte ∷ [])) more ≡ b
        → cond {A = Option PageReader} b (kept_near (Some (record p { begun = p.begun ++ byte ∷ [] }))) (carried_near (get_or (p.begun ++ byte ∷ []) 0 0) (drop 1 (p.begun ++ byte ∷ [])) (record p { begun = [] })) ≡ Some x
        → Next p x byte
    by true fits f =
        let t = kept-near (Some (record p { begun = p.begun ++ byte ∷ [] })) x f in
        let same : record p { begun = p.begun ++ byte ∷ [] } ≡ x = some-of t.0 in
        subst (λ (y : PageReader). Next p y byte) same (record { page = begun fits; begun = inl refl })
    by false past f =
        let t = carried-next (get_or (p.begun ++ byte ∷ []) 0 0) (drop 1 (p.begun ++ byte ∷ [])) (record p { begun = [] }) x here.near (bytes-behind (p.begun ++ byte ∷ []) are) (record { begun = refl; stack = here.stack; known = here.known }) f in
        record { page = t.0; begun = inr t.1 }

pub page-next : (p x : PageReader) (byte : ℕ) → InPage p → byte < 256 → read_within p byte ≡ Some x → Next p x byte
unfolding read_within
page-next p x byte here small e = by (may_begin (get_or (p.begun ++ byte ∷ []) 0 0) (drop 1 (p.begun ++ byte ∷ [])) (record p { begun = p.begun ++ byte ∷ [] })) refl e
  where
    by : (b : Bool) → may_begin (get_or (p.begun ++ byte ∷ []) 0 0) (drop 1 (p.begun ++ byte ∷ [])) (record p { begun = p.begun ++ byte ∷ [] }) ≡ b
        → cond {A = Option PageReader} b (gathered (wanted (p.begun ++ byte ∷ [])) (p.begun ++ byte ∷ []) p) None ≡ Some x → Next p x byte
    by true may f = gathered-next p x byte here small may (wanted (p.begun ++ byte ∷ [])) refl f
    by false may f = absurd (none-some x f)

-- at the start of a page
page-begins : (known : List ℕ) → AreBytes known → InPage (page_start known)
page-begins known are = record { near = refl; stack = tt; known = are; begun = tt; part = tt }

-- the first bytes of a preamble, which aren't all of it; \mag can still be right
abbrev pub IsPreambleBegun : List ℕ → Type 0
IsPreambleBegun bytes = (length bytes < 15 + get_or bytes 14 0) × (length bytes ≡ 13 → get_or bytes 12 0 ≤ 128)

pub preamble-on : (bytes : List ℕ) (byte : ℕ) → IsPreambleBegun bytes → may_begin_preamble bytes byte ≡ true → is_preamble (bytes ++ byte ∷ []) ≡ false → IsPreambleBegun (bytes ++ byte ∷ [])
preamble-on bytes byte here may part = (still, high)
  where
    one : length (bytes ++ byte ∷ []) ≡ length bytes + 1
    one = length_push bytes byte

    apart : (length (bytes ++ byte ∷ []) ≡ 15 + get_or (bytes ++ byte ∷ []) 14 0 → ⊥) → length (bytes ++ byte ∷ []) < 15 + get_or (bytes ++ byte ∷ []) 14 0
    apart ne = elim (cases_lt (length bytes) 15) [
      | inl h ↦ omega (arith, one, h, ne)
      | inr h ↦ (let same : get_or (bytes ++ byte ∷ []) 14 0 ≡ get_or bytes 14 0 = get_or_append_left bytes (byte ∷ []) 0 14 (omega (arith, h)) in
          let first : length bytes < 15 + get_or bytes 14 0 = here.0 in
          omega (arith, one, same, first, ne))
    ]

    still : length (bytes ++ byte ∷ []) < 15 + get_or (bytes ++ byte ∷ []) 14 0
    still = elim (and_cases (nat_lt 14 (length (bytes ++ byte ∷ []))) (length (bytes ++ byte ∷ []) == 15 + get_or (bytes ++ byte ∷ []) 14 0) part) [
      | inl h ↦ (let few : length (bytes ++ byte ∷ []) ≤ 14 = ltb-false 14 (length (bytes ++ byte ∷ [])) h in omega (arith, few))
      | inr h ↦ apart (eqb-false (length (bytes ++ byte ∷ [])) (15 + get_or (bytes ++ byte ∷ []) 14 0) h)
    ]

    high : length (bytes ++ byte ∷ []) ≡ 13 → get_or (bytes ++ byte ∷ []) 12 0 ≤ 128
    high long =
        let twelve : length bytes ≡ 12 = omega (arith, one, long) in
        let no : nat_lt (length bytes) 12 ≡ false = le-ltb (length bytes) 12 (omega (arith, twelve)) in
        let yes_so : (length bytes == 12) ≡ true = eq-eqb (length bytes) 12 twelve in
        let tests : may_begin_preamble bytes byte ≡ nat_le byte 128
        = λ i. cond {A = Bool} (no i) (stands_at preamble_start (length bytes) byte) (cond {A = Bool} (yes_so i) (nat_le byte 128) (cond {A = Bool} (length bytes == 13) (is_mag (256 * get_or bytes 12 0 + byte)) true)) in
        let small : byte ≤ 128 = leb-true byte 128 (sym tests ∙ may) in
        let last : get_or (bytes ++ byte ∷ []) 12 0 ≡ byte = get_or_push bytes byte 0 12 twelve in
        omega (arith, small, last)

-- in the element that is being read
abbrev pub InElement : DviRule → Reader → Type 0
InElement File r = ⊥
InElement Preamble r = IsPreambleBegun r.page.begun
InElement Page r = length r.page.begun < 45
InElement Command r = InPage r.page
InElement Postamble r = AreBytes r.expected × (length r.page.begun < length r.expected)
InElement End r = AreBytes r.expected × (length r.page.begun ≤ length r.expected)

pub record Stands (element : DviRule) (r : Reader) : Type 0 where
  pub is : r.element ≡ element
  pub four : length r.pointer ≡ 4
  pub pointer : AreBytes r.pointer
  pub definitions : AreAllBytes r.definitions
  pub known : AreBytes r.page.fonts.known
  pub here : InElement element r

-- in whichever
pub record StandsSomewhere (r : Reader) : Type 0 where
  pub element : DviRule
  pub stands : Stands element r

pub stands-at-start : StandsSomewhere at_start
stands-at-start = record {
  element = Preamble;
  stands = record {
    is = refl;
    four = refl;
    pointer = (omega arith, (omega arith, (omega arith, (omega arith, tt))));
    definitions = tt;
    known = tt;
    here = (omega arith, (λ long. omega arith));
  };
}

module _ (r next : Reader) (byte : ℕ) (small : byte < 256) where
  abbrev taken_in : Reader
  taken_in = with_byte byte r

  one_more : length taken_in.page.begun ≡ length r.page.begun + 1
  one_more = length_push r.page.begun byte

  preamble-next : Stands Preamble r → preamble_taken r byte ≡ Some next → StandsSomewhere next
  unfolding preamble_taken
  preamble-next s e =
      let t = cond_some (may_begin_preamble r.page.begun byte) (past_preamble taken_in) next e in
      subst (λ (n : Reader). StandsSomewhere n) t.1 (cond_both (is_preamble taken_in.page.begun) (behind_preamble taken_in) taken_in (λ (n : Reader). StandsSomewhere n) (λ whole. behind) (λ part. within (preamble-on r.page.begun byte s.here t.0 part)))
    where
      behind : StandsSomewhere (behind_preamble taken_in)
      behind = record { element = Page; stands = record { is = refl; four = s.four; pointer = s.pointer; definitions = s.definitions; known = s.known; here = omega arith } }

      within : IsPreambleBegun (r.page.begun ++ byte ∷ []) → StandsSomewhere taken_in
      within begun = record { element = Preamble; stands = record { is = s.is; four = s.four; pointer = s.pointer; definitions = s.definitions; known = s.known; here = begun } }

  bop-next : (place : ℕ) → Stands Page r → StandsSomewhere (past_bop place taken_in)
  bop-next place s = cond_both (length taken_in.page.begun == 45) (behind_bop place taken_in) taken_in (λ (n : Reader). StandsSomewhere n) (λ whole. behind) (λ part. within (eqb-false (length taken_in.page.begun) 45 part))
    where
      behind : StandsSomewhere (behind_bop place taken_in)
      behind = record {
        element = Command;
        stands = record {
          is = refl;
          four = length-place ((place - 44) % 2 ^ 32);
          pointer = place-bytes ((place - 44) % 2 ^ 32);
          definitions = s.definitions;
          known = s.known;
          here = page-begins r.page.fonts.known s.known;
        };
      }

      within : (length taken_in.page.begun ≡ 45 → ⊥) → StandsSomewhere taken_in
      within apart =
          let few : length r.page.begun < 45 = s.here in
          record { element = Page; stands = record { is = s.is; four = s.four; pointer = s.pointer; definitions = s.definitions; known = s.known; here = omega (arith, one_more, few, apart) } }

  page-element-next : (place : ℕ) → Stands Page r → page_taken place r byte ≡ Some next → StandsSomewhere next
  unfolding page_taken
  page-element-next place s e = by (may_begin_post r byte) refl e
    where
      begun : may_begin_post r byte ≡ true → StandsSomewhere (at_post r)
      begun may =
          let none : length r.page.begun ≡ 0 = eqb-true (length r.page.begun) 0 (and_parts (length r.page.begun == 0) (byte == 248 && nat_lt 0 (length r.pages)) may).0 in
          let one : length (r.page.begun ++ 248 ∷ []) ≡ length r.page.begun + 1 = length_push r.page.begun 248 in
          let long : 1 < length (postamble r) = postamble-long r s.four in
          record {
            element = Postamble;
            stands = record { is = refl; four = s.four; pointer = s.pointer; definitions = s.definitions; known = s.known; here = (postamble-bytes r s.pointer s.definitions, omega (arith, none, one, long)) };
          }

      by : (b : Bool) → may_begin_post r byte ≡ b → cond {A = Option Reader} b (Some (at_post r)) (cond {A = Option Reader} (may_begin_page r byte) (Some (past_bop place taken_in)) None) ≡ Some next → StandsSomewhere next
      by true may f = subst (λ (n : Reader). StandsSomewhere n) (some-of f) (begun may)
      by false may f =
          let t = cond_some (may_begin_page r byte) (past_bop place taken_in) next f in
          subst (λ (n : Reader). StandsSomewhere n) t.1 (bop-next place s)

  command-next : Stands Command r → command_taken r byte ≡ Some next → StandsSomewhere next
  unfolding command_taken
  command-next s e = by (length r.page.begun == 0 && byte == 140) refl e
    where
      in_page : InPage r.page
      in_page = s.here

      within : (o : Option PageReader) → read_within r.page byte ≡ o → with_page (r.page.begun ++ byte ∷ []) r o ≡ Some next → StandsSomewhere next
      within None is f = absurd (none-some next f)
      within (Some x) is f =
          let n : Next r.page x byte = page-next r.page x byte in_page small is in
          let definitions : AreAllBytes (with_definition (r.page.begun ++ byte ∷ []) r.definitions)
          = definitions-on (r.page.begun ++ byte ∷ []) r.definitions (bytes-append r.page.begun (byte ∷ []) in_page.begun (small, tt)) s.definitions in
          subst (λ (n : Reader). StandsSomewhere n) (some-of f)
          (record { element = Command; stands = record { is = s.is; four = s.four; pointer = s.pointer; definitions = definitions; known = n.page.known; here = n.page } })

      ended : (length r.page.begun == 0 && byte == 140) ≡ true → StandsSomewhere (behind_eop r)
      ended at =
          let none : length r.page.begun ≡ 0 = eqb-true (length r.page.begun) 0 (and_parts (length r.page.begun == 0) (byte == 140) at).0 in
          record { element = Page; stands = record { is = refl; four = s.four; pointer = s.pointer; definitions = s.definitions; known = s.known; here = omega (arith, none) } }

      by : (b : Bool) → (length r.page.begun == 0 && byte == 140) ≡ b
          → cond {A = Option Reader} b (cond {A = Option Reader} (is_level r.page) (Some (behind_eop r)) None) (with_page (r.page.begun ++ byte ∷ []) r (read_within r.page byte)) ≡ Some next → StandsSomewhere next
      by true at f =
          let t = cond_some (is_level r.page) (behind_eop r) next f in
          subst (λ (n : Reader). StandsSomewhere n) t.1 (ended at)
      by false at f = within (read_within r.page byte) refl f

  postamble-next : (place : ℕ) → Stands Postamble r → postamble_taken place r byte ≡ Some next → StandsSomewhere next
  unfolding postamble_taken
  postamble-next place s e =
      let t = cond_some (may_stand r || stands_at r.expected (length r.page.begun) byte) (past_postamble place taken_in) next e in
      subst (λ (n : Reader). StandsSomewhere n) t.1
      (cond_both (length taken_in.page.begun == length taken_in.expected) (behind_postamble place taken_in) taken_in (λ (n : Reader). StandsSomewhere n) (λ whole. behind) (λ part. within (eqb-false (length taken_in.page.begun) (length r.expected) part)))
    where
      behind : StandsSomewhere (behind_postamble place taken_in)
      behind = record {
        element = End;
        stands = record { is = refl; four = s.four; pointer = s.pointer; definitions = s.definitions; known = s.known; here = (ending-bytes place (length r.expected), omega arith) };
      }

      within : (length taken_in.page.begun ≡ length r.expected → ⊥) → StandsSomewhere taken_in
      within apart =
          let less : length r.page.begun < length r.expected = s.here.1 in
          record { element = Postamble; stands = record { is = s.is; four = s.four; pointer = s.pointer; definitions = s.definitions; known = s.known; here = (s.here.0, omega (arith, one_more, less, apart)) } }

  end-next : Stands End r → end_taken r byte ≡ Some next → StandsSomewhere next
  unfolding end_taken
  end-next s e =
      let t = cond_some (stands_at r.expected (length r.page.begun) byte) taken_in next e in
      let less : length r.page.begun < length r.expected
      = ltb-true (length r.page.begun) (length r.expected) (and_parts (nat_lt (length r.page.begun) (length r.expected)) (byte == get_or r.expected (length r.page.begun) 0) t.0).0 in
      subst (λ (n : Reader). StandsSomewhere n) t.1 (within (omega (arith, one_more, less)))
    where
      within : length taken_in.page.begun ≤ length r.expected → StandsSomewhere taken_in
      within fits = record { element = End; stands = record { is = s.is; four = s.four; pointer = s.pointer; definitions = s.definitions; known = s.known; here = (s.here.0, fits) } }

  by-element : (place : ℕ) (e : DviRule) → Stands e r → taken_by e place r byte ≡ Some next → StandsSomewhere next
  by-element place File s t = absurd s.here
  by-element place Preamble s t = preamble-next s t
  by-element place Page s t = page-element-next place s t
  by-element place Command s t = command-next s t
  by-element place Postamble s t = postamble-next place s t
  by-element place End s t = end-next s t

  -- a byte that is taken
  pub stands-on : (place : ℕ) → StandsSomewhere r → taken place r byte ≡ Some next → StandsSomewhere next
  unfolding taken
  stands-on place s t = by-element place s.element s.stands (sym (ap (λ (e : DviRule). taken_by e place r byte) s.stands.is) ∙ t)
