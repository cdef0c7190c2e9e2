-- What is read from the first byte on is a file as the grammar says.
use Rattle.std.proofs.Common.{◌≡◌, ℕ, zero, suc, ◌+◌, ◌-◌, ◌<◌, ◌≤◌, ◌==◌, ◌&&◌, ◌||◌, ◌⊎◌, not, nat_le, nat_lt, Bool, true, false, cond, List, [], ◌∷◌, ◌++◌, length, get_or, drop, map, Option, Some, None, Ok, refl, sym, ap, ◌∙◌, subst, inl, inr, arith, length-append, append_assoc}
use Rattle.std.proofs.lemmas.Bool.{and_from, and_parts, eqb-true, le-leb, leb-true, leb-false, lt-ltb, ltb-true}
use Rattle.std.proofs.lemmas.List.{append-nil, length_push, map-append}
use Rattle.std.proofs.lemmas.Option.{cond_some, none-some}
use Rattle.tx_dvitype.specs.declared.error.DviRule.{DviRule}
use Rattle.tx_dvitype.specs.declared.error.DviRule.TheVariants as element
use Rattle.tx_dvitype.specs.declared.reader.ReadPage.{ReadPage}
use Rattle.tx_dvitype.specs.declared.reader.Reader.{Reader}
use Rattle.tx_dvi.specs.declared.placed.Registers.{Registers}
use Rattle.tx_dvi.specs.Dvi.{definition_bytes}
use Rattle.tx_dvi.specs.Meaning.{Reader as PageReader, carried_out, page_start}
use Rattle.tx_dvitype.specs.Files.{at_post, behind_bop, behind_eop, command_taken, counts_in, is_last, may_begin_page, may_begin_post, may_stand, past_bop, place_bytes, rest_read, stands_at, taken, taken_by, with_definition, with_page}
use Rattle.tx_dvitype.specs.Grammar.{AreBytes, behind, command_bytes, commands_bytes, defines, fonts_in}
use Rattle.tx_dvitype.specs.Partial.{no_widths, carried_near, gathered, is_level, is_near, kept_near, may_begin, past, read_within, wanted}
use Rattle.tx_dvitype.proofs.Amounts.{near-to}
use Rattle.tx_dvitype.proofs.Bytes.{bytes-append}
use Rattle.tx_dvitype.proofs.Commands.{IsBetween, between-next}
use Rattle.tx_dvitype.proofs.Complete.{pointer-long}
use Rattle.tx_dvitype.proofs.Decoding.{Decoded, decoded, wanted-grows}
use Rattle.tx_dvitype.proofs.Numbers.{AreDistinct}
use Rattle.tx_dvitype.proofs.ReadEnd.{at_byte}
use Rattle.tx_dvitype.proofs.ReadPages.{no-bytes, some-of}
use Rattle.tx_dvitype.proofs.Sound.{FromCommands, FromPages, Goes, Passed, PostSo, expected-long, goes, no-byte, not-done, page-next, page-pages, passed-push, post-pages, sound-post}

-- in the midst of a page
abbrev pub mid : Reader → PageReader → List ℕ → Reader
mid r q begun = record r { page = record q { begun = begun } }

-- bytes of a command that aren't all of it
abbrev pub PartOf : List ℕ → Type 0
PartOf [] = Unit {0}
PartOf (opcode ∷ ops) = (more : ℕ) × (wanted (opcode ∷ ops) ≡ Some more) × (suc (length ops) ≤ more)

record IsPart (q : PageReader) (opcode : ℕ) (ops : List ℕ) (x : PageReader) : Type 0 where
  more : ℕ
  wants : wanted (opcode ∷ ops) ≡ Some more
  fits : suc (length ops) ≤ more
  is : x ≡ record q { begun = opcode ∷ ops }

record IsAll (q : PageReader) (opcode : ℕ) (ops : List ℕ) (x : PageReader) : Type 0 where
  may : may_begin opcode ops (record q { begun = opcode ∷ ops }) ≡ true
  more : ℕ
  wants : wanted (opcode ∷ ops) ≡ Some more
  past : more ≤ length ops
  carried : carried_out no_widths opcode ops (record q { begun = [] }) ≡ Some x
  near : is_near x.now ≡ true

kept-near : (o : Option PageReader) (x : PageReader) → kept_near o ≡ Some x → (o ≡ Some x) × (is_near x.now ≡ true)
kept-near None x e = absurd (none-some x e)
kept-near (Some y) x e =
    let t = cond_some (is_near y.now) y x e in
    let same : y ≡ x = t.1 in
    ((λ i. Some (same i)), subst (λ (q : PageReader). is_near q.now ≡ true) same t.0)

within-cases : (q : PageReader) (begun : List ℕ) (byte opcode : ℕ) (ops : List ℕ) (x : PageReader) → begun ++ byte ∷ [] ≡ opcode ∷ ops → read_within (record q { begun = begun }) byte ≡ Some x → IsPart q opcode ops x ⊎ IsAll q opcode ops x
unfolding read_within carried_near
within-cases q begun byte opcode ops x is e =
    by (may_begin opcode ops (record q { begun = opcode ∷ ops })) refl
    ((λ i. cond {A = Option PageReader} (may_begin (get_or (sym is i) 0 0) (drop 1 (sym is i)) (record q { begun = sym is i })) (gathered (wanted (sym is i)) (sym is i) (record q { begun = begun })) None) ∙ e)
  where
    past-part : (more : ℕ) → wanted (opcode ∷ ops) ≡ Some more → may_begin opcode ops (record q { begun = opcode ∷ ops }) ≡ true → (b : Bool) → nat_le (suc (length ops)) more ≡ b
        → cond {A = Option PageReader} b (kept_near (Some (record q { begun = opcode ∷ ops }))) (kept_near (carried_out no_widths opcode ops (record q { begun = [] }))) ≡ Some x → IsPart q opcode ops x ⊎ IsAll q opcode ops x
    past-part more wants may true fits f =
        let t = kept-near (Some (record q { begun = opcode ∷ ops })) x f in
        inl (record { more = more; wants = wants; fits = leb-true (suc (length ops)) more fits; is = sym (some-of t.0) })
    past-part more wants may false past f =
        let t = kept-near (carried_out no_widths opcode ops (record q { begun = [] })) x f in
        let less : more < suc (length ops) = leb-false (suc (length ops)) more past in
        inr (record { may = may; more = more; wants = wants; past = omega (arith, less); carried = t.0; near = t.1 })

    all-part : (o : Option ℕ) → wanted (opcode ∷ ops) ≡ o → may_begin opcode ops (record q { begun = opcode ∷ ops }) ≡ true
        → gathered o (opcode ∷ ops) (record q { begun = begun }) ≡ Some x → IsPart q opcode ops x ⊎ IsAll q opcode ops x
    all-part None wants may f = absurd (none-some x f)
    all-part (Some more) wants may f = past-part more wants may (nat_le (suc (length ops)) more) refl f

    by : (b : Bool) → may_begin opcode ops (record q { begun = opcode ∷ ops }) ≡ b → cond {A = Option PageReader} b (gathered (wanted (opcode ∷ ops)) (opcode ∷ ops) (record q { begun = begun })) None ≡ Some x → IsPart q opcode ops x ⊎ IsAll q opcode ops x
    by true may f = all-part (wanted (opcode ∷ ops)) refl may f
    by false may f = absurd (none-some x f)

-- a byte of a page
record IsEop (r : Reader) (byte : ℕ) (next : Reader) : Type 0 where
  none : length r.page.begun ≡ 0
  is : byte ≡ 140
  level : length r.page.stack ≡ 0
  next_is : behind_eop r ≡ next

record IsWithin (r : Reader) (byte : ℕ) (next : Reader) : Type 0 where
  page : PageReader
  reads : read_within r.page byte ≡ Some page
  next_is : record r { page = page; definitions = with_definition (r.page.begun ++ byte ∷ []) r.definitions } ≡ next

command-next : (place : ℕ) (r next : Reader) (byte : ℕ) → r.element ≡ element.Command → taken place r byte ≡ Some next → IsEop r byte next ⊎ IsWithin r byte next
unfolding taken command_taken
command-next place r next byte at is = by (length r.page.begun == 0 && byte == 140) refl (sym (ap (λ (e : DviRule). taken_by e place r byte) at) ∙ is)
  where
    within : (o : Option PageReader) → read_within r.page byte ≡ o → with_page (r.page.begun ++ byte ∷ []) r o ≡ Some next → IsEop r byte next ⊎ IsWithin r byte next
    within None e f = absurd (none-some next f)
    within (Some x) e f = inr (record { page = x; reads = e; next_is = some-of f })

    by : (b : Bool) → (length r.page.begun == 0 && byte == 140) ≡ b
        → cond {A = Option Reader} b (cond {A = Option Reader} (is_level r.page) (Some (behind_eop r)) None) (with_page (r.page.begun ++ byte ∷ []) r (read_within r.page byte)) ≡ Some next → IsEop r byte next ⊎ IsWithin r byte next
    by true e f =
        let parts = and_parts (length r.page.begun == 0) (byte == 140) e in
        let t = cond_some (is_level r.page) (behind_eop r) next f in
        inl (record { none = eqb-true (length r.page.begun) 0 parts.0; is = eqb-true byte 140 parts.1; level = eqb-true (length r.page.stack) 0 t.0; next_is = t.1 })
    by false e f = within (read_within r.page byte) refl f

none-pushed : (stack : List Registers) → length stack ≡ 0 → stack ≡ []
none-pushed [] e = refl
none-pushed (last ∷ others) e = absurd (omega (arith, e))

-- from a place in the pages on
pub record Both (bytes : List ℕ) : Type 0 where
  pub pages : (place start : ℕ) (r : Reader) (begun : List ℕ) (all : List ReadPage) → r.element ≡ element.Page → length r.pointer ≡ 4 → AreBytes r.page.fonts.known → AreDistinct r.page.fonts.known → place ≡ start + length begun
      → Passed (λ done byte. may_begin_page (at_byte r done) byte) begun → rest_read place (at_byte r begun) bytes ≡ Ok all → FromPages start r.page.fonts.known r.mag r.pointer r.definitions r.pages (begun ++ bytes) all
  pub commands : (place start : ℕ) (r : Reader) (q : PageReader) (begun : List ℕ) (all : List ReadPage) → r.element ≡ element.Command → length r.pointer ≡ 4 → place ≡ start + length begun → IsBetween q → PartOf begun → AreBytes begun
      → rest_read place (mid r q begun) bytes ≡ Ok all → FromCommands start q r.mag r.pointer r.counts r.definitions r.pages (begun ++ bytes) all

module _ (byte : ℕ) (bytes : List ℕ) (small : byte < 256) (later : Both bytes) where
  -- where a page may begin
  post-passed : (r : Reader) (all : List ReadPage) (some : 0 < length r.pages) → length r.pointer ≡ 4 → Passed (λ done b. may_stand (at_byte (at_post (at_byte r [])) done) || stands_at (at_post (at_byte r [])).expected (length done) b) (248 ∷ [])
  post-passed r all some four zero less = and_from (nat_lt 0 (length (at_post (at_byte r [])).expected)) true (lt-ltb 0 (length (at_post (at_byte r [])).expected) (omega arith)) refl
  post-passed r all some four (suc i) less = absurd (omega (arith, less))

  at-post : (place start : ℕ) (r : Reader) (begun : List ℕ) (all : List ReadPage) (next : Reader) → length r.pointer ≡ 4 → place ≡ start + length begun → may_begin_post (at_byte r begun) byte ≡ true → at_post (at_byte r begun) ≡ next
      → rest_read (place + 1) next bytes ≡ Ok all → FromPages start r.page.fonts.known r.mag r.pointer r.definitions r.pages (begun ++ byte ∷ bytes) all
  at-post place start r begun all next four count may is e =
      let parts = and_parts (length begun == 0) (byte == 248 && nat_lt 0 (length r.pages)) may in
      let others = and_parts (byte == 248) (nat_lt 0 (length r.pages)) parts.1 in
      let none : begun ≡ [] = no-bytes begun (eqb-true (length begun) 0 parts.0) in
      let same : byte ≡ 248 = eqb-true byte 248 others.0 in
      let some : 0 < length r.pages = ltb-true 0 (length r.pages) others.1 in
      let reads : rest_read (place + 1) (at_post (at_byte r [])) bytes ≡ Ok all = (λ i. rest_read (place + 1) (at_post (at_byte r (sym none i))) bytes) ∙ ap (λ n. rest_read (place + 1) n bytes) is ∙ e in
      let zero : length begun ≡ 0 = ap (λ (xs : List ℕ). length xs) none in
      let long = expected-long start r all four some in
      let p : PostSo start (at_post (at_byte r [])) (248 ∷ bytes) all
      = sound-post bytes (place + 1) start (at_post (at_byte r [])) (248 ∷ []) all refl (omega (arith, long)) (omega (arith, count, zero)) (post-passed r all some four) reads in
      subst (λ (xs : List ℕ). FromPages start r.page.fonts.known r.mag r.pointer r.definitions r.pages xs all) (λ i. sym none i ++ sym same i ∷ bytes) (post-pages start r all four some bytes p)

  at-bop : (place start : ℕ) (r : Reader) (begun : List ℕ) (all : List ReadPage) (next : Reader) → r.element ≡ element.Page → length r.pointer ≡ 4 → AreBytes r.page.fonts.known → AreDistinct r.page.fonts.known → place ≡ start + length begun
      → Passed (λ done b. may_begin_page (at_byte r done) b) begun → may_begin_page (at_byte r begun) byte ≡ true → past_bop place (at_byte r (begun ++ byte ∷ [])) ≡ next
      → rest_read (place + 1) next bytes ≡ Ok all → FromPages start r.page.fonts.known r.mag r.pointer r.definitions r.pages (begun ++ byte ∷ bytes) all
  at-bop place start r begun all next at four known distinct count passed may is e = by (length (begun ++ byte ∷ []) == 45) refl (ap (λ n. rest_read (place + 1) n bytes) is ∙ e)
    where
      further : Passed (λ done b. may_begin_page (at_byte r done) b) (begun ++ byte ∷ [])
      further = passed-push (λ done b. may_begin_page (at_byte r done) b) begun byte passed may

      one : length (begun ++ byte ∷ []) ≡ length begun + 1
      one = length_push begun byte

      whole : length (begun ++ byte ∷ []) ≡ 45 → rest_read (place + 1) (behind_bop place (at_byte r (begun ++ byte ∷ []))) bytes ≡ Ok all → FromPages start r.page.fonts.known r.mag r.pointer r.definitions r.pages (begun ++ byte ∷ bytes) all
      whole long f =
          let c : FromCommands (start + 45) (page_start r.page.fonts.known) r.mag (place_bytes (place - 44)) (counts_in (begun ++ byte ∷ [])) r.definitions r.pages bytes all
          = later.commands (place + 1) (start + 45) (behind_bop place (at_byte r (begun ++ byte ∷ []))) (page_start r.page.fonts.known) [] all refl (pointer-long (place - 44)) (omega (arith, count, one, long))
          (record { begun = refl; near = refl; known = known; distinct = distinct }) tt tt f in
          let here : place - 44 ≡ start = omega (arith, count, one, long) in
          subst (λ (xs : List ℕ). FromPages start r.page.fonts.known r.mag r.pointer r.definitions r.pages xs all) (append_assoc begun (byte ∷ []) bytes)
          (page-pages start r all (begun ++ byte ∷ []) bytes long four further
          (subst (λ (n : ℕ). FromCommands (start + 45) (page_start r.page.fonts.known) r.mag (place_bytes n) (counts_in (begun ++ byte ∷ [])) r.definitions r.pages bytes all) here c))

      by : (b : Bool) → (length (begun ++ byte ∷ []) == 45) ≡ b → rest_read (place + 1) (cond {A = Reader} b (behind_bop place (at_byte r (begun ++ byte ∷ []))) (at_byte r (begun ++ byte ∷ []))) bytes ≡ Ok all
          → FromPages start r.page.fonts.known r.mag r.pointer r.definitions r.pages (begun ++ byte ∷ bytes) all
      by true long f = whole (eqb-true (length (begun ++ byte ∷ [])) 45 long) f
      by false long f =
          subst (λ (xs : List ℕ). FromPages start r.page.fonts.known r.mag r.pointer r.definitions r.pages xs all) (append_assoc begun (byte ∷ []) bytes)
          (later.pages (place + 1) start r (begun ++ byte ∷ []) all at four known distinct (omega (arith, count, one)) further f)

  pages-so : (place start : ℕ) (r : Reader) (begun : List ℕ) (all : List ReadPage) → r.element ≡ element.Page → length r.pointer ≡ 4 → AreBytes r.page.fonts.known → AreDistinct r.page.fonts.known → place ≡ start + length begun
      → Passed (λ done b. may_begin_page (at_byte r done) b) begun → rest_read place (at_byte r begun) (byte ∷ bytes) ≡ Ok all → FromPages start r.page.fonts.known r.mag r.pointer r.definitions r.pages (begun ++ byte ∷ bytes) all
  pages-so place start r begun all at four known distinct count passed e =
      let g : Goes place (at_byte r begun) byte bytes all = goes place (at_byte r begun) byte bytes all e in
      elim (page-next place (at_byte r begun) g.next byte at g.takes) [
        | inl t ↦ at-post place start r begun all g.next four count t.0 t.1 g.reads
        | inr t ↦ at-bop place start r begun all g.next at four known distinct count passed t.0 t.1 g.reads
      ]

  -- on a page
  module _ (place start : ℕ) (r : Reader) (q : PageReader) (begun : List ℕ) (all : List ReadPage) (at : r.element ≡ element.Command) (four : length r.pointer ≡ 4) (count : place ≡ start + length begun) (between : IsBetween q) (part : PartOf begun)
      (are : AreBytes begun) where
    abbrev Found : Type 0
    Found = FromCommands start q r.mag r.pointer r.counts r.definitions r.pages (begun ++ byte ∷ bytes) all

    at-eop : (next : Reader) → IsEop (mid r q begun) byte next → rest_read (place + 1) next bytes ≡ Ok all → Found
    at-eop next t e =
        let none : begun ≡ [] = no-bytes begun t.none in
        let zero : length begun ≡ 0 = t.none in
        let page : ReadPage = record { counts = r.counts; placed = q.met } in
        let r' : Reader = record r { element = element.Page; page = record q { met = [] }; pages = r.pages ++ page ∷ [] } in
        let reads : rest_read (place + 1) (at_byte r' []) bytes ≡ Ok all = (λ i. rest_read (place + 1) (at_byte r' (sym none i)) bytes) ∙ ap (λ n. rest_read (place + 1) n bytes) t.next_is ∙ e in
        let o : FromPages (start + 0 + 1) q.fonts.known r.mag r.pointer r.definitions (r.pages ++ page ∷ []) bytes all
        = later.pages (place + 1) (start + 0 + 1) r' [] all refl four between.known between.distinct (omega (arith, count, zero)) (λ i less. no-byte i less) reads in
        record {
          commands = [];
          end = q;
          lead = refl;
          level = none-pushed q.stack t.level;
          rest = bytes;
          others = subst (λ (ds : List (List ℕ)). FromPages (start + 0 + 1) q.fonts.known r.mag r.pointer ds (r.pages ++ page ∷ []) bytes all) (sym (append-nil r.definitions)) o;
          bytes_are = λ i. none i ++ t.is i ∷ bytes;
        }

    -- its first bytes
    opcode_of : (xs : List ℕ) → (opcode : ℕ) × ((ops : List ℕ) × (xs ++ byte ∷ [] ≡ opcode ∷ ops))
    opcode_of [] = (byte, ([], refl))
    opcode_of (x ∷ xs) = (x, (xs ++ byte ∷ [], refl))

    -- and how many of them there are
    as-many-as : (opcode : ℕ) (ops : List ℕ) (more : ℕ) (xs : List ℕ) → PartOf xs → xs ++ byte ∷ [] ≡ opcode ∷ ops → wanted (opcode ∷ ops) ≡ Some more → length ops ≤ more
    as-many-as opcode ops more [] p e wants = let none : 0 ≡ length ops = ap (λ (xs : List ℕ). length (drop 1 xs)) e in omega (arith, none)
    as-many-as opcode ops more (x ∷ xs) p e wants =
        let one = length_push xs byte in
        let long : length (xs ++ byte ∷ []) ≡ length ops = ap (λ (ys : List ℕ). length (drop 1 ys)) e in
        let grows = wanted-grows x xs byte p.0 more p.1 (ap (λ (ys : List ℕ). wanted ys) e ∙ wants) in
        let fits : suc (length xs) ≤ p.0 = p.2 in
        omega (arith, one, long, grows, fits)

    all_bytes : AreBytes (begun ++ byte ∷ [])
    all_bytes = bytes-append begun (byte ∷ []) are (small, tt)

    gathers-on : (opcode : ℕ) (ops : List ℕ) → begun ++ byte ∷ [] ≡ opcode ∷ ops → (x : PageReader) → IsPart q opcode ops x → (next : Reader) → record (mid r q begun) { page = x; definitions = with_definition (begun ++ byte ∷ []) r.definitions } ≡ next
        → rest_read (place + 1) next bytes ≡ Ok all → Found
    gathers-on opcode ops is x p next next_is e =
        let kept : with_definition (begun ++ byte ∷ []) r.definitions ≡ r.definitions = (λ i. with_definition (is i) r.definitions) ∙ part-kept opcode ops p r.definitions in
        let page_is : x ≡ record q { begun = begun ++ byte ∷ [] } = p.is ∙ (λ i. record q { begun = sym is i }) in
        let reads : rest_read (place + 1) (mid r q (begun ++ byte ∷ [])) bytes ≡ Ok all = (λ i. rest_read (place + 1) (record r { page = sym page_is i; definitions = sym kept i }) bytes) ∙ ap (λ n. rest_read (place + 1) n bytes) next_is ∙ e in
        let one = length_push begun byte in
        subst (λ (xs : List ℕ). FromCommands start q r.mag r.pointer r.counts r.definitions r.pages xs all) (append_assoc begun (byte ∷ []) bytes)
        (later.commands (place + 1) start r q (begun ++ byte ∷ []) all at four (omega (arith, count, one)) between (subst (λ (xs : List ℕ). PartOf xs) (sym is) (p.more, p.wants, p.fits)) all_bytes reads)
      where
        part-kept : (o : ℕ) (os : List ℕ) → IsPart q o os x → (ds : List (List ℕ)) → with_definition (o ∷ os) ds ≡ ds
        part-kept o os w ds =
            (λ i. cond {A = List (List ℕ)} (past (w.wants i) (o ∷ os) && o == 243) (ds ++ (o ∷ os) ∷ []) ds)
            ∙ (λ i. cond {A = List (List ℕ)} (not (le-leb (suc (length os)) w.more w.fits i) && o == 243) (ds ++ (o ∷ os) ∷ []) ds)

    carried-on : (opcode : ℕ) (ops : List ℕ) → begun ++ byte ∷ [] ≡ opcode ∷ ops → (x : PageReader) → IsAll q opcode ops x → (next : Reader) → record (mid r q begun) { page = x; definitions = with_definition (begun ++ byte ∷ []) r.definitions } ≡ next
        → rest_read (place + 1) next bytes ≡ Ok all → Found
    carried-on opcode ops is x p next next_is e =
        let empty : record q { begun = [] } ≡ q = λ i. record q { begun = sym between.begun i } in
        let fits : length ops ≤ p.more = as-many-as opcode ops p.more begun part is p.wants in
        let exact : p.more ≡ length ops = omega (arith, fits, p.past) in
        let d : Decoded q opcode ops = decoded q between opcode ops (subst (λ (xs : List ℕ). AreBytes xs) is all_bytes) (p.wants ∙ ap (λ (n : ℕ). Some n) exact) p.may in
        let same : behind d.command q ≡ x = some-of (sym d.carried ∙ (λ i. carried_out no_widths opcode ops (sym empty i)) ∙ p.carried) in
        let near : is_near (behind d.command q).now ≡ true = ap (λ (y : PageReader). is_near y.now) same ∙ p.near in
        let next_between : IsBetween (behind d.command q) = between-next d.command q between d.may near in
        let ds : List (List ℕ) = r.definitions ++ map definition_bytes (defines d.command) in
        let r' : Reader = record r { definitions = ds } in
        let definitions_are : with_definition (begun ++ byte ∷ []) r.definitions ≡ ds = (λ i. with_definition (is i) r.definitions) ∙ d.defined r.definitions in
        let page_is : record (behind d.command q) { begun = [] } ≡ x = (λ i. record (behind d.command q) { begun = sym next_between.begun i }) ∙ same in
        let reads : rest_read (place + 1) (mid r' (behind d.command q) []) bytes ≡ Ok all = (λ i. rest_read (place + 1) (record r { page = page_is i; definitions = sym definitions_are i }) bytes) ∙ ap (λ n. rest_read (place + 1) n bytes) next_is ∙ e in
        let one = length_push begun byte in
        let long : length (command_bytes d.command) ≡ length begun + 1 = ap (λ (xs : List ℕ). length xs) (d.bytes ∙ sym is) ∙ one in
        let o : FromCommands (start + length (command_bytes d.command)) (behind d.command q) r.mag r.pointer r.counts ds r.pages bytes all
        = later.commands (place + 1) (start + length (command_bytes d.command)) r' (behind d.command q) [] all at four (omega (arith, count, long)) next_between tt tt reads in
        let both = length-append (command_bytes d.command) (commands_bytes o.commands) in
        let place_is : (start + length (command_bytes d.command)) + length (commands_bytes o.commands) + 1 ≡ start + length (command_bytes d.command ++ commands_bytes o.commands) + 1 = omega (arith, both) in
        let fonts_are : ds ++ map definition_bytes (fonts_in o.commands) ≡ r.definitions ++ map definition_bytes (defines d.command ++ fonts_in o.commands)
        = append_assoc r.definitions (map definition_bytes (defines d.command)) (map definition_bytes (fonts_in o.commands)) ∙ ap (λ (xs : List (List ℕ)). r.definitions ++ xs) (sym (map-append definition_bytes (defines d.command) (fonts_in o.commands))) in
        record {
          commands = d.command ∷ o.commands;
          end = o.end;
          lead = (d.may, near-to (behind d.command q).now near, o.lead);
          level = o.level;
          rest = o.rest;
          others = subst (λ (n : ℕ). FromPages n o.end.fonts.known r.mag r.pointer (r.definitions ++ map definition_bytes (defines d.command ++ fonts_in o.commands)) (r.pages ++ record { counts = r.counts; placed = o.end.met } ∷ []) o.rest all) place_is
              (subst (λ (xs : List (List ℕ)). FromPages ((start + length (command_bytes d.command)) + length (commands_bytes o.commands) + 1) o.end.fonts.known r.mag r.pointer xs (r.pages ++ record { counts = r.counts; placed = o.end.met } ∷ []) o.rest all) fonts_are o.others);
          bytes_are = sym (append_assoc begun (byte ∷ []) bytes) ∙ (λ i. (is ∙ sym d.bytes) i ++ o.bytes_are i) ∙ sym (append_assoc (command_bytes d.command) (commands_bytes o.commands) (140 ∷ o.rest));
        }

    commands-so : rest_read place (mid r q begun) (byte ∷ bytes) ≡ Ok all → Found
    commands-so e =
        let g : Goes place (mid r q begun) byte bytes all = goes place (mid r q begun) byte bytes all e in
        elim (command-next place (mid r q begun) g.next byte at g.takes) [
          | inl t ↦ at-eop g.next t g.reads
          | inr t ↦ (let o = opcode_of begun in
              elim (within-cases q begun byte o.0 o.1.0 t.page o.1.1 t.reads) [
                | inl p ↦ gathers-on o.0 o.1.0 o.1.1 t.page p g.next t.next_is g.reads
                | inr p ↦ carried-on o.0 o.1.0 o.1.1 t.page p g.next t.next_is g.reads
              ])
        ]

pub both : (bytes : List ℕ) → AreBytes bytes → Both bytes
both [] are = record {
  pages = λ place start r begun all at four known distinct count passed e. not-done place (at_byte r begun) all (ap (λ (x : DviRule). is_last x) at) e;
  commands = λ place start r q begun all at four count between part small e. not-done place (mid r q begun) all (ap (λ (x : DviRule). is_last x) at) e;
}
both (byte ∷ bytes) are =
    let later : Both bytes = both bytes are.1 in
    record {
      pages = λ place start r begun all at four known distinct count passed e. pages-so byte bytes are.0 later place start r begun all at four known distinct count passed e;
      commands = λ place start r q begun all at four count between part small e. commands-so byte bytes are.0 later place start r q begun all at four count between part small e;
    }
