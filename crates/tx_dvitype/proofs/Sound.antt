-- What is read is a file as the grammar says.
use Rattle.std.proofs.Common.{◌≡◌, ℕ, suc, ◌+◌, ◌-◌, ◌%◌, ◌^◌, ◌<◌, ◌≤◌, ◌==◌, ◌||◌, ◌⊎◌, nat_le, nat_lt, Bool, true, false, cond, ℤ, List, [], ◌∷◌, ◌++◌, length, get_or, take, drop, map, replicate, Option, Some, None, Result, Ok, Err, refl, sym, ap, ◌∙◌, subst, inl, inr, arith, length-append, append_assoc}
use Rattle.std.proofs.lemmas.Bool.{and_parts, cases_lt, eqb-true, leb-true, lt-leb, ltb-true, ne_eqb, or_cases, true≢false, false≢true, and_left}
use Rattle.std.proofs.lemmas.List.{append-nil, drop-drop, drop_at, drop_more, ext_get_or, get_or-drop, get_or-take, get_or_append_left, get_or_push, length-drop, length-take-le, length_push, map-append, take-append-drop, take-append-le, take_at}
use Rattle.std.proofs.lemmas.Option.{cond_some}
use Rattle.tx_dvitype.specs.declared.error.DviRule.{DviRule}
use Rattle.tx_dvitype.specs.declared.error.DviRule.TheVariants as element
use Rattle.tx_dvitype.specs.declared.reader.ReadPage.{ReadPage}
use Rattle.tx_dvitype.specs.declared.reader.Reader.{Reader}
use Rattle.tx_dvi.specs.Dvi.{definition_bytes, filler, four_bytes, two_bytes, units}
use Rattle.tx_dvi.specs.Meaning.{Reader as PageReader, page_start}
use Rattle.tx_dvitype.specs.Files.{Broken, again_below, at_post, behind_postamble, counts_in, end_taken, ending, going_on, is_done, is_last, may_begin_page, may_begin_post, may_stand, page_taken, past_bop, past_postamble, place_bytes, postamble_taken, rest_read, stands_at, stopped, taken, taken_by, with_byte}
use Rattle.tx_dvitype.specs.Grammar.{ArePages, Command, Lead, PageText, bytes_of, commands_bytes, end_bytes, end_of, fonts_in, last_pointer, numbers_in, page_long, pages_elements, pointer_to}
use Rattle.tx_dvitype.specs.Partial.{past}
use Rattle.tx_dvitype.proofs.Complete.{fonts_of}
use Rattle.tx_dvitype.proofs.Elements.{counts-are}
use Rattle.tx_dvitype.proofs.ReadEnd.{at_byte}
use Rattle.tx_dvitype.proofs.ReadPages.{some-of}

abbrev pub Read : Type 0
Read = Result (List ReadPage) Broken

abbrev pages_or : List ReadPage → Read → List ReadPage
pages_or pages (Ok read) = read
pages_or pages (Err broken) = pages

pub ok-of : (x y : List ReadPage) → ◌≡◌ {A = Read} (Ok x) (Ok y) → x ≡ y
ok-of x y e = ap (λ (r : Read). pages_or x r) e

abbrev is_read : Read → Bool
is_read (Ok pages) = true
is_read (Err broken) = false

pub err-ok : {P : Type 0} (broken : Broken) (pages : List ReadPage) → ◌≡◌ {A = Read} (Err broken) (Ok pages) → P
err-ok broken pages e = absurd (false≢true (ap (λ (r : Read). is_read r) e))

-- a byte that is read, and the end
pub record Goes (place : ℕ) (r : Reader) (byte : ℕ) (bytes : List ℕ) (all : List ReadPage) : Type 0 where
  pub next : Reader
  pub takes : taken place r byte ≡ Some next
  pub reads : rest_read (place + 1) next bytes ≡ Ok all

pub goes : (place : ℕ) (r : Reader) (byte : ℕ) (bytes : List ℕ) (all : List ReadPage) → rest_read place r (byte ∷ bytes) ≡ Ok all → Goes place r byte bytes all
goes place r byte bytes all e = by (taken place r byte) refl e
  where
    by : (o : Option Reader) → taken place r byte ≡ o → going_on place r o (λ next. rest_read (place + 1) next bytes) ≡ Ok all → Goes place r byte bytes all
    by None is f = err-ok (stopped place r) all f
    by (Some next) is f = record { next = next; takes = is; reads = f }

pub ends : (place : ℕ) (r : Reader) (all : List ReadPage) → rest_read place r [] ≡ Ok all → (is_done r ≡ true) × (r.pages ≡ all)
ends place r all e = by (is_done r) refl e
  where
    by : (b : Bool) → is_done r ≡ b → cond {A = Read} b (Ok r.pages) (Err (stopped place r)) ≡ Ok all → (is_done r ≡ true) × (r.pages ≡ all)
    by true is f = (is, ok-of r.pages all f)
    by false is f = err-ok (stopped place r) all f

pub not-done : {P : Type 0} (place : ℕ) (r : Reader) (all : List ReadPage) → is_last r.element ≡ false → rest_read place r [] ≡ Ok all → P
not-done place r all is e = absurd (true≢false (sym (ends place r all e).0 ∙ and_left (is_last r.element) (length r.page.begun == length r.expected) is))

-- bytes that were gathered, each of which passed a test of those before it
abbrev pub Passed : (List ℕ → ℕ → Bool) → List ℕ → Type 0
Passed may begun = (i : ℕ) → i < length begun → may (take i begun) (get_or begun i 0) ≡ true

pub passed-push : (may : List ℕ → ℕ → Bool) (begun : List ℕ) (byte : ℕ) → Passed may begun → may begun byte ≡ true → Passed may (begun ++ byte ∷ [])
passed-push may begun byte passed last i less = elim (cases_lt i (length begun)) [
  | inl within ↦ ((λ j. may (take-append-le i begun (byte ∷ []) (omega (arith, within)) j) (get_or_append_left begun (byte ∷ []) 0 i within j)) ∙ passed i within)
  | inr past ↦ (let one = length_push begun byte in
      let at : length begun ≡ i = omega (arith, past, less, one) in
      (λ j. may (take_at begun (byte ∷ []) i at j) (get_or_push begun byte 0 i at j)) ∙ last)
]

pub no-byte : {P : Type 0} (i : ℕ) → i < 0 → P
no-byte i less = absurd (omega (arith, less))

-- what stands behind the postamble
record EndsSo (r : Reader) (bytes : List ℕ) (all : List ReadPage) : Type 0 where
  are : bytes ≡ r.expected
  pages : all ≡ r.pages

pub stood : (expected begun : List ℕ) (i : ℕ) → i < length begun → stands_at expected (length (take i begun)) (get_or begun i 0) ≡ true → get_or begun i 0 ≡ get_or expected i 0
stood expected begun i less e =
    let parts = and_parts (nat_lt (length (take i begun)) (length expected)) (get_or begun i 0 == get_or expected (length (take i begun)) 0) e in
    let long : length (take i begun) ≡ i = length-take-le i begun (omega (arith, less)) in
    eqb-true (get_or begun i 0) (get_or expected (length (take i begun)) 0) parts.1 ∙ ap (λ n. get_or expected n 0) long

end-next : (place : ℕ) (r next : Reader) (byte : ℕ) → r.element ≡ element.End → taken place r byte ≡ Some next → (stands_at r.expected (length r.page.begun) byte ≡ true) × (with_byte byte r ≡ next)
unfolding taken end_taken
end-next place r next byte at is = cond_some (stands_at r.expected (length r.page.begun) byte) (with_byte byte r) next (sym (ap (λ (e : DviRule). taken_by e place r byte) at) ∙ is)

sound-end : (bytes : List ℕ) (place : ℕ) (r : Reader) (begun : List ℕ) (all : List ReadPage) → r.element ≡ element.End → Passed (λ done byte. stands_at r.expected (length done) byte) begun → rest_read place (at_byte r begun) bytes ≡ Ok all
    → EndsSo r (begun ++ bytes) all
sound-end [] place r begun all at passed e =
    let t = ends place (at_byte r begun) all e in
    let same : length begun ≡ length r.expected = eqb-true (length begun) (length r.expected) (and_parts (is_last r.element) (length begun == length r.expected) t.0).1 in
    record {
      are = append-nil begun ∙ ext_get_or 0 begun r.expected same (λ i less. stood r.expected begun i less (passed i less));
      pages = sym t.1;
    }
sound-end (byte ∷ bytes) place r begun all at passed e =
    let g : Goes place (at_byte r begun) byte bytes all = goes place (at_byte r begun) byte bytes all e in
    let t = end-next place (at_byte r begun) g.next byte at g.takes in
    let later : EndsSo r ((begun ++ byte ∷ []) ++ bytes) all
    = sound-end bytes (place + 1) r (begun ++ byte ∷ []) all at (passed-push (λ done b. stands_at r.expected (length done) b) begun byte passed t.0) (ap (λ n. rest_read (place + 1) n bytes) t.1 ∙ g.reads) in
    record { are = sym (append_assoc begun (byte ∷ []) bytes) ∙ later.are; pages = later.pages }

-- the postamble
pub record PostSo (start : ℕ) (r : Reader) (bytes : List ℕ) (all : List ReadPage) : Type 0 where
  pub sizes : List ℕ
  pub ten : length sizes ≡ 10
  pub are : bytes ≡ (take 17 r.expected ++ (sizes ++ drop 27 r.expected)) ++ ending (start + (length r.expected - 1)) (length r.expected)
  pub pages : all ≡ r.pages

post-next : (place : ℕ) (r next : Reader) (byte : ℕ) → r.element ≡ element.Postamble → taken place r byte ≡ Some next → ((may_stand r || stands_at r.expected (length r.page.begun) byte) ≡ true) × (past_postamble place (with_byte byte r) ≡ next)
unfolding taken postamble_taken
post-next place r next byte at is =
    cond_some (may_stand r || stands_at r.expected (length r.page.begun) byte) (past_postamble place (with_byte byte r)) next (sym (ap (λ (e : DviRule). taken_by e place r byte) at) ∙ is)

module _ (r : Reader) (whole : List ℕ) (long : length whole ≡ length r.expected) (enough : 27 ≤ length r.expected) (passed : Passed (λ done byte. may_stand (at_byte r done) || stands_at r.expected (length done) byte) whole) where
  fixed : (i : ℕ) → i < length whole → (i < 17) ⊎ (27 ≤ i) → get_or whole i 0 ≡ get_or r.expected i 0
  fixed i less outside = elim (or_cases (may_stand (at_byte r (take i whole))) (stands_at r.expected (length (take i whole)) (get_or whole i 0)) (passed i less)) [
    | inl may ↦ (let parts = and_parts (nat_le 17 (length (take i whole))) (nat_lt (length (take i whole)) 27) may in
        let at : length (take i whole) ≡ i = length-take-le i whole (omega (arith, less)) in
        let least : 17 ≤ length (take i whole) = leb-true 17 (length (take i whole)) parts.0 in
        let most : length (take i whole) < 27 = ltb-true (length (take i whole)) 27 parts.1 in
        absurd (neither outside at least most))
    | inr there ↦ stood r.expected whole i less there
  ]
    where
      neither : (i < 17) ⊎ (27 ≤ i) → length (take i whole) ≡ i → 17 ≤ length (take i whole) → length (take i whole) < 27 → ⊥
      neither (inl low) at least most = omega (arith, low, at, least)
      neither (inr past) at least most = omega (arith, past, at, most)

  front-same : take 17 whole ≡ take 17 r.expected
  front-same =
      let one : length (take 17 whole) ≡ 17 = length-take-le 17 whole (omega (arith, long, enough)) in
      let two : length (take 17 r.expected) ≡ 17 = length-take-le 17 r.expected (omega (arith, enough)) in
      ext_get_or 0 (take 17 whole) (take 17 r.expected) (one ∙ sym two)
      (λ i less. get_or-take 17 whole i 0 (omega (arith, less, one)) ∙ fixed i (omega (arith, less, one, long, enough)) (inl (omega (arith, less, one))) ∙ sym (get_or-take 17 r.expected i 0 (omega (arith, less, one))))

  back-same : drop 27 whole ≡ drop 27 r.expected
  back-same =
      let one = length-drop 27 whole in
      let two = length-drop 27 r.expected in
      let same : length (drop 27 whole) ≡ length (drop 27 r.expected) = omega (arith, one, two, long) in
      ext_get_or 0 (drop 27 whole) (drop 27 r.expected) same
      (λ i less. get_or-drop 27 whole i 0 ∙ fixed (27 + i) (omega (arith, less, one)) (inr (omega arith)) ∙ sym (get_or-drop 27 r.expected i 0))

  whole-is : whole ≡ take 17 r.expected ++ (take 10 (drop 17 whole) ++ drop 27 r.expected)
  whole-is =
      sym (take-append-drop 17 whole) ∙ (λ i. front-same i ++ sym (take-append-drop 10 (drop 17 whole)) i)
      ∙ (λ i. take 17 r.expected ++ (take 10 (drop 17 whole) ++ (drop-drop 10 17 whole ∙ back-same) i))

  sizes-ten : length (take 10 (drop 17 whole)) ≡ 10
  sizes-ten = let left = length-drop 17 whole in length-take-le 10 (drop 17 whole) (omega (arith, left, long, enough))

pub sound-post : (bytes : List ℕ) (place start : ℕ) (r : Reader) (begun : List ℕ) (all : List ReadPage) → r.element ≡ element.Postamble → 27 ≤ length r.expected → place ≡ start + length begun
    → Passed (λ done byte. may_stand (at_byte r done) || stands_at r.expected (length done) byte) begun → rest_read place (at_byte r begun) bytes ≡ Ok all → PostSo start r (begun ++ bytes) all
sound-post [] place start r begun all at enough count passed e = not-done place (at_byte r begun) all (ap (λ (x : DviRule). is_last x) at) e
sound-post (byte ∷ bytes) place start r begun all at enough count passed e =
    by (length (begun ++ byte ∷ []) == length r.expected) refl (ap (λ n. rest_read (place + 1) n bytes) t.1 ∙ g.reads)
    (λ f. sound-post bytes (place + 1) start r (begun ++ byte ∷ []) all at enough (omega (arith, count, one)) further f)
  where
    g : Goes place (at_byte r begun) byte bytes all
    g = goes place (at_byte r begun) byte bytes all e

    t : ((may_stand (at_byte r begun) || stands_at r.expected (length begun) byte) ≡ true) × (past_postamble place (at_byte r (begun ++ byte ∷ [])) ≡ g.next)
    t = post-next place (at_byte r begun) g.next byte at g.takes

    further : Passed (λ done b. may_stand (at_byte r done) || stands_at r.expected (length done) b) (begun ++ byte ∷ [])
    further = passed-push (λ done b. may_stand (at_byte r done) || stands_at r.expected (length done) b) begun byte passed t.0

    one : length (begun ++ byte ∷ []) ≡ length begun + 1
    one = length_push begun byte

    last : length (begun ++ byte ∷ []) ≡ length r.expected → rest_read (place + 1) (behind_postamble place (at_byte r (begun ++ byte ∷ []))) bytes ≡ Ok all → PostSo start r (begun ++ byte ∷ bytes) all
    last long f =
        let later : EndsSo (behind_postamble place (at_byte r (begun ++ byte ∷ []))) bytes all = sound-end bytes (place + 1) (behind_postamble place (at_byte r (begun ++ byte ∷ []))) [] all refl (λ i less. no-byte i less) f in
        let here : place ≡ start + (length r.expected - 1) = omega (arith, count, one, long) in
        record {
          sizes = take 10 (drop 17 (begun ++ byte ∷ []));
          ten = sizes-ten r (begun ++ byte ∷ []) long enough further;
          are = sym (append_assoc begun (byte ∷ []) bytes) ∙ (λ i. whole-is r (begun ++ byte ∷ []) long enough further i ++ later.are i) ∙ (λ i. (take 17 r.expected ++ (take 10 (drop 17 (begun ++ byte ∷ [])) ++ drop 27 r.expected)) ++ ending (here i) (length r.expected));
          pages = later.pages;
        }

    by : (b : Bool) → (length (begun ++ byte ∷ []) == length r.expected) ≡ b → rest_read (place + 1) (cond {A = Reader} b (behind_postamble place (at_byte r (begun ++ byte ∷ []))) (at_byte r (begun ++ byte ∷ []))) bytes ≡ Ok all
        → (rest_read (place + 1) (at_byte r (begun ++ byte ∷ [])) bytes ≡ Ok all → PostSo start r ((begun ++ byte ∷ []) ++ bytes) all) → PostSo start r (begun ++ byte ∷ bytes) all
    by true is f others = last (eqb-true (length (begun ++ byte ∷ [])) (length r.expected) is) f
    by false is f others =
        let later : PostSo start r ((begun ++ byte ∷ []) ++ bytes) all = others f in
        record { sizes = later.sizes; ten = later.ten; are = sym (append_assoc begun (byte ∷ []) bytes) ∙ later.are; pages = later.pages }

-- what stands behind the pages
abbrev pub post_text : ℕ → List ℕ → List (List ℕ) → ℕ → List ℕ → List ℕ
post_text mag last ds n sizes = last ++ units mag ++ sizes ++ two_bytes (n % 2 ^ 16) ++ again_below 256 ds

abbrev pub tail : ℕ → ℕ → List ℕ → List (List ℕ) → ℕ → List ℕ → List ℕ
tail place mag last ds n sizes = (248 ∷ post_text mag last ds n sizes) ++ end_bytes place (place + 1 + length (post_text mag last ds n sizes))

pub record FromPages (start : ℕ) (known : List ℕ) (mag : ℕ) (pointer : List ℕ) (ds : List (List ℕ)) (read : List ReadPage) (bytes : List ℕ) (all : List ReadPage) : Type 0 where
  pub pages : List PageText
  pub brought : List ReadPage
  pub sizes : List ℕ
  pub are : ArePages known pages brought
  pub ten : length sizes ≡ 10
  pub all_is : all ≡ read ++ brought
  pub some : 0 < length all
  pub bytes_are : bytes ≡ bytes_of (pages_elements start pointer pages) ++ tail (end_of start pages) mag (last_pointer start pointer pages) (ds ++ map definition_bytes (fonts_of pages)) (length all) sizes

pub record FromCommands (start : ℕ) (q : PageReader) (mag : ℕ) (pointer : List ℕ) (counts : List ℤ) (ds : List (List ℕ)) (read : List ReadPage) (bytes : List ℕ) (all : List ReadPage) : Type 0 where
  pub commands : List Command
  pub end : PageReader
  pub lead : Lead commands q end
  pub level : end.stack ≡ []
  pub rest : List ℕ
  pub others : FromPages (start + length (commands_bytes commands) + 1) end.fonts.known mag pointer (ds ++ map definition_bytes (fonts_in commands)) (read ++ record { counts = counts; placed = end.met } ∷ []) rest all
  pub bytes_are : bytes ≡ commands_bytes commands ++ 140 ∷ rest

units-long : (mag : ℕ) → length (units mag) ≡ 12
unfolding four_bytes
units-long mag = refl

-- post behind a page
module _ (start : ℕ) (r : Reader) (all : List ReadPage) (four : length r.pointer ≡ 4) (some : 0 < length r.pages) where
  abbrev front : List ℕ
  front = 248 ∷ (r.pointer ++ units r.mag)

  abbrev back : List ℕ
  back = two_bytes (length r.pages % 2 ^ 16) ++ again_below 256 r.definitions

  abbrev pub at_it : Reader
  at_it = at_post (at_byte r [])

  regrouped : (a u s t d : List ℕ) → 248 ∷ ((((a ++ u) ++ s) ++ t) ++ d) ≡ (248 ∷ (a ++ u)) ++ (s ++ (t ++ d))
  regrouped a u s t d = ap (λ (xs : List ℕ). 248 ∷ xs) (append_assoc ((a ++ u) ++ s) t d ∙ append_assoc (a ++ u) s (t ++ d))

  expected-is : at_it.expected ≡ front ++ (replicate 10 0 ++ back)
  expected-is = regrouped r.pointer (units r.mag) (replicate 10 0) (two_bytes (length r.pages % 2 ^ 16)) (again_below 256 r.definitions)

  front-long : length front ≡ 17
  front-long = let one = length-append r.pointer (units r.mag) in let two = units-long r.mag in omega (arith, one, two, four)

  pub expected-long : length at_it.expected ≡ 27 + length back
  expected-long =
      let one = length-append front (replicate 10 0 ++ back) in
      let n : length (front ++ (replicate 10 0 ++ back)) ≡ 27 + length back = omega (arith, one, front-long) in
      ap (λ (xs : List ℕ). length xs) expected-is ∙ n

  front-taken : take 17 at_it.expected ≡ front
  front-taken = ap (λ (xs : List ℕ). take 17 xs) expected-is ∙ take_at front (replicate 10 0 ++ back) 17 front-long

  back-dropped : drop 27 at_it.expected ≡ back
  back-dropped =
      let one = length-append front (replicate 10 0) in
      let n : length (front ++ replicate 10 0) ≡ 27 = omega (arith, one, front-long) in
      ap (λ (xs : List ℕ). drop 27 xs) (expected-is ∙ sym (append_assoc front (replicate 10 0) back)) ∙ drop_at (front ++ replicate 10 0) back 27 n

  pub post-pages : (bytes : List ℕ) → PostSo start at_it (248 ∷ bytes) all → FromPages start r.page.fonts.known r.mag r.pointer r.definitions r.pages (248 ∷ bytes) all
  post-pages bytes p =
      let text : List ℕ = post_text r.mag r.pointer r.definitions (length r.pages) p.sizes in
      let text-is : 248 ∷ text ≡ front ++ (p.sizes ++ back) = regrouped r.pointer (units r.mag) p.sizes (two_bytes (length r.pages % 2 ^ 16)) (again_below 256 r.definitions) in
      let long : suc (length text) ≡ length (front ++ (p.sizes ++ back)) = ap (λ (xs : List ℕ). length xs) text-is in
      let one = length-append front (p.sizes ++ back) in
      let two = length-append p.sizes back in
      let same : length text ≡ 26 + length back = omega (arith, long, one, two, front-long, p.ten) in
      let begins : start + (length at_it.expected - 1) - (length at_it.expected - 1) ≡ start = omega arith in
      let left : ((start + (length at_it.expected - 1)) % 4 + 7) % 4 ≡ (start + 1 + length text + 6) % 4 = omega (arith, same, expected-long) in
      let ends_are : ending (start + (length at_it.expected - 1)) (length at_it.expected) ≡ end_bytes start (start + 1 + length text) = λ i. 249 ∷ place_bytes (begins i) ++ 2 ∷ replicate (4 + (4 - left i) % 4) filler in
      let all_same : r.pages ≡ all = sym p.pages in
      record {
        pages = [];
        brought = [];
        sizes = p.sizes;
        are = tt;
        ten = p.ten;
        all_is = p.pages ∙ sym (append-nil r.pages);
        some = subst (λ (a : List ReadPage). 0 < length a) all_same some;
        bytes_are = p.are ∙ (λ i. (front-taken i ++ (p.sizes ++ back-dropped i)) ++ ends_are i) ∙ (λ i. sym text-is i ++ end_bytes start (start + 1 + length text))
            ∙ (λ i. tail start r.mag r.pointer (sym (append-nil r.definitions) i) (length (all_same i)) p.sizes);
      }

pub page-next : (place : ℕ) (r next : Reader) (byte : ℕ) → r.element ≡ element.Page → taken place r byte ≡ Some next
    → ((may_begin_post r byte ≡ true) × (at_post r ≡ next)) ⊎ ((may_begin_page r byte ≡ true) × (past_bop place (with_byte byte r) ≡ next))
unfolding taken page_taken
page-next place r next byte at is = by (may_begin_post r byte) refl (sym (ap (λ (e : DviRule). taken_by e place r byte) at) ∙ is)
  where
    by : (b : Bool) → may_begin_post r byte ≡ b → cond {A = Option Reader} b (Some (at_post r)) (cond {A = Option Reader} (may_begin_page r byte) (Some (past_bop place (with_byte byte r))) None) ≡ Some next
        → ((may_begin_post r byte ≡ true) × (at_post r ≡ next)) ⊎ ((may_begin_page r byte ≡ true) × (past_bop place (with_byte byte r) ≡ next))
    by true may f = inl (may, some-of f)
    by false may f = inr (cond_some (may_begin_page r byte) (past_bop place (with_byte byte r)) next f)

-- bop, once it is whole
module _ (r : Reader) (whole : List ℕ) (long : length whole ≡ 45) (four : length r.pointer ≡ 4) (passed : Passed (λ done byte. may_begin_page (at_byte r done) byte) whole) where
  first-is : get_or whole 0 0 ≡ 139
  first-is = eqb-true (get_or whole 0 0) 139 (passed 0 (omega (arith, long)))

  pointer-same : drop 41 whole ≡ r.pointer
  pointer-same =
      let left = length-drop 41 whole in
      ext_get_or 0 (drop 41 whole) r.pointer (omega (arith, left, long, four)) (λ i less. get_or-drop 41 whole i 0 ∙ there i (omega (arith, less, left, long)))
    where
      there : (i : ℕ) → i < 4 → get_or whole (41 + i) 0 ≡ get_or r.pointer i 0
      there i less =
          let at : length (take (41 + i) whole) ≡ 41 + i = length-take-le (41 + i) whole (omega (arith, less, long)) in
          let test : may_begin_page (at_byte r (take (41 + i) whole)) (get_or whole (41 + i) 0) ≡ true = passed (41 + i) (omega (arith, less, long)) in
          let not_first : (length (take (41 + i) whole) == 0) ≡ false = ne_eqb (length (take (41 + i) whole)) 0 (λ e. omega (arith, e, at)) in
          let past_numbers : nat_le (length (take (41 + i) whole)) 40 ≡ false = lt-leb (length (take (41 + i) whole)) 40 (omega (arith, at)) in
          let stands : stands_at r.pointer (length (take (41 + i) whole) - 41) (get_or whole (41 + i) 0) ≡ true
          = sym (λ j. cond {A = Bool} (not_first j) (get_or whole (41 + i) 0 == 139) (cond {A = Bool} (past_numbers j) true (stands_at r.pointer (length (take (41 + i) whole) - 41) (get_or whole (41 + i) 0)))) ∙ test in
          let parts = and_parts (nat_lt (length (take (41 + i) whole) - 41) (length r.pointer)) (get_or whole (41 + i) 0 == get_or r.pointer (length (take (41 + i) whole) - 41) 0) stands in
          let index : length (take (41 + i) whole) - 41 ≡ i = omega (arith, at) in
          eqb-true (get_or whole (41 + i) 0) (get_or r.pointer (length (take (41 + i) whole) - 41) 0) parts.1 ∙ ap (λ n. get_or r.pointer n 0) index

  abbrev numbers : List ℕ
  numbers = take 40 (drop 1 whole)

  numbers-forty : length numbers ≡ 40
  numbers-forty = let left = length-drop 1 whole in length-take-le 40 (drop 1 whole) (omega (arith, left, long))

  bop-is : whole ≡ 139 ∷ numbers ++ r.pointer
  bop-is =
      let begins : whole ≡ get_or whole 0 0 ∷ drop 1 whole = drop_more whole 0 0 (omega (arith, long)) in
      begins ∙ (λ i. first-is i ∷ sym (take-append-drop 40 (drop 1 whole)) i) ∙ (λ i. 139 ∷ numbers ++ (drop-drop 40 1 whole ∙ pointer-same) i)

-- a page before others
module _ (start : ℕ) (r : Reader) (all : List ReadPage) (whole bytes : List ℕ) (long : length whole ≡ 45) (four : length r.pointer ≡ 4) (passed : Passed (λ done byte. may_begin_page (at_byte r done) byte) whole)
    (c : FromCommands (start + 45) (page_start r.page.fonts.known) r.mag (pointer_to start) (counts_in whole) r.definitions r.pages bytes all) where
  abbrev this : PageText
  this = record { numbers = numbers r whole long four passed; commands = c.commands }

  abbrev brings : ReadPage
  brings = record { counts = numbers_in 10 (numbers r whole long four passed); placed = c.end.met }

  counts-same : counts_in whole ≡ numbers_in 10 (numbers r whole long four passed)
  counts-same = ap (λ (xs : List ℕ). counts_in xs) (bop-is r whole long four passed) ∙ counts-are 139 (numbers r whole long four passed) r.pointer (numbers-forty r whole long four passed)

  abbrev later : ℕ
  later = start + page_long this

  o : FromPages later c.end.fonts.known r.mag (pointer_to start) (r.definitions ++ map definition_bytes (fonts_in c.commands)) (r.pages ++ brings ∷ []) c.rest all
  o =
      let count : (start + 45) + length (commands_bytes c.commands) + 1 ≡ later = omega arith in
      subst (λ (n : ℕ). FromPages n c.end.fonts.known r.mag (pointer_to start) (r.definitions ++ map definition_bytes (fonts_in c.commands)) (r.pages ++ brings ∷ []) c.rest all) count
      (subst (λ (k : List ℤ). FromPages ((start + 45) + length (commands_bytes c.commands) + 1) c.end.fonts.known r.mag (pointer_to start) (r.definitions ++ map definition_bytes (fonts_in c.commands)) (r.pages ++ record { counts = k; placed = c.end.met } ∷ []) c.rest all) counts-same c.others)

  fonts-are : (r.definitions ++ map definition_bytes (fonts_in c.commands)) ++ map definition_bytes (fonts_of o.pages) ≡ r.definitions ++ map definition_bytes (fonts_in c.commands ++ fonts_of o.pages)
  fonts-are = append_assoc r.definitions (map definition_bytes (fonts_in c.commands)) (map definition_bytes (fonts_of o.pages)) ∙ ap (λ (xs : List (List ℕ)). r.definitions ++ xs) (sym (map-append definition_bytes (fonts_in c.commands) (fonts_of o.pages)))

  parted : (a b d e : List ℕ) → a ++ (b ++ 140 ∷ (d ++ e)) ≡ (a ++ ((b ++ 140 ∷ []) ++ d)) ++ e
  parted a b d e = simp append_assoc

  pub page-pages : FromPages start r.page.fonts.known r.mag r.pointer r.definitions r.pages (whole ++ bytes) all
  page-pages = record {
    pages = this ∷ o.pages;
    brought = brings ∷ o.brought;
    sizes = o.sizes;
    are = (record { end = c.end; ten = numbers-forty r whole long four passed; lead = c.lead; level = c.level; brings = refl }, o.are);
    ten = o.ten;
    all_is = o.all_is ∙ append_assoc r.pages (brings ∷ []) o.brought;
    some = o.some;
    bytes_are = (λ i. bop-is r whole long four passed i ++ c.bytes_are i) ∙ (λ i. (139 ∷ numbers r whole long four passed ++ r.pointer) ++ (commands_bytes c.commands ++ 140 ∷ o.bytes_are i))
        ∙ parted (139 ∷ numbers r whole long four passed ++ r.pointer) (commands_bytes c.commands) (bytes_of (pages_elements later (pointer_to start) o.pages)) (tail (end_of later o.pages) r.mag (last_pointer later (pointer_to start) o.pages)
        ((r.definitions ++ map definition_bytes (fonts_in c.commands)) ++ map definition_bytes (fonts_of o.pages)) (length all) o.sizes)
        ∙ (λ i. bytes_of (pages_elements start r.pointer (this ∷ o.pages)) ++ tail (end_of later o.pages) r.mag (last_pointer later (pointer_to start) o.pages) (fonts-are i) (length all) o.sizes);
  }
