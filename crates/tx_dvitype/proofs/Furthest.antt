-- What stands before a refusal begins a DVI file, and nothing longer does.
use Rattle.std.proofs.Common.{◌≡◌, ℕ, zero, suc, ◌+◌, ◌-◌, ◌<◌, ◌≤◌, ◌==◌, ◌⊎◌, nat_le, Bool, true, false, cond, List, [], ◌∷◌, ◌++◌, length, get_or, take, Option, Some, None, Ok, Err, refl, sym, ap, ◌∙◌, subst, inl, inr, arith, add-zero, zero-add}
use Rattle.std.proofs.lemmas.Bool.{and_parts, leb-false, true≢false}
use Rattle.std.proofs.lemmas.List.{length-take-le, length_push, take-append-le, take-take}
use Rattle.tx_dvitype.specs.declared.error.DviError.{DviError}
use Rattle.tx_dvitype.specs.declared.error.DviError.TheVariants.{BadDvi, OutOfMemory}
use Rattle.tx_dvitype.specs.declared.error.DviRule.{DviRule}
use Rattle.tx_dvitype.specs.declared.error.DviRule.TheVariants.{File, Preamble, Page, Command, Postamble, End}
use Rattle.tx_dvitype.specs.declared.reader.ReadPage.{ReadPage}
use Rattle.tx_dvitype.specs.declared.reader.Reader.{Reader}
use Rattle.tx_dvitype.specs.Files.{Broken, IsCause, is_done, is_last, stopped, going_on, taken, rest_read, at_start, dvi_file}
use Rattle.tx_dvitype.specs.Grammar.{AreBytes, BeginsFile, IsDviFile, IsFurthest, IsNextRule, IsNoFile, IsRefusal, elements, rules_of}
use Rattle.tx_dvi.specs.Meaning.{Reader as PageReader, carried_out}
use Rattle.tx_dvitype.specs.Partial.{no_widths, is_near, kept_near, carried_near, gathered, may_begin, read_within, wanted}
use Rattle.tx_dvitype.proofs.Bytes.{bytes-append, definitions-on}
use Rattle.tx_dvitype.proofs.Complete.{Ended, file-ends}
use Rattle.tx_dvitype.proofs.Ends.{CanEnd, end-can, level-can, one-before, page-can, post-can, preamble-can}
use Rattle.tx_dvitype.proofs.Exactly.{complete, sound}
use Rattle.tx_dvitype.proofs.Partials.{Progress, progress, whole_size}
use Rattle.tx_dvitype.proofs.ReadEnd.{at_byte}
use Rattle.tx_dvitype.proofs.ReadFront.{take-one}
use Rattle.tx_dvitype.proofs.ReadPages.{byte-goes, next-reader}
use Rattle.tx_dvitype.proofs.Refused.{Read, place_or, refused-so}
use Rattle.tx_dvitype.proofs.Standing.{InPage, Next, Stands, StandsSomewhere, page-next, stands-at-start, stands-on}
use Rattle.tx_dvitype.proofs.Steps.{Reaches, rule-there, same-end}

-- the next byte of a command that is begun
record Goes (p : PageReader) (byte : ℕ) : Type 0 where
  behind : PageReader
  is : read_within p byte ≡ Some behind

near-carried : (opcode : ℕ) (bytes : List ℕ) (p x : PageReader) → carried_out no_widths opcode bytes p ≡ Some x → is_near x.now ≡ true → carried_near opcode bytes p ≡ Some x
unfolding carried_near
near-carried opcode bytes p x is near = ap (λ (o : Option PageReader). kept_near o) is ∙ (λ i. cond {A = Option PageReader} (near i) (Some x) None)

within-goes : (q : PageReader) (opcode : ℕ) (bytes : List ℕ) (byte more : ℕ) → may_begin opcode (bytes ++ byte ∷ []) (record q { begun = opcode ∷ (bytes ++ byte ∷ []) }) ≡ true → wanted (opcode ∷ (bytes ++ byte ∷ [])) ≡ Some more
    → read_within (record q { begun = opcode ∷ bytes }) byte ≡ gathered (Some more) (opcode ∷ (bytes ++ byte ∷ [])) (record q { begun = opcode ∷ bytes })
unfolding read_within
within-goes q opcode bytes byte more may is = λ i. cond {A = Option PageReader} (may i) (gathered (is i) (opcode ∷ (bytes ++ byte ∷ [])) (record q { begun = opcode ∷ bytes })) None

goes : (q : PageReader) (opcode : ℕ) (bytes : List ℕ) → is_near q.now ≡ true → (t : Progress q opcode bytes) → Goes (record q { begun = opcode ∷ bytes }) t.byte
goes q opcode bytes near t = by (nat_le (suc (length (bytes ++ t.byte ∷ []))) t.more) refl
  where
    first : read_within (record q { begun = opcode ∷ bytes }) t.byte ≡ gathered (Some t.more) (opcode ∷ (bytes ++ t.byte ∷ [])) (record q { begun = opcode ∷ bytes })
    first = within-goes q opcode bytes t.byte t.more t.may t.wants

    by : (b : Bool) → nat_le (suc (length (bytes ++ t.byte ∷ []))) t.more ≡ b → Goes (record q { begun = opcode ∷ bytes }) t.byte
    by true fits = record {
      behind = record q { begun = opcode ∷ (bytes ++ t.byte ∷ []) };
      is = first
          ∙ (λ i. cond {A = Option PageReader} (fits i) (cond {A = Option PageReader} (near i) (Some (record q { begun = opcode ∷ (bytes ++ t.byte ∷ []) })) None) (carried_near opcode (bytes ++ t.byte ∷ []) (record q { begun = [] })));
    }
    by false past =
        let c = t.carries (leb-false (suc (length (bytes ++ t.byte ∷ []))) t.more past) in
        record {
          behind = c.0;
          is = first
              ∙ (λ i. cond {A = Option PageReader} (past i) (kept_near (Some (record q { begun = opcode ∷ (bytes ++ t.byte ∷ []) }))) (carried_near opcode (bytes ++ t.byte ∷ []) (record q { begun = [] })))
              ∙ near-carried opcode (bytes ++ t.byte ∷ []) (record q { begun = [] }) c.0 c.1 c.2;
        }

-- a command that is begun comes to its end, byte by byte
part-step : (left place : ℕ) (r : Reader) → ((next : Reader) → Stands Command next → whole_size next.page.begun ≤ length next.page.begun + left → CanEnd (place + 1) next)
    → (opcode : ℕ) (bytes : List ℕ) → Stands Command (at_byte r (opcode ∷ bytes)) → whole_size (opcode ∷ bytes) ≤ suc (length bytes) + suc left → CanEnd place (at_byte r (opcode ∷ bytes))
part-step left place r others opcode bytes s size =
    one-before place (at_byte r (opcode ∷ bytes)) (next-reader (at_byte r (opcode ∷ bytes)) t.byte g.behind) t.byte t.small (byte-goes place (at_byte r (opcode ∷ bytes)) g.behind t.byte s.is g.is)
    (others (next-reader (at_byte r (opcode ∷ bytes)) t.byte g.behind) stands (sized n.begun))
  where
    here : InPage (record r.page { begun = opcode ∷ bytes })
    here = s.here

    t : Progress r.page opcode bytes
    t = progress r.page opcode bytes here

    g : Goes (record r.page { begun = opcode ∷ bytes }) t.byte
    g = goes r.page opcode bytes here.near t

    n : Next (record r.page { begun = opcode ∷ bytes }) g.behind t.byte
    n = page-next (record r.page { begun = opcode ∷ bytes }) g.behind t.byte here t.small g.is

    stands : Stands Command (next-reader (at_byte r (opcode ∷ bytes)) t.byte g.behind)
    stands = record {
      is = s.is;
      four = s.four;
      pointer = s.pointer;
      definitions = definitions-on (opcode ∷ (bytes ++ t.byte ∷ [])) r.definitions (bytes-append (opcode ∷ bytes) (t.byte ∷ []) here.begun (t.small, tt)) s.definitions;
      known = n.page.known;
      here = n.page;
    }

    sized : (g.behind.begun ≡ (opcode ∷ bytes) ++ t.byte ∷ []) ⊎ (g.behind.begun ≡ []) → whole_size g.behind.begun ≤ length g.behind.begun + left
    sized (inl e) =
        let one : length (bytes ++ t.byte ∷ []) ≡ length bytes + 1 = length_push bytes t.byte in
        let same : whole_size (opcode ∷ (bytes ++ t.byte ∷ [])) ≡ whole_size (opcode ∷ bytes) = t.same in
        let there : whole_size (opcode ∷ (bytes ++ t.byte ∷ [])) ≤ suc (length (bytes ++ t.byte ∷ [])) + left = omega (arith, one, same, size) in
        subst (λ (b : List ℕ). whole_size b ≤ length b + left) (sym e) there
    sized (inr e) =
        let there : 0 ≤ 0 + left = omega arith in
        subst (λ (b : List ℕ). whole_size b ≤ length b + left) (sym e) there

begun-can : (left place : ℕ) (r : Reader) → Stands Command r → ((opcode : ℕ) (bytes : List ℕ) → Stands Command (at_byte r (opcode ∷ bytes)) → whole_size (opcode ∷ bytes) ≤ suc (length bytes) + left → CanEnd place (at_byte r (opcode ∷ bytes)))
    → (begun : List ℕ) → r.page.begun ≡ begun → whole_size r.page.begun ≤ length r.page.begun + left → CanEnd place r
begun-can left place r s part [] e size = level-can r.page.stack place r s.is (ap (λ (b : List ℕ). length b) e) refl s.here.stack s.four s.pointer s.definitions
begun-can left place r s part (opcode ∷ bytes) e size =
    subst (λ (b : List ℕ). CanEnd place (at_byte r b)) (sym e)
    (part opcode bytes (subst (λ (b : List ℕ). Stands Command (at_byte r b)) e s) (subst (λ (b : List ℕ). whole_size b ≤ length b + left) e size))

command-can : (left place : ℕ) (r : Reader) → Stands Command r → whole_size r.page.begun ≤ length r.page.begun + left → CanEnd place r
command-can zero place r s size = begun-can zero place r s none r.page.begun refl size
  where
    none : (opcode : ℕ) (bytes : List ℕ) → Stands Command (at_byte r (opcode ∷ bytes)) → whole_size (opcode ∷ bytes) ≤ suc (length bytes) + 0 → CanEnd place (at_byte r (opcode ∷ bytes))
    none opcode bytes begun few =
        let here : InPage (record r.page { begun = opcode ∷ bytes }) = begun.here in
        let t : Progress r.page opcode bytes = progress r.page opcode bytes here in
        let room : suc (length bytes) < whole_size (opcode ∷ bytes) = t.room in
        absurd (omega (arith, few, room))
command-can (suc left) place r s size = begun-can (suc left) place r s (part-step left place r (λ next stands more. command-can left (place + 1) next stands more)) r.page.begun refl size

-- wherever it stands
can-end : (place : ℕ) (r : Reader) (e : DviRule) → Stands e r → CanEnd place r
can-end place r File s = absurd s.here
can-end place r Preamble s =
    let less : length r.page.begun < 15 + get_or r.page.begun 14 0 = s.here.0 in
    preamble-can (15 + get_or r.page.begun 14 0 - length r.page.begun) place r s.is s.here (omega (arith, less)) s.four s.pointer s.definitions
can-end place r Page s =
    let less : length r.page.begun < 45 = s.here in
    page-can (44 - length r.page.begun) place r s.is (omega (arith, less)) s.four s.pointer s.definitions
can-end place r Command s = command-can (whole_size r.page.begun) place r s (omega arith)
can-end place r Postamble s =
    let less : length r.page.begun < length r.expected = s.here.1 in
    post-can (length r.expected - length r.page.begun - 1) place r s.is s.here.0 (omega (arith, less))
can-end place r End s =
    let less : length r.page.begun ≤ length r.expected = s.here.1 in
    end-can (length r.expected - length r.page.begun) place r s.is s.here.0 (omega (arith, less))

-- the bytes before the refused one, with others behind them, are read to the end
record Reached (place : ℕ) (r : Reader) (bytes : List ℕ) (broken : Broken) : Type 0 where
  left : ℕ
  there : broken.place ≡ place + left
  within : left ≤ length bytes
  more : List ℕ
  are : AreBytes more
  pages : List ReadPage
  ends : rest_read place r (take left bytes ++ more) ≡ Ok pages

here-reached : (place : ℕ) (r : Reader) (bytes : List ℕ) (broken : Broken) → StandsSomewhere r → place ≡ broken.place → Reached place r bytes broken
here-reached place r bytes broken s same =
    let end : CanEnd place r = can-end place r s.element s.stands in
    record {
      left = 0;
      there = sym same ∙ sym (add-zero place);
      within = omega arith;
      more = end.more;
      are = end.are;
      pages = end.pages;
      ends = end.ends;
    }

abbrev is_read : Read → Bool
is_read (Ok pages) = true
is_read (Err broken) = false

reached : (place : ℕ) (r : Reader) (bytes : List ℕ) (broken : Broken) → StandsSomewhere r → AreBytes bytes → rest_read place r bytes ≡ Err broken → Reached place r bytes broken
reached place r [] broken s are e = by (is_done r) e
  where
    by : (b : Bool) → cond {A = Read} b (Ok r.pages) (Err (stopped place r)) ≡ Err broken → Reached place r [] broken
    by true f = absurd (true≢false (ap is_read f))
    by false f = here-reached place r [] broken s (ap (place_or place) f)
reached place r (byte ∷ bytes) broken s are e = by (λ next stands f. reached (place + 1) next bytes broken stands are.1 f) (taken place r byte) refl e
  where
    by : ((next : Reader) → StandsSomewhere next → rest_read (place + 1) next bytes ≡ Err broken → Reached (place + 1) next bytes broken)
        → (o : Option Reader) → taken place r byte ≡ o → going_on place r o (λ next. rest_read (place + 1) next bytes) ≡ Err broken → Reached place r (byte ∷ bytes) broken
    by others None is f = here-reached place r (byte ∷ bytes) broken s (ap (place_or place) f)
    by others (Some next) is f =
        let later : Reached (place + 1) next bytes broken = others next (stands-on r next byte are.0 place s is) f in
        let count : (place + 1) + later.left ≡ place + suc later.left = omega arith in
        record {
          left = suc later.left;
          there = later.there ∙ count;
          within = omega (arith, later.within);
          more = later.more;
          are = later.are;
          pages = later.pages;
          ends = take-one place r next byte (take later.left bytes ++ later.more) is ∙ later.ends;
        }

bytes-take : (n : ℕ) (bytes : List ℕ) → AreBytes bytes → AreBytes (take n bytes)
bytes-take zero bytes are = tt
bytes-take (suc n) [] are = tt
bytes-take (suc n) (byte ∷ bytes) are = (are.0, bytes-take n bytes are.1)

read-refused : {P : Type 0} (pages : List ReadPage) (broken : Broken) (read : Read) → read ≡ Ok pages → read ≡ Err broken → P
read-refused pages broken read is err = absurd (true≢false (sym (ap is_read is) ∙ ap is_read err))

pub furthest : (bytes : List ℕ) (broken : Broken) → AreBytes bytes → dvi_file bytes ≡ Err broken → IsFurthest bytes broken.place
furthest bytes broken are refused = record {
  within = omega (arith, at, t.within);
  begins = (t.more, (t.pages, sound (take broken.place bytes ++ t.more) t.pages (bytes-append (take broken.place bytes) t.more (bytes-take broken.place bytes are) t.are) ((λ i. dvi_file (take (at i) bytes ++ t.more)) ∙ t.ends)));
  no_further = no-longer;
}
  where
    t : Reached 0 at_start bytes broken
    t = reached 0 at_start bytes broken stands-at-start are refused

    at : broken.place ≡ t.left
    at = t.there ∙ zero-add t.left

    no-longer : (longer : ℕ) → broken.place < longer → longer ≤ length bytes → BeginsFile (take longer bytes) → ⊥
    no-longer longer past fits begins =
        let file : List ℕ = take longer bytes ++ begins.0 in
        let long : length (take longer bytes) ≡ longer = length-take-le longer bytes fits in
        let front : take (suc broken.place) file ≡ take (suc broken.place) bytes
        = take-append-le (suc broken.place) (take longer bytes) begins.0 (omega (arith, past, long)) ∙ take-take (suc broken.place) longer bytes past in
        read-refused begins.1.0 broken (dvi_file file) (complete file begins.1.0 begins.1.1) (refused-so bytes file broken refused (omega (arith, past, fits)) front)

-- where the reader is at a refusal
record Stopped (place : ℕ) (r : Reader) (bytes : List ℕ) (broken : Broken) : Type 0 where
  left : ℕ
  there : broken.place ≡ place + left
  within : left ≤ length bytes
  reader : Reader
  reaches : Reaches place r (take left bytes) reader
  rule : reader.element ≡ broken.rule

abbrev rule_or : DviRule → Read → DviRule
rule_or rule (Ok pages) = rule
rule_or rule (Err broken) = broken.rule

stopped-here : (place : ℕ) (r : Reader) (bytes : List ℕ) (broken : Broken) → ◌≡◌ {A = Read} (Err (stopped place r)) (Err broken) → Stopped place r bytes broken
stopped-here place r bytes broken e =
    let same : place ≡ broken.place = ap (place_or place) e in
    record { left = 0; there = sym same ∙ sym (add-zero place); within = omega arith; reader = r; reaches = refl; rule = ap (rule_or r.element) e }

stopped-at : (place : ℕ) (r : Reader) (bytes : List ℕ) (broken : Broken) → rest_read place r bytes ≡ Err broken → Stopped place r bytes broken
stopped-at place r [] broken e = by (is_done r) e
  where
    by : (b : Bool) → cond {A = Read} b (Ok r.pages) (Err (stopped place r)) ≡ Err broken → Stopped place r [] broken
    by true f = read-refused r.pages broken (Ok r.pages) refl f
    by false f = stopped-here place r [] broken f
stopped-at place r (byte ∷ bytes) broken e = by (λ next f. stopped-at (place + 1) next bytes broken f) (taken place r byte) refl e
  where
    by : ((next : Reader) → rest_read (place + 1) next bytes ≡ Err broken → Stopped (place + 1) next bytes broken)
        → (o : Option Reader) → taken place r byte ≡ o → going_on place r o (λ next. rest_read (place + 1) next bytes) ≡ Err broken → Stopped place r (byte ∷ bytes) broken
    by others None is f = stopped-here place r (byte ∷ bytes) broken f
    by others (Some next) is f =
        let later : Stopped (place + 1) next bytes broken = others next f in
        let count : (place + 1) + later.left ≡ place + suc later.left = omega arith in
        record { left = suc later.left; there = later.there ∙ count; within = omega (arith, later.within); reader = later.reader; reaches = (next, is, later.reaches); rule = later.rule }

next-rule : (bytes : List ℕ) (broken : Broken) → dvi_file bytes ≡ Err broken → IsNextRule (take broken.place bytes) broken.rule
next-rule bytes broken refused file pages next more is =
    let t : Stopped 0 at_start bytes broken = stopped-at 0 at_start bytes broken refused in
    let at : broken.place ≡ t.left = t.there ∙ zero-add t.left in
    let s : Ended 0 at_start (take broken.place bytes ++ next ∷ more) (rules_of (elements file)) pages = file-ends (take broken.place bytes ++ next ∷ more) file pages is in
    rule-there 0 at_start s.final t.reader (take broken.place bytes) more next (take broken.place bytes ++ next ∷ more) (rules_of (elements file)) s.steps refl
    (subst (λ (n : ℕ). Reaches 0 at_start (take n bytes) t.reader) (sym at) t.reaches)
    ∙ (λ i. Some (t.rule i))

-- nothing may follow a whole file
last-is : (rule : DviRule) → is_last rule ≡ true → rule ≡ End
last-is File e = absurd (true≢false (sym e))
last-is Preamble e = absurd (true≢false (sym e))
last-is Page e = absurd (true≢false (sym e))
last-is Command e = absurd (true≢false (sym e))
last-is Postamble e = absurd (true≢false (sym e))
last-is End e = refl

whole-rule : (bytes : List ℕ) (broken : Broken) → dvi_file bytes ≡ Err broken → (pages : List ReadPage) → IsDviFile (take broken.place bytes) pages → broken.rule ≡ End
whole-rule bytes broken refused pages is =
    let t : Stopped 0 at_start bytes broken = stopped-at 0 at_start bytes broken refused in
    let at : broken.place ≡ t.left = t.there ∙ zero-add t.left in
    let s : Ended 0 at_start (take broken.place bytes) (rules_of (elements is.0)) pages = file-ends (take broken.place bytes) is.0 pages is.1 in
    let same : s.final ≡ t.reader = same-end 0 at_start s.final t.reader (take broken.place bytes) (rules_of (elements is.0)) s.steps (subst (λ (n : ℕ). Reaches 0 at_start (take n bytes) t.reader) (sym at) t.reaches) in
    let done : is_last s.final.element ≡ true = (and_parts (is_last s.final.element) (length s.final.page.begun == length s.final.expected) s.done).0 in
    sym t.rule ∙ ap (λ (r : Reader). r.element) (sym same) ∙ last-is s.final.element done

-- why bytes are refused
pub refusal : (bytes : List ℕ) (broken : Broken) → AreBytes bytes → dvi_file bytes ≡ Err broken → IsRefusal bytes broken.place broken.rule
refusal bytes broken are refused = record {
  none = λ pages is. read-refused pages broken (dvi_file bytes) (complete bytes pages is) refused;
  furthest = furthest bytes broken are refused;
  next = next-rule bytes broken refused;
  whole = whole-rule bytes broken refused;
}

-- the cause of a refusal
pub no-file : (bytes : List ℕ) (e : DviError) → AreBytes bytes → IsCause (dvi_file bytes) e → IsNoFile bytes e
no-file bytes (BadDvi place rule) are is = refusal bytes (record { place = place; rule = rule }) are is
no-file bytes OutOfMemory are is = tt
