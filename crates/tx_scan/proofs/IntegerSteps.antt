-- Steps of the scan of an integer.
use Rattle.std.proofs.Common.{◌≡◌, ◌≤◌, ℕ, zero, suc, ◌∷◌, [], Bool, true, false, ℤ, pos, List, length, Option, Some, None, refl, sym, ◌∙◌, ap, lit≤, arith}
use Rattle.tx_prim.specs.declared.family.Numbered.{Numbered}
use Rattle.tx_seen.specs.declared.seen.Seen.{Seen}
use Rattle.tx_seen.specs.declared.fed.Value.{Value}
use Rattle.tx_seen.specs.declared.item.Item.{Item}
use Rattle.tx_seen.specs.declared.fed.Fed.{Fed}
use Rattle.tx_seen.specs.declared.fed.Fed.TheVariants as fed
use Rattle.tx_seen.specs.declared.fed.Kind.TheVariants.{Quantity}
use Rattle.tx_seen.specs.declared.fed.Want.{Want}
use Rattle.tx_seen.specs.declared.error.TexError.{TexError}
use Rattle.tx_seen.specs.declared.place.FontName.{FontName}
use Rattle.tx_seen.specs.declared.place.Place.{Place}
use Rattle.tx_seen.specs.Seen.{font_name, is_space, is_undefined}
use Rattle.tx_seen.specs.declared.item.Item.TheVariants.{Took, Gave}
use Rattle.tx_seen.specs.Readings.{Reading, More, Done, next}
use Rattle.tx_scan.specs.declared.scans.Counted.{Counted}
use Rattle.tx_scan.specs.declared.scans.Counted.TheVariants as counts
use Rattle.tx_scan.specs.declared.scans.FontScan.{FontScan}
use Rattle.tx_scan.specs.declared.scans.FontSought.{FontSought}
use Rattle.tx_scan.specs.declared.scans.FontSought.TheVariants as sought
use Rattle.tx_scan.specs.declared.scans.Outer.{Outer}
use Rattle.tx_scan.specs.declared.scans.Beginning.TheVariants as begin
use Rattle.tx_scan.specs.declared.scans.IntScan.{IntScan}
use Rattle.tx_scan.specs.declared.scans.IntStage.TheVariants.{Signs, Font, Given}
use Rattle.tx_scan.specs.Beginnings.{beginning}
use Rattle.tx_scan.specs.FontNames.{font, font_behind, font_held, parameter_number, place_of_font, stand_in, told_items}
use Rattle.tx_scan.specs.GrammarRests.{IsFontFed}
use Rattle.tx_scan.specs.Integers.{byte_of, counted, font_number, numbered, of_font, whole, whole_by, with_sign, ended_by, signed_constant, given}
use Rattle.tx_scan.specs.Rests.{IsAnswer, IsPassed}
use Rattle.tx_scan.specs.IntegerRests.{rest, held, most, awaits_kind, awaits_font, behind_of, held_of, IsFed, IsFontNeeded, IsGiven, IsWhole, IsEnded}
use Rattle.tx_scan.proofs.Answering.{passed-answer, passed-none, same-answer, same-passed}

-- what follows alike reads on alike
same-next : {A B : Type 0} (r : Reading A) (f g : A → List Item → Reading B) → ((a : A) (rest : List Item) → f a rest ≡ g a rest) → next r f ≡ next r g
same-next (Reading.More want) f g same = refl
same-next (Reading.Need kind) f g same = refl
same-next (Reading.Done a rest) f g same = same a rest
same-next (Reading.Wrong e) f g same = refl

-- a number that no token ended: no font is told yet
same-none-by : (kind : Counted) (negative : Bool) (outers : List Outer) (tells : Option FontName) (n : ℤ) (rest : List Item) → ((m : ℤ) (rest : List Item) → whole outers m [] rest ≡ whole_by (font_held tells) outers m [] rest) → counted font_behind kind n [] rest (λ value behind rest. whole_by font_behind outers (with_sign negative value) behind rest) ≡ counted (font_held tells) kind n [] rest (λ value behind rest. whole_by (font_held tells) outers (with_sign negative value) behind rest)
same-none-by (counts.Numbered kind) negative outers tells n rest later =
    same-next (numbered kind (byte_of n) rest) (λ value rest. whole_by font_behind outers (with_sign negative value) [] rest) (λ value rest. whole_by (font_held tells) outers (with_sign negative value) [] rest)
    (λ value rest. later (with_sign negative value) rest)
same-none-by counts.FontDimen negative outers tells n rest later =
    same-next (of_font (sought.Dimen (parameter_number n)) (font_behind [] rest)) (λ value rest. whole_by font_behind outers (with_sign negative value) [] rest) (λ value rest. whole_by (font_held tells) outers (with_sign negative value) [] rest)
    (λ value rest. later (with_sign negative value) rest)

same-none : (tells : Option FontName) (outers : List Outer) (n : ℤ) (rest : List Item) → whole outers n [] rest ≡ whole_by (font_held tells) outers n [] rest
same-none tells [] n rest = refl
same-none tells (outer ∷ outers) n rest = same-none-by outer.kind outer.negative outers tells n rest (same-none tells outers)

-- a token that ended a number tells a font, or stays behind
same-held-by : (kind : Counted) (negative : Bool) (outers : List Outer) (t : Seen) (n : ℤ) (rest : List Item) → is_undefined t ≡ false → is_space t ≡ false → ((m : ℤ) (rest : List Item) → whole outers m (Took t ∷ []) rest ≡ whole_by (font_held (font_name t)) outers m (Took t ∷ []) rest) → counted font_behind kind n (Took t ∷ []) rest (λ value behind rest. whole_by font_behind outers (with_sign negative value) behind rest) ≡ counted (font_held (font_name t)) kind n (Took t ∷ []) rest (λ value behind rest. whole_by (font_held (font_name t)) outers (with_sign negative value) behind rest)
same-held-by (counts.Numbered kind) negative outers t n rest u s later =
    same-next (numbered kind (byte_of n) rest) (λ value rest. whole_by font_behind outers (with_sign negative value) (Took t ∷ []) rest) (λ value rest. whole_by (font_held (font_name t)) outers (with_sign negative value) (Took t ∷ []) rest)
    (λ value rest. later (with_sign negative value) rest)
same-held-by counts.FontDimen negative outers t n rest u s later =
    let told : font_behind (Took t ∷ []) rest ≡ font_held (font_name t) (Took t ∷ []) rest = rw (u, s) refl in
    ap (λ r. next (of_font (sought.Dimen (parameter_number n)) r) (λ value rest. whole_by font_behind outers (with_sign negative value) [] rest)) told
    ∙ same-next (of_font (sought.Dimen (parameter_number n)) (font_held (font_name t) (Took t ∷ []) rest)) (λ value rest. whole_by font_behind outers (with_sign negative value) [] rest) (λ value rest. whole_by (font_held (font_name t)) outers (with_sign negative value) [] rest)
    (λ value rest. same-none (font_name t) outers (with_sign negative value) rest)

same-held : (t : Seen) (outers : List Outer) (n : ℤ) (rest : List Item) → is_undefined t ≡ false → is_space t ≡ false → whole outers n (Took t ∷ []) rest ≡ whole_by (font_held (font_name t)) outers n (Took t ∷ []) rest
same-held t [] n rest u s = refl
same-held t (outer ∷ outers) n rest u s = same-held-by outer.kind outer.negative outers t n rest u s (λ m rest. same-held t outers m rest u s)

-- where a font is needed behind it, all tokens that tell the same font do the same
same-told-by : (kind : Counted) (negative : Bool) (outers : List Outer) (tells : Option FontName) (i j : Item) (n : ℤ) (rest : List Item) → awaits_kind kind (awaits_font outers) ≡ true → (awaits_font outers ≡ true → (m : ℤ) (rest : List Item) → whole_by (font_held tells) outers m (i ∷ []) rest ≡ whole_by (font_held tells) outers m (j ∷ []) rest) → counted (font_held tells) kind n (i ∷ []) rest (λ value behind rest. whole_by (font_held tells) outers (with_sign negative value) behind rest) ≡ counted (font_held tells) kind n (j ∷ []) rest (λ value behind rest. whole_by (font_held tells) outers (with_sign negative value) behind rest)
same-told-by (counts.Numbered kind) negative outers tells i j n rest w later =
    same-next (numbered kind (byte_of n) rest) (λ value rest. whole_by (font_held tells) outers (with_sign negative value) (i ∷ []) rest) (λ value rest. whole_by (font_held tells) outers (with_sign negative value) (j ∷ []) rest)
    (λ value rest. later w (with_sign negative value) rest)
same-told-by counts.FontDimen negative outers tells i j n rest w later = refl

same-told : (tells : Option FontName) (i j : Item) (outers : List Outer) (n : ℤ) (rest : List Item) → awaits_font outers ≡ true → whole_by (font_held tells) outers n (i ∷ []) rest ≡ whole_by (font_held tells) outers n (j ∷ []) rest
same-told tells i j [] n rest w = absurd (cc)
same-told tells i j (outer ∷ outers) n rest w = same-told-by outer.kind outer.negative outers tells i j n rest w (λ w m rest. same-told tells i j outers m rest w)

-- no token is needed behind one that is held
never-numbered : (kind : Numbered) (o : Option ℕ) (want : Want) (on : ℤ → List Item → Reading ℤ) → next (numbered kind o []) on ≡ More want → ⊥
never-numbered kind None want on h = cc
never-numbered kind (Some n) want on h = cc

never-counted : (kind : Counted) (tells : Option FontName) (n : ℤ) (i : Item) (want : Want) (on : ℤ → List Item → List Item → Reading ℤ) → counted (font_held tells) kind n (i ∷ []) [] on ≡ More want → ⊥
never-counted (counts.Numbered kind) tells n i want on h = never-numbered kind (byte_of n) want (λ value rest. on value (i ∷ []) rest) h
never-counted counts.FontDimen None n i want on h = cc
never-counted counts.FontDimen (Some f) n i want on h = cc

never-held : (tells : Option FontName) (outers : List Outer) (n : ℤ) (i : Item) (want : Want) → whole_by (font_held tells) outers n (i ∷ []) [] ≡ More want → ⊥
never-held tells [] n i want h = cc
never-held tells (outer ∷ outers) n i want h = never-counted outer.kind tells n i want (λ value behind rest. whole_by (font_held tells) outers (with_sign outer.negative value) behind rest) h

behind-zero : (b : Bool) (tells : Option FontName) → behind_of b 0 tells [] ≡ []
behind-zero true tells = refl
behind-zero false tells = refl

held-true : (count : ℕ) → held_of count true ≡ 0
held-true zero = refl
held-true (suc n) = refl

-- a value is the number that was needed
pub value-given : (old new : IntScan) (v : Value) (n m : ℤ) (count : ℕ) (answer : Fed ℤ) → old.stage ≡ Given count → ((more : List Item) → given (Gave v) more ≡ Done n more) → m ≡ with_sign old.negative n → IsWhole old.outers old.behind m count new answer → IsGiven old v new answer
value-given old new v n m count answer s k e h = λ behind short.
    same-passed rest held (λ more. rest old behind (Gave v) more) (λ more. whole_by (font_held old.behind) old.outers m (behind_of (awaits_font old.outers) count old.behind behind) more) behind (held old) (held_of count (awaits_font old.outers)) new answer
    (λ more. rw (s, k more, e) refl) (rw s refl) (h behind (rw s at short))

-- it is the number of a parameter of a font
font-passed : (negative : Bool) (outers : List Outer) (tells : Option FontName) (n : ℤ) (count : ℕ) (new : IntScan) (answer : Fed ℤ) (behind : List Item) → IsFontNeeded outers negative (sought.Dimen (parameter_number n)) tells count new answer → length behind ≤ held_of count true → IsPassed rest held (λ more. whole_by (font_held tells) (record { negative = negative; kind = counts.FontDimen } ∷ outers) n (told_items count tells) more) behind (held_of count true) new answer
font-passed negative outers tells n count new answer [] k short =
    same-passed rest held (λ more. whole_by (font_held tells) (record { negative = negative; kind = counts.FontDimen } ∷ outers) n (told_items count tells) more) (λ more. font_number outers negative (sought.Dimen (parameter_number n)) tells (told_items count tells) more) [] (held_of count true) 0 new answer
    (λ more. same-next (of_font (sought.Dimen (parameter_number n)) (font_held tells (told_items count tells) more)) (λ value rest. whole_by (font_held tells) outers (with_sign negative value) [] rest) (λ value rest. whole outers (with_sign negative value) [] rest) (λ value rest. sym (same-none tells outers (with_sign negative value) rest)))
    (held-true count) k
font-passed negative outers tells n count new answer (i ∷ behind) k short = let none : held_of count true ≡ 0 = held-true count in absurd (omega (arith, short, none))

whole-parameter : (negative : Bool) (outers : List Outer) (tells : Option FontName) (n : ℤ) (count : ℕ) (new : IntScan) (answer : Fed ℤ) → IsFontNeeded outers negative (sought.Dimen (parameter_number n)) tells count new answer → IsWhole (record { negative = negative; kind = counts.FontDimen } ∷ outers) tells n count new answer
whole-parameter negative outers tells n count new answer k = λ behind short. font-passed negative outers tells n count new answer behind k short

pub whole-font : (outer : Outer) (outers all : List Outer) (tells : Option FontName) (n : ℤ) (parameter count : ℕ) (new : IntScan) (answer : Fed ℤ) → all ≡ outer ∷ outers → outer.kind ≡ counts.FontDimen → parameter ≡ parameter_number n → IsFontNeeded outers outer.negative (sought.Dimen parameter) tells count new answer → IsWhole all tells n count new answer
whole-font outer outers all tells n parameter count new answer e kind p k =
    let waits : outer ≡ record { negative = outer.negative; kind = counts.FontDimen } = ap (λ (kind : Counted). record outer { kind = kind }) kind in
    let is : all ≡ record { negative = outer.negative; kind = counts.FontDimen } ∷ outers = e ∙ ap (λ (first : Outer). first ∷ outers) waits in
    rw is (whole-parameter outer.negative outers tells n count new answer (rw p at k))

-- the font that is needed, token by token
abbrev on_font : IntScan → ℤ → List Item → Reading ℤ
on_font old = λ n rest. whole old.outers (with_sign old.negative n) [] rest

pub font-more : (old : IntScan) (what : FontSought) (t : Seen) (scan : FontScan) (want : Want) → old.stage ≡ Font what → IsFontFed scan t (fed.More want) → IsFed old t old (fed.More want)
font-more old what t scan want s k = λ behind. rw s (
  ap (λ r. next (of_font what r) (on_font old)) (k []).0,
  refl,
  λ item more. ap (λ r. next (of_font what r) (on_font old)) ((k []).2 item more),
)

pub font-done : (old new : IntScan) (what : FontSought) (t : Seen) (scan : FontScan) (f : FontName) (back : ℕ) → old.stage ≡ Font what → IsFontFed scan t (fed.Done f back) → new ≡ record old { stage = Given 0 } → IsFed old t new (fed.Need (Quantity (place_of_font what f)))
font-done old new what t scan f back s k e = λ behind.
    let few : back ≤ 0 = (k []).0 in
    let none : back ≡ 0 = omega (arith, few) in
    let stands : (more : List Item) → font (Took t ∷ more) ≡ Done f more = λ more. rw none at ((k []).1 more) in
    rw (s, e) (
      ap (λ r. next (of_font what r) (on_font old)) (stands []),
      omega arith,
      λ item more.
          ap (λ r. next (of_font what r) (on_font old)) (stands (item ∷ more))
          ∙ rw (behind-zero (awaits_font old.outers) old.behind)
          (same-next (given item more) (on_font old) (λ n rest. whole_by (font_held old.behind) old.outers (with_sign old.negative n) [] rest) (λ n rest. same-none old.behind old.outers (with_sign old.negative n) rest)),
    )

-- a place of which the value is needed
pub at-place : (old new : IntScan) (t : Seen) (place : Place) → old.stage ≡ Signs → beginning t ≡ begin.At place → new ≡ record old { stage = Given 0 } → IsFed old t new (fed.Need (Quantity place))
at-place old new t place s b e = λ behind. rw (s, b, e) (
  refl,
  omega arith,
  λ item more.
      rw (behind-zero (awaits_font old.outers) old.behind)
      (same-next (given item more) (on_font old) (λ n rest. whole_by (font_held old.behind) old.outers (with_sign old.negative n) [] rest) (λ n rest. same-none old.behind old.outers (with_sign old.negative n) rest)),
)

pub font-wrong : (old new : IntScan) (what : FontSought) (t : Seen) (scan : FontScan) (error : TexError) → old.stage ≡ Font what → IsFontFed scan t (fed.Wrong error) → IsFed old t new (fed.Wrong error)
font-wrong old new what t scan error s k = λ behind more. rw s (ap (λ r. next (of_font what r) (on_font old)) (k [] more))

-- a font that the token told which ended the number
pub font-told : (old new : IntScan) (what : FontSought) (f : FontName) (count : ℕ) → (count ≡ 0 → ⊥) → old.behind ≡ Some f → new ≡ record old { stage = Given 0 } → IsFontNeeded old.outers old.negative what old.behind count new (fed.Need (Quantity (place_of_font what f)))
font-told old new what f zero some b e = absurd (some refl)
font-told old new what f (suc n) some b e = rw (e, b, behind-zero (awaits_font old.outers) (Some f)) (
  refl,
  refl,
  λ item more. same-next (given item more) (on_font old) (λ n rest. whole_by (font_held (Some f)) old.outers (with_sign old.negative n) [] rest) (λ n rest. same-none (Some f) old.outers (with_sign old.negative n) rest),
)

-- a number that no token ended
none-whole : (outers : List Outer) (tells : Option FontName) (m : ℤ) (most : ℕ) (t : Seen) (new : IntScan) (answer : Fed ℤ) → IsWhole outers tells m 0 new answer → IsAnswer rest held most (λ more. whole_by (font_held tells) outers m [] more) t new answer
none-whole outers tells m most t new answer k =
    passed-none rest held most (λ more. whole_by (font_held tells) outers m [] more) t new answer (rw (behind-zero (awaits_font outers) tells) at (k [] (omega arith)))

-- a name that is a number
pub named-number : (old new : IntScan) (t : Seen) (n : ℕ) (m : ℤ) (answer : Fed ℤ) → old.stage ≡ Signs → beginning t ≡ begin.Number n → IsWhole old.outers old.behind m 0 new answer → m ≡ with_sign old.negative (pos n) → IsFed old t new answer
named-number old new t n m answer s b k f = λ behind.
    same-answer rest held (most old) (λ more. rest old behind (Took t) more) (λ more. whole_by (font_held old.behind) old.outers m [] more) t new answer
    (λ more. rw (s, b, f) (same-none old.behind old.outers (with_sign old.negative (pos n)) more))
    (none-whole old.outers old.behind m (most old) t new answer k)

-- a constant that a space ends, and one that another token ends
pub ended-space : (outers : List Outer) (tells : Option FontName) (negative : Bool) (n : ℕ) (m : ℤ) (t : Seen) (new : IntScan) (answer : Fed ℤ) → is_undefined t ≡ false → is_space t ≡ true → IsWhole outers tells m 0 new answer → m ≡ with_sign negative (pos n) → IsEnded outers negative n t new answer
ended-space outers tells negative n m t new answer u s k f =
    same-answer rest held 1 (λ more. next (ended_by n t more) (signed_constant outers negative)) (λ more. whole_by (font_held tells) outers m [] more) t new answer
    (λ more. rw (u, s, f) (same-none tells outers (with_sign negative (pos n)) more))
    (none-whole outers tells m 1 t new answer k)

one-whole : (w : Bool) (outers : List Outer) (t : Seen) (m : ℤ) (new : IntScan) (answer : Fed ℤ) → awaits_font outers ≡ w → IsWhole outers (font_name t) m 1 new answer → IsAnswer rest held 1 (λ more. whole_by (font_held (font_name t)) outers m (Took t ∷ []) more) t new answer
one-whole true outers t m new answer w k =
    same-answer rest held 1 (λ more. whole_by (font_held (font_name t)) outers m (Took t ∷ []) more) (λ more. whole_by (font_held (font_name t)) outers m (Took (stand_in (font_name t)) ∷ []) more) t new answer
    (λ more. same-told (font_name t) (Took t) (Took (stand_in (font_name t))) outers m more w)
    (passed-none rest held 1 (λ more. whole_by (font_held (font_name t)) outers m (Took (stand_in (font_name t)) ∷ []) more) t new answer (rw w at (k [] (omega arith))))
one-whole false outers t m new answer w k =
    passed-answer rest held 1 (λ more. whole_by (font_held (font_name t)) outers m (Took t ∷ []) more) t 1 new answer (lit≤ tt)
    (never-held (font_name t) outers m (Took t))
    (rw w at (k (Took t ∷ []) (rw w (omega arith))))

pub ended-other : (outers : List Outer) (tells : Option FontName) (negative : Bool) (n : ℕ) (m : ℤ) (t : Seen) (new : IntScan) (answer : Fed ℤ) → is_undefined t ≡ false → is_space t ≡ false → tells ≡ font_name t → IsWhole outers tells m 1 new answer → m ≡ with_sign negative (pos n) → IsEnded outers negative n t new answer
ended-other outers tells negative n m t new answer u s e k f =
    same-answer rest held 1 (λ more. next (ended_by n t more) (signed_constant outers negative)) (λ more. whole_by (font_held (font_name t)) outers m (Took t ∷ []) more) t new answer
    (λ more. rw (u, s, f) (same-held t outers (with_sign negative (pos n)) more u s))
    (one-whole (awaits_font outers) outers t m new answer refl (rw e at k))
