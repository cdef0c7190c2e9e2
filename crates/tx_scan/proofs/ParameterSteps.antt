-- A parameter of a font, token by token: its number, and then the font, which the token may tell that ended the number.
use Rattle.std.proofs.Common.{◌≡◌, ◌≤◌, ◌+◌, ℕ, zero, suc, ℤ, Bool, true, false, List, length, [], ◌∷◌, ◌++◌, Option, Some, None, refl, ap, sym, ◌∙◌, arith}
use Rattle.tx_seen.specs.declared.fed.Fed.{Fed}
use Rattle.tx_seen.specs.declared.fed.Fed.TheVariants as fed
use Rattle.tx_seen.specs.declared.fed.Value.{Value}
use Rattle.tx_seen.specs.declared.item.Item.{Item}
use Rattle.tx_seen.specs.declared.item.Item.TheVariants.{Took, Gave}
use Rattle.tx_seen.specs.declared.place.FontName.{FontName}
use Rattle.tx_seen.specs.declared.place.FontName.TheVariants.{Current, Number}
use Rattle.tx_seen.specs.declared.seen.Seen.{Seen}
use Rattle.tx_seen.specs.Readings.{Reading, Done, next}
use Rattle.tx_scan.specs.declared.scans.Counted.{Counted}
use Rattle.tx_scan.specs.declared.scans.Counted.TheVariants as counts
use Rattle.tx_scan.specs.declared.scans.FontSought.{FontSought}
use Rattle.tx_scan.specs.declared.scans.FontSought.TheVariants as needs
use Rattle.tx_scan.specs.declared.scans.IntScan.{IntScan}
use Rattle.tx_scan.specs.declared.scans.IntStage.{IntStage}
use Rattle.tx_scan.specs.declared.scans.IntStage.TheVariants as int
use Rattle.tx_scan.specs.declared.scans.Outer.{Outer}
use Rattle.tx_scan.specs.declared.scans.QuantityScan.{QuantityScan}
use Rattle.tx_scan.specs.declared.scans.QuantityStage.TheVariants as stage
use Rattle.tx_scan.specs.FontNames.{font, font_held, parameter_number, place_of_font, stand_in, told, told_items}
use Rattle.tx_scan.specs.Integers.{byte_of, counted, given, numbered, whole_by, with_sign}
use Rattle.tx_scan.specs.IntegerRests as integers
use Rattle.tx_scan.specs.Quantities.{parameter_value, value_at, value_of_font}
use Rattle.tx_scan.specs.QuantityRests.{rest, held, more_needed, IsFed, IsFontSought, IsFontTold, IsParameter}
use Rattle.tx_scan.specs.Rests.{kept, IsAnswer, IsPassed, IsGivenBy}
use Rattle.tx_scan.specs.Supplied.{NeedsFewer, NeedsNoMore}
use Rattle.tx_scan.proofs.Answering.{passed-none, same-answer, same-passed}
use Rattle.tx_scan.proofs.Composing.{answer-most}
use Rattle.tx_scan.proofs.Mosts.{most-integer}

-- what follows alike reads on alike
next-alike : {A B C : Type 0} (r : Reading A) (f g : A → List Item → Reading B) (on : B → List Item → Reading C) → ((a : A) (rest : List Item) → next (f a rest) on ≡ next (g a rest) on) → next (next r f) on ≡ next (next r g) on
next-alike (Reading.More want) f g on same = refl
next-alike (Reading.Need kind) f g on same = refl
next-alike (Reading.Done a rest) f g on same = same a rest
next-alike (Reading.Wrong e) f g on same = refl

-- a token that tells a font, and what stands in its place
stands-in : (tells : Option FontName) (more : List Item) → font (Took (stand_in tells) ∷ more) ≡ told tells more
stands-in None more = refl
stands-in (Some Current) more = refl
stands-in (Some (Number zero)) more = refl
stands-in (Some (Number (suc n))) more = refl

told-alike : (t : Seen) (tells : Option FontName) (more : List Item) → integers.Tells t tells → font (Took t ∷ more) ≡ font (Took (stand_in tells) ∷ more)
told-alike t tells more k =
    let first : font (Took t ∷ more) ≡ told tells more = rw (k.0, k.1.0, k.1.1) refl in
    first ∙ sym (stands-in tells more)

abbrev on_value : FontSought → FontName → List Item → Reading Value
on_value what = λ f rest. value_at (place_of_font what f) rest

value-alike : (t : Seen) (tells : Option FontName) (n : ℤ) (more : List Item) → integers.Tells t tells → parameter_value n (Took t ∷ more) ≡ parameter_value n (Took (stand_in tells) ∷ more)
value-alike t tells n more k = ap (λ r. next r (on_value (needs.Dimen (parameter_number n)))) (told-alike t tells more k)

-- the same behind a number that waits for others
counted-alike : (t : Seen) (tells : Option FontName) (kind : Counted) (negative : Bool) (outers : List Outer) (n : ℤ) (more : List Item) → integers.awaits_kind kind (integers.awaits_font outers) ≡ false → (integers.awaits_font outers ≡ false → (n : ℤ) (more : List Item) → next (whole_by (font_held tells) outers n (Took t ∷ []) more) parameter_value ≡ next (whole_by (font_held tells) outers n (Took (stand_in tells) ∷ []) more) parameter_value) → next (counted (font_held tells) kind n (Took t ∷ []) more (λ value behind rest. whole_by (font_held tells) outers (with_sign negative value) behind rest)) parameter_value ≡ next (counted (font_held tells) kind n (Took (stand_in tells) ∷ []) more (λ value behind rest. whole_by (font_held tells) outers (with_sign negative value) behind rest)) parameter_value
counted-alike t tells (counts.Numbered kind) negative outers n more w later =
    next-alike (numbered kind (byte_of n) more) (λ value rest. whole_by (font_held tells) outers (with_sign negative value) (Took t ∷ []) rest) (λ value rest. whole_by (font_held tells) outers (with_sign negative value) (Took (stand_in tells) ∷ []) rest) parameter_value
    (λ value rest. later w (with_sign negative value) rest)
counted-alike t tells counts.FontDimen negative outers n more w later = absurd (cc)

outers-alike : (t : Seen) (tells : Option FontName) (outers : List Outer) (n : ℤ) (more : List Item) → integers.Tells t tells → integers.awaits_font outers ≡ false → next (whole_by (font_held tells) outers n (Took t ∷ []) more) parameter_value ≡ next (whole_by (font_held tells) outers n (Took (stand_in tells) ∷ []) more) parameter_value
outers-alike t tells [] n more k w = value-alike t tells n more k
outers-alike t tells (outer ∷ outers) n more k w =
    counted-alike t tells outer.kind outer.negative outers n more w (λ w n more. outers-alike t tells outers n more k w)

-- behind one that is needed all that a token tells is which font
given-alike : (w : Bool) (count : ℕ) (t : Seen) (tells : Option FontName) (outers : List Outer) (negative : Bool) (item : Item) (more : List Item) → integers.awaits_font outers ≡ w → (1 ≤ count → integers.Tells t tells) → next (integers.stage_rest outers negative tells (int.Given count) (kept (integers.held_of count w) t) item more) parameter_value ≡ next (integers.stage_rest outers negative tells (int.Given count) (told_items count tells) item more) parameter_value
given-alike w zero t tells outers negative item more e k = refl
given-alike true (suc n) t tells outers negative item more e k = rw e refl
given-alike false (suc n) t tells outers negative item more e k =
    rw e
    (next-alike (given item more) (λ n rest. whole_by (font_held tells) outers (with_sign negative n) (Took t ∷ []) rest) (λ n rest. whole_by (font_held tells) outers (with_sign negative n) (Took (stand_in tells) ∷ []) rest) parameter_value
    (λ n rest. outers-alike t tells outers (with_sign negative n) rest (k (omega arith)) e))

stage-alike : (s : IntStage) (t : Seen) (tells : Option FontName) (outers : List Outer) (negative : Bool) (item : Item) (more : List Item) → (1 ≤ integers.stage_held s → integers.Tells t tells) → next (integers.stage_rest outers negative tells s (kept (integers.held_of (integers.stage_held s) (integers.awaits_font outers)) t) item more) parameter_value ≡ next (integers.stage_rest outers negative tells s (told_items (integers.stage_held s) tells) item more) parameter_value
stage-alike int.Signs t tells outers negative item more k = refl
stage-alike (int.FirstDigit radix) t tells outers negative item more k = refl
stage-alike (int.Digits constant) t tells outers negative item more k = refl
stage-alike int.Character t tells outers negative item more k = refl
stage-alike (int.AfterCharacter code) t tells outers negative item more k = refl
stage-alike (int.Font what) t tells outers negative item more k = refl
stage-alike (int.Given count) t tells outers negative item more k = given-alike (integers.awaits_font outers) count t tells outers negative item more refl k

rest-alike : (scan : IntScan) (t : Seen) (item : Item) (more : List Item) → (1 ≤ integers.stage_held scan.stage → integers.Tells t scan.behind) → next (integers.rest scan (kept (integers.held scan) t) item more) parameter_value ≡ next (integers.rest scan (told_items (integers.stage_held scan.stage) scan.behind) item more) parameter_value
rest-alike scan t item more k = stage-alike scan.stage t scan.behind scan.outers scan.negative item more k

-- what is held, and what ended the number
given-told : (w : Bool) (count : ℕ) (tells : Option FontName) (outers : List Outer) (negative : Bool) (item : Item) (more : List Item) → integers.awaits_font outers ≡ w → integers.stage_rest outers negative tells (int.Given count) (told_items (integers.held_of count w) tells) item more ≡ integers.stage_rest outers negative tells (int.Given count) (told_items count tells) item more
given-told w zero tells outers negative item more e = refl
given-told true (suc n) tells outers negative item more e = rw e refl
given-told false (suc n) tells outers negative item more e = refl

stage-told : (s : IntStage) (tells : Option FontName) (outers : List Outer) (negative : Bool) (item : Item) (more : List Item) → integers.stage_rest outers negative tells s (told_items (integers.held_of (integers.stage_held s) (integers.awaits_font outers)) tells) item more ≡ integers.stage_rest outers negative tells s (told_items (integers.stage_held s) tells) item more
stage-told int.Signs tells outers negative item more = refl
stage-told (int.FirstDigit radix) tells outers negative item more = refl
stage-told (int.Digits constant) tells outers negative item more = refl
stage-told int.Character tells outers negative item more = refl
stage-told (int.AfterCharacter code) tells outers negative item more = refl
stage-told (int.Font what) tells outers negative item more = refl
stage-told (int.Given count) tells outers negative item more = given-told (integers.awaits_font outers) count tells outers negative item more refl

rest-told : (scan : IntScan) (item : Item) (more : List Item) → integers.rest scan (told_items (integers.held scan) scan.behind) item more ≡ integers.rest scan (told_items (integers.stage_held scan.stage) scan.behind) item more
rest-told scan item more = stage-told scan.stage scan.behind scan.outers scan.negative item more

held-told : (scan : IntScan) (count : ℕ) (tells : Option FontName) (item : Item) (more : List Item) → integers.held scan ≡ count → scan.behind ≡ tells → integers.rest scan (told_items count tells) item more ≡ integers.rest scan (told_items (integers.stage_held scan.stage) scan.behind) item more
held-told scan count tells item more e b =
    ap (λ (n : ℕ). integers.rest scan (told_items n tells) item more) (sym e)
    ∙ (ap (λ (o : Option FontName). integers.rest scan (told_items (integers.held scan) o) item more) (sym b)
    ∙ rest-told scan item more)

-- the scan of the number reads on
rest-parameter : (scan : QuantityScan) (behind : List Item) (item : Item) (more : List Item) → scan.stage ≡ stage.Parameter → rest scan behind item more ≡ next (integers.rest scan.number (told_items (integers.stage_held scan.number.stage) scan.number.behind) item more) parameter_value
rest-parameter scan behind item more s = rw s refl

held-parameter : (scan : QuantityScan) → scan.stage ≡ stage.Parameter → held scan ≡ 0
held-parameter scan s = rw s refl

-- the font that the token tells behind the number
font-passed : (reading : List Item → Reading Value) (n : ℕ) (o : Option FontName) (now new : QuantityScan) (answer : Fed Value) → ((more : List Item) → reading more ≡ next (told o more) (on_value (needs.Dimen n))) → IsFontTold n o now new answer → IsPassed rest held reading [] 0 new answer
font-passed reading n None now new answer same is = rw is same
font-passed reading n (Some f) now new answer same is = rw (is.1, is.0) (same [], refl, λ item more. same (item ∷ more))

-- the number is whole, behind which no token is held, or one
whole-passed : (reading : List Item → Reading Value) (n back : ℕ) (now new : QuantityScan) (answer : Fed Value) → (back ≡ 0 → (more : List Item) → reading more ≡ value_of_font (needs.Dimen n) more) → (1 ≤ back → (more : List Item) → reading more ≡ next (told now.number.behind more) (on_value (needs.Dimen n))) → IsFontSought n back now new answer → IsPassed rest held reading [] 0 new answer
whole-passed reading n zero now new answer none some is = rw (is.1, is.0) (none refl [], refl, λ item more. none refl (item ∷ more))
whole-passed reading n (suc count) now new answer none some is = font-passed reading n now.number.behind now new answer (some (omega arith)) is

abbrev at_font : (List Item → Reading ℤ) → List Item → Reading Value
at_font number = λ more. next (number more) parameter_value

-- the number, token by token
fed-whole : (number : List Item → Reading ℤ) (t : Seen) (n : ℤ) (back : ℕ) (now new : QuantityScan) (answer : Fed Value) → ((more : List Item) → number more ≡ Done n (kept back t ++ more)) → (1 ≤ back → integers.Tells t now.number.behind) → IsFontSought (parameter_number n) back now new answer → IsPassed rest held (at_font number) [] 0 new answer
fed-whole number t n zero now new answer k tells is =
    whole-passed (at_font number) (parameter_number n) zero now new answer
    (λ e more. ap (λ r. next r parameter_value) (k more)) (λ h more. absurd (omega (arith, h))) is
fed-whole number t n (suc count) now new answer k tells is =
    whole-passed (at_font number) (parameter_number n) (suc count) now new answer
    (λ e more. absurd (omega (arith, e)))
    (λ h more.
    ap (λ r. next r parameter_value) (k more)
    ∙ (value-alike t now.number.behind n more (tells h)
    ∙ ap (λ r. next r (on_value (needs.Dimen (parameter_number n)))) (stands-in now.number.behind more)))
    is

parameter-answer : (number : List Item → Reading ℤ) (t : Seen) (now new : QuantityScan) (said : Fed ℤ) (answer : Fed Value) → now.stage ≡ stage.Parameter → IsAnswer integers.rest integers.held 1 number t now.number said → integers.IsTold t now.number said → IsParameter said now new answer → IsPassed rest held (at_font number) [] 0 new answer
parameter-answer number t now new (fed.More want) answer s k tells is = rw (is.1, is.0) (
  ap (λ r. next r parameter_value) k.0,
  held-parameter now s,
  λ item more. ap (λ r. next r parameter_value) (k.2 item more ∙ held-told now.number 0 now.number.behind item more k.1 refl) ∙ sym (rest-parameter now [] item more s),
)
parameter-answer number t now new (fed.Need kind) answer s k tells is = rw (is.1, is.0) (
  ap (λ r. next r parameter_value) k.0,
  held-parameter now s,
  λ item more. ap (λ r. next r parameter_value) (k.2 item more) ∙ (rest-alike now.number t item more tells ∙ sym (rest-parameter now [] item more s)),
)
parameter-answer number t now new (fed.Done n back) answer s k tells is = fed-whole number t n back now new answer k.1 tells is
parameter-answer number t now new (fed.Wrong error) answer s k tells is = rw is (λ more. ap (λ r. next r parameter_value) (k more))

pub parameter-fed : (old now new : QuantityScan) (t : Seen) (said : Fed ℤ) (answer : Fed Value) → old.stage ≡ stage.Parameter → now.stage ≡ stage.Parameter → integers.IsFed old.number t now.number said → integers.IsTold t now.number said → IsParameter said now new answer → IsFed old t new answer
parameter-fed old now new t said answer was s k tells is = λ behind.
    let number : List Item → Reading ℤ = λ more. integers.rest old.number (told_items (integers.stage_held old.number.stage) old.number.behind) (Took t) more in
    same-answer rest held 1 (λ more. rest old behind (Took t) more) (at_font number) t new answer
    (λ more. rest-parameter old behind (Took t) more was)
    (passed-none rest held 1 (at_font number) t new answer
    (parameter-answer number t now new said answer s
    (answer-most integers.rest integers.held (integers.most old.number) 1 number t now.number said (most-integer old.number) (k (told_items (integers.stage_held old.number.stage) old.number.behind)))
    tells is))

-- a value of it
length-told : (count : ℕ) (tells : Option FontName) → length (told_items count tells) ≤ count
length-told zero tells = omega arith
length-told (suc count) tells = omega arith

given-whole : (number : List Item → Reading ℤ) (n : ℤ) (back : ℕ) (now new : QuantityScan) (answer : Fed Value) → ((more : List Item) → number more ≡ Done n (told_items back now.number.behind ++ more)) → IsFontSought (parameter_number n) back now new answer → IsPassed rest held (at_font number) [] 0 new answer
given-whole number n zero now new answer k is =
    whole-passed (at_font number) (parameter_number n) zero now new answer
    (λ e more. ap (λ r. next r parameter_value) (k more)) (λ h more. absurd (omega (arith, h))) is
given-whole number n (suc count) now new answer k is =
    whole-passed (at_font number) (parameter_number n) (suc count) now new answer
    (λ e more. absurd (omega (arith, e)))
    (λ h more.
    ap (λ r. next r parameter_value) (k more)
    ∙ ap (λ r. next r (on_value (needs.Dimen (parameter_number n)))) (stands-in now.number.behind more))
    is

-- the scan of the number still holds what it held
parameter-passed : (number : List Item → Reading ℤ) (count : ℕ) (tells : Option FontName) (now new : QuantityScan) (said : Fed ℤ) (answer : Fed Value) → now.stage ≡ stage.Parameter → now.number.behind ≡ tells → IsPassed integers.rest integers.held number (told_items count tells) count now.number said → IsParameter said now new answer → IsPassed rest held (at_font number) [] 0 new answer
parameter-passed number count tells now new (fed.More want) answer s same k is = rw (is.1, is.0) (
  ap (λ r. next r parameter_value) k.0,
  held-parameter now s,
  λ item more. ap (λ r. next r parameter_value) (k.2 item more ∙ held-told now.number count tells item more k.1 same) ∙ sym (rest-parameter now [] item more s),
)
parameter-passed number count tells now new (fed.Need kind) answer s same k is = rw (is.1, is.0) (
  ap (λ r. next r parameter_value) k.0,
  held-parameter now s,
  λ item more. ap (λ r. next r parameter_value) (k.2 item more ∙ held-told now.number count tells item more k.1 same) ∙ sym (rest-parameter now [] item more s),
)
parameter-passed number count tells now new (fed.Done n back) answer s same k is = given-whole number n back now new answer (rw (k.0, same) k.1) is
parameter-passed number count tells now new (fed.Wrong error) answer s same k is = rw is (λ more. ap (λ r. next r parameter_value) (k more))

given-none : (old new : QuantityScan) (v : Value) (answer : Fed Value) (behind : List Item) → old.stage ≡ stage.Parameter → length behind ≤ 0 → IsPassed rest held (λ more. rest old [] (Gave v) more) [] 0 new answer → IsPassed rest held (λ more. rest old behind (Gave v) more) behind 0 new answer
given-none old new v answer [] was short k = k
given-none old new v answer (item ∷ behind) was short k = absurd (omega (arith, short))

pub parameter-given : (old now new : QuantityScan) (v : Value) (said : Fed ℤ) (answer : Fed Value) → old.stage ≡ stage.Parameter → now.stage ≡ stage.Parameter → integers.IsGiven old.number v now.number said → now.number.behind ≡ old.number.behind → IsParameter said now new answer → IsGivenBy rest held old v new answer
parameter-given old now new v said answer was s k same is = λ behind short.
    let number : List Item → Reading ℤ = λ more. integers.rest old.number (told_items (integers.held old.number) old.number.behind) (Gave v) more in
    rw (held-parameter old was)
    (given-none old new v answer behind was (rw (held-parameter old was) at short)
    (same-passed rest held (λ more. rest old [] (Gave v) more) (at_font number) [] 0 0 new answer
    (λ more. rest-parameter old [] (Gave v) more was ∙ ap (λ r. next r parameter_value) (sym (rest-told old.number (Gave v) more)))
    refl
    (parameter-passed number (integers.held old.number) old.number.behind now new said answer s same
    (k (told_items (integers.held old.number) old.number.behind) (length-told (integers.held old.number) old.number.behind)) is)))

-- how many values it needs
needed-parameter : (scan : QuantityScan) → scan.stage ≡ stage.Parameter → more_needed scan ≡ integers.waiting scan.number + 1
needed-parameter scan s = rw s refl

font-needs : (n : ℕ) (o : Option FontName) (many : ℕ) (now new : QuantityScan) (answer : Fed Value) → IsFontTold n o now new answer → NeedsNoMore many (more_needed new) answer
font-needs n None many now new answer is = rw is tt
font-needs n (Some f) many now new answer is = rw (is.1, is.0) (omega arith)

sought-needs : (n back many : ℕ) (now new : QuantityScan) (answer : Fed Value) → IsFontSought n back now new answer → NeedsNoMore many (more_needed new) answer
sought-needs n zero many now new answer is = rw (is.1, is.0) (omega arith)
sought-needs n (suc count) many now new answer is = font-needs n now.number.behind many now new answer is

pub parameter-needs : (old now new : QuantityScan) (said : Fed ℤ) (answer : Fed Value) → old.stage ≡ stage.Parameter → now.stage ≡ stage.Parameter → NeedsNoMore (integers.waiting old.number) (integers.waiting now.number) said → IsParameter said now new answer → NeedsNoMore (more_needed old) (more_needed new) answer
parameter-needs old now new (fed.More want) answer was s k is =
    let before = needed-parameter old was in
    let after = needed-parameter now s in
    rw (is.1, is.0, before, after) (omega (arith, k))
parameter-needs old now new (fed.Need kind) answer was s k is =
    let before = needed-parameter old was in
    let after = needed-parameter now s in
    rw (is.1, is.0, before, after) (omega (arith, k))
parameter-needs old now new (fed.Done n back) answer was s k is = sought-needs (parameter_number n) back (more_needed old) now new answer is
parameter-needs old now new (fed.Wrong error) answer was s k is = rw is tt

font-fewer : (n : ℕ) (o : Option FontName) (many : ℕ) (now new : QuantityScan) (answer : Fed Value) → 1 ≤ many → IsFontTold n o now new answer → NeedsFewer many (more_needed new) answer
font-fewer n None many now new answer h is = rw is tt
font-fewer n (Some f) many now new answer h is = rw (is.1, is.0) h

sought-fewer : (n back many : ℕ) (now new : QuantityScan) (answer : Fed Value) → 1 ≤ many → IsFontSought n back now new answer → NeedsFewer many (more_needed new) answer
sought-fewer n zero many now new answer h is = rw (is.1, is.0) h
sought-fewer n (suc count) many now new answer h is = font-fewer n now.number.behind many now new answer h is

pub parameter-fewer : (old now new : QuantityScan) (said : Fed ℤ) (answer : Fed Value) → old.stage ≡ stage.Parameter → now.stage ≡ stage.Parameter → NeedsFewer (integers.waiting old.number) (integers.waiting now.number) said → IsParameter said now new answer → NeedsFewer (more_needed old) (more_needed new) answer
parameter-fewer old now new (fed.More want) answer was s k is =
    let before = needed-parameter old was in
    let after = needed-parameter now s in
    rw (is.1, is.0, before, after) (omega (arith, k))
parameter-fewer old now new (fed.Need kind) answer was s k is =
    let before = needed-parameter old was in
    let after = needed-parameter now s in
    rw (is.1, is.0, before, after) (omega (arith, k))
parameter-fewer old now new (fed.Done n back) answer was s k is =
    let before = needed-parameter old was in
    sought-fewer (parameter_number n) back (more_needed old) now new answer (omega (arith, before)) is
parameter-fewer old now new (fed.Wrong error) answer was s k is = rw is tt
