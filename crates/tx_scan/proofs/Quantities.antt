-- An internal quantity, as a part of a dimension.
use Rattle.std.proofs.Common.{◌≡◌, ◌≤◌, ℕ, zero, suc, ℤ, Bool, true, false, List, [], ◌∷◌, ◌++◌, length, Option, None, Some, Result, Ok, Err, IfOk, refl, ap, sym, subst, ◌∙◌, arith}
use Rattle.std.specs.Prelude.{unsigned_abs}
use Rattle.tx_num.specs.Decimals.{fraction_of}
use Rattle.tx_char.specs.declared.tokens.Token.TheVariants.{FrozenRelax}
use Rattle.tx_seen.specs.declared.error.TexError.{TexError}
use Rattle.tx_seen.specs.declared.meaning.Meaning.TheVariants.{Undefined}
use Rattle.tx_seen.specs.declared.seen.Seen.{Seen}
use Rattle.tx_seen.specs.declared.item.Item.{Item}
use Rattle.tx_seen.specs.declared.item.Item.TheVariants.{Took, Gave}
use Rattle.tx_seen.specs.declared.fed.Kind.{Kind}
use Rattle.tx_seen.specs.declared.fed.Value.{Value}
use Rattle.tx_seen.specs.declared.fed.Value.TheVariants.{Int, Dimen, Glue, Muglue, Magnification, Flag, Absent, OutOfRange}
use Rattle.tx_seen.specs.declared.fed.Want.{Want}
use Rattle.tx_seen.specs.declared.fed.Fed.{Fed}
use Rattle.tx_seen.specs.declared.fed.Fed.TheVariants as fed
use Rattle.tx_seen.specs.Readings.{Reading, More, Need, Done, Wrong, next}
use Rattle.tx_scan.specs.declared.scans.Amount.{Amount}
use Rattle.tx_scan.specs.declared.scans.IntScan.{IntScan}
use Rattle.tx_scan.specs.declared.scans.Measure.{Measure}
use Rattle.tx_scan.specs.declared.scans.DimenScan.{DimenScan}
use Rattle.tx_scan.specs.declared.scans.DimenStage.TheVariants as stage
use Rattle.tx_scan.specs.Rests.{kept, IsPassed, IsGivenBy, IsEnd}
use Rattle.tx_scan.specs.Supplied.{NeedsFewer, NeedsNoMore}
use Rattle.tx_scan.specs.IntegerRests as integers
use Rattle.tx_scan.specs.declared.scans.Units.{Units}
use Rattle.tx_scan.specs.declared.scans.Letters.{Letters}
use Rattle.tx_scan.specs.declared.scans.Beginning.{Beginning}
use Rattle.tx_scan.specs.declared.scans.Beginning.TheVariants as begin
use Rattle.tx_scan.specs.declared.scans.Amount.TheVariants as amount
use Rattle.tx_seen.specs.Seen.{is_undefined, is_space}
use Rattle.tx_scan.specs.Beginnings.{beginning}
use Rattle.tx_scan.specs.Integers.{integer}
use Rattle.tx_scan.specs.Dimensions.{numbered_unit, quantified, in_mu, is_internal, mathematical, measured, ended_with, spelled, unit_name, first_letter, letter_on, size_begun, size_signs, turned}
use Rattle.tx_scan.specs.Mapped.{done_if}
use Rattle.tx_scan.specs.Quantities.{quantity_begun}
use Rattle.tx_scan.specs.DimensionRests.{rest, held, held_items, more_needed, most, name_ended, IsMeasuring, IsFed, IsUnit}
use Rattle.tx_scan.proofs.Answering.{same-answer, same-passed}
use Rattle.tx_scan.proofs.Composing.{answer-most, more-next, need-next, done-next, end-next, none-back, one-back}

-- what a stage reads of a token is what reading on gives
pub fed-at : {E : Type 0} (few : ℕ) (reading : List Item → Reading Measure) (old new : DimenScan) (t : Seen) (answer : Result (Fed Measure) E) → few ≤ most old → ((behind more : List Item) → rest old behind (Took t) more ≡ reading more) → IfOk answer (IsMeasuring few reading t new) → IfOk answer (IsFed old t new)
fed-at few reading old new t (Ok answer) h same k = λ behind.
    same-answer rest held (most old) (λ more. rest old behind (Took t) more) reading t new answer (same behind) (answer-most rest held few (most old) reading t new answer h k)
fed-at few reading old new t (Err e) h same k = tt

pub fed-at-all : {E : Type 0} (few : ℕ) (reading : List Item → List Item → Reading Measure) (old new : DimenScan) (t : Seen) (answer : Result (Fed Measure) E) → few ≤ most old → ((behind more : List Item) → rest old behind (Took t) more ≡ reading behind more) → IfOk answer (λ a. (behind : List Item) → IsMeasuring few (reading behind) t new a) → IfOk answer (IsFed old t new)
fed-at-all few reading old new t (Ok answer) h same k = λ behind.
    same-answer rest held (most old) (λ more. rest old behind (Took t) more) (reading behind) t new answer (same behind) (answer-most rest held few (most old) (reading behind) t new answer h (k behind))
fed-at-all few reading old new t (Err e) h same k = tt

-- what becomes of two things alike
pub next-alike : {A B : Type 0} (r : Reading A) (f g : A → List Item → Reading B) → ((a : A) (rest : List Item) → f a rest ≡ g a rest) → next r f ≡ next r g
next-alike (More want) f g same = refl
next-alike (Need kind) f g same = refl
next-alike (Done a rest) f g same = same a rest
next-alike (Wrong error) f g same = refl

mathematical-whole : (negative : Bool) (part : ℕ) (v : Value) → mathematical negative part amount.Whole v ≡ mathematical negative 0 amount.Whole v
mathematical-whole negative part (Int n) = refl
mathematical-whole negative part (Dimen n) = refl
mathematical-whole negative part (Glue g) = refl
mathematical-whole negative part (Muglue g) = refl
mathematical-whole negative part (Magnification n) = refl
mathematical-whole negative part (Flag b) = refl
mathematical-whole negative part Absent = refl
mathematical-whole negative part OutOfRange = refl

-- a quantity in mu that is the dimension has no part
whole-in-mu : (negative : Bool) (part : ℕ) (begun : Beginning) (rest : List Item) → in_mu negative part amount.Whole begun rest ≡ in_mu negative 0 amount.Whole begun rest
whole-in-mu negative part begin.Plus rest = refl
whole-in-mu negative part begin.Minus rest = refl
whole-in-mu negative part (begin.Digit d) rest = refl
whole-in-mu negative part (begin.Digits radix) rest = refl
whole-in-mu negative part begin.Character rest = refl
whole-in-mu negative part begin.Point rest = refl
whole-in-mu negative part (begin.Number n) rest = refl
whole-in-mu negative part (begin.At place) rest = next-alike (quantity_begun (begin.At place) rest) (λ value rest. done_if (mathematical negative part amount.Whole value) rest) (λ value rest. done_if (mathematical negative 0 amount.Whole value) rest) (λ value rest. ap (λ made. done_if made rest) (mathematical-whole negative part value))
whole-in-mu negative part (begin.Numbered kind) rest = next-alike (quantity_begun (begin.Numbered kind) rest) (λ value rest. done_if (mathematical negative part amount.Whole value) rest) (λ value rest. done_if (mathematical negative 0 amount.Whole value) rest) (λ value rest. ap (λ made. done_if made rest) (mathematical-whole negative part value))
whole-in-mu negative part begin.FontDimen rest = next-alike (quantity_begun begin.FontDimen rest) (λ value rest. done_if (mathematical negative part amount.Whole value) rest) (λ value rest. done_if (mathematical negative 0 amount.Whole value) rest) (λ value rest. ap (λ made. done_if made rest) (mathematical-whole negative part value))
whole-in-mu negative part (begin.FontInteger which) rest = next-alike (quantity_begun (begin.FontInteger which) rest) (λ value rest. done_if (mathematical negative part amount.Whole value) rest) (λ value rest. done_if (mathematical negative 0 amount.Whole value) rest) (λ value rest. ap (λ made. done_if made rest) (mathematical-whole negative part value))
whole-in-mu negative part (begin.Nothing error) rest = refl

-- the first token of a quantity
pub size-begins : {E : Type 0} (units : Units) (negative : Bool) (part : ℕ) (scan : IntScan) (t : Seen) (new : DimenScan) (answer : Result (Fed Measure) E) (b : Bool) → b ≡ true → units.mu ≡ false → scan ≡ integers.begun_integer → IfOk answer (λ a. (behind : List Item) → IsMeasuring (integers.most scan) (λ more. next (integers.rest scan behind (Took t) more) (ended_with negative part amount.Whole)) t new a) → IfOk answer (IsMeasuring 0 (λ more. quantified units negative b (integer (Took t ∷ more)) (beginning t) more) t new)
size-begins units negative part scan t new (Ok answer) b e m s k = rw (e, m) ((rw s at k) [])
size-begins units negative part scan t new (Err error) b e m s k = tt

pub mathematical-begins : (units : Units) (negative : Bool) (part : ℕ) (t : Seen) (begun : Beginning) (new : DimenScan) (answer : Fed Measure) (b : Bool) → b ≡ true → units.mu ≡ true → begun ≡ beginning t → IsMeasuring 0 (λ more. in_mu negative part amount.Whole begun more) t new answer → IsMeasuring 0 (λ more. quantified units negative b (integer (Took t ∷ more)) (beginning t) more) t new answer
mathematical-begins units negative part t begun new answer b e m s k =
    same-answer rest held 0 (λ more. quantified units negative b (integer (Took t ∷ more)) (beginning t) more) (λ more. in_mu negative part amount.Whole begun more) t new answer
    (λ more. rw (e, m) (sym (ap (λ g. in_mu negative part amount.Whole g more) s ∙ whole-in-mu negative part (beginning t) more))) k

pub factor-begins : {E : Type 0} (units : Units) (negative : Bool) (behind : Option Seen) (scan : IntScan) (t : Seen) (new : DimenScan) (answer : Result (Fed Measure) E) (b : Bool) → b ≡ false → scan ≡ integers.begun_integer → IfOk answer (IsMeasuring (integers.most scan) (λ more. next (integers.rest scan (held_items (integers.held scan) behind) (Took t) more) (numbered_unit units negative)) t new) → IfOk answer (IsMeasuring 0 (λ more. quantified units negative b (integer (Took t ∷ more)) (beginning t) more) t new)
factor-begins units negative behind scan t new (Ok answer) b e s k = rw e (rw s at k)
factor-begins units negative behind scan t new (Err error) b e s k = tt

pub unit-begins : {E : Type 0} (units : Units) (negative : Bool) (whole : ℕ) (digits : List ℕ) (scan : IntScan) (t : Seen) (new : DimenScan) (answer : Result (Fed Measure) E) → is_undefined t ≡ false → is_space t ≡ false → is_internal (beginning t) ≡ true → units.mu ≡ false → scan ≡ integers.begun_integer → IfOk answer (λ a. (behind : List Item) → IsMeasuring (integers.most scan) (λ more. next (integers.rest scan behind (Took t) more) (ended_with negative (fraction_of digits) (amount.Times whole))) t new a) → IfOk answer (IsUnit units negative whole digits t new)
unit-begins units negative whole digits scan t new (Ok answer) u b i m s k =
    same-answer rest held 0 (λ more. measured units negative whole (fraction_of digits) (Took t ∷ more)) (λ more. next (integer (Took t ∷ more)) (ended_with negative (fraction_of digits) (amount.Times whole))) t new answer (λ more. rw (u, b, i, m) refl) ((rw s at k) [])
unit-begins units negative whole digits scan t new (Err error) u b i m s k = tt

pub unit-in-mu : (units : Units) (negative : Bool) (whole : ℕ) (digits : List ℕ) (t : Seen) (begun : Beginning) (new : DimenScan) (answer : Fed Measure) → is_undefined t ≡ false → is_space t ≡ false → is_internal (beginning t) ≡ true → units.mu ≡ true → begun ≡ beginning t → IsMeasuring 0 (λ more. in_mu negative (fraction_of digits) (amount.Times whole) begun more) t new answer → IsUnit units negative whole digits t new answer
unit-in-mu units negative whole digits t begun new answer u b i m s k =
    same-answer rest held 0 (λ more. measured units negative whole (fraction_of digits) (Took t ∷ more)) (λ more. in_mu negative (fraction_of digits) (amount.Times whole) begun more) t new answer
    (λ more. rw (u, b, i, m) (ap (λ g. in_mu negative (fraction_of digits) (amount.Times whole) g more) (sym s))) k

pub unit-named : (units : Units) (negative : Bool) (whole : ℕ) (digits : List ℕ) (t : Seen) (new : DimenScan) (answer : Fed Measure) → is_undefined t ≡ false → is_space t ≡ false → is_internal (beginning t) ≡ false → IsMeasuring 0 (λ more. next (spelled (λ letters. unit_name units letters more) (first_letter units t) more) (name_ended None units negative whole (fraction_of digits))) t new answer → IsUnit units negative whole digits t new answer
unit-named units negative whole digits t new answer u b i k =
    same-answer rest held 0 (λ more. measured units negative whole (fraction_of digits) (Took t ∷ more)) (λ more. next (spelled (λ letters. unit_name units letters more) (first_letter units t) more) (name_ended None units negative whole (fraction_of digits))) t new answer (λ more. rw (u, b, i) refl) k

pub letter-named : (old new : DimenScan) (whole : ℕ) (letters : Letters) (t : Seen) (answer : Fed Measure) → old.stage ≡ stage.Name whole letters → is_undefined t ≡ false → IsMeasuring 0 (λ more. next (spelled (λ letters. unit_name old.units letters more) (letter_on old.units letters t) more) (name_ended old.magnified old.units old.negative whole (fraction_of old.digits))) t new answer → IsFed old t new answer
letter-named old new whole letters t answer s u k = λ behind.
    same-answer rest held (most old) (λ more. rest old behind (Took t) more) (λ more. next (spelled (λ letters. unit_name old.units letters more) (letter_on old.units letters t) more) (name_ended old.magnified old.units old.negative whole (fraction_of old.digits))) t new answer (λ more. rw (s, u) refl)
    (answer-most rest held 0 (most old) (λ more. next (spelled (λ letters. unit_name old.units letters more) (letter_on old.units letters t) more) (name_ended old.magnified old.units old.negative whole (fraction_of old.digits))) t new answer (omega arith) k)

-- the unit behind an internal number
pub numbered-begins : {E : Type 0} (old mid new : DimenScan) (n : ℤ) (whole : ℕ) (t : Seen) (answer : Result (Fed Measure) E) → mid ≡ record old { negative = turned old.negative n; digits = [] } → whole ≡ unsigned_abs n → IfOk answer (IsUnit mid.units mid.negative whole mid.digits t new) → IfOk answer (IsMeasuring 0 (λ more. numbered_unit old.units old.negative n (Took t ∷ more)) t new)
numbered-begins old mid new n whole t (Ok answer) e w k =
    subst (λ size. IsUnit old.units (turned old.negative n) size [] t new answer) w (subst (λ (m : DimenScan). IsUnit m.units m.negative whole m.digits t new answer) e k)
numbered-begins old mid new n whole t (Err error) e w k = tt

-- what a sign or a space may stand before
pub signed-quantity : {E : Type 0} (old new : DimenScan) (t : Seen) (b : Bool) (begun : Beginning) (answer : Result (Fed Measure) E) → old.stage ≡ stage.Signs → beginning t ≡ begun → ((on : Bool → Reading Measure) (number : Reading ℤ) (rest : List Item) → size_begun old.units old.negative on number rest begun ≡ quantified old.units old.negative b number begun rest) → IfOk answer (IsMeasuring 0 (λ more. quantified old.units old.negative b (integer (Took t ∷ more)) (beginning t) more) t new) → IfOk answer (IsFed old t new)
signed-quantity old new t b begun answer s e same k =
    fed-at 0 (λ more. quantified old.units old.negative b (integer (Took t ∷ more)) (beginning t) more) old new t answer (omega arith)
    (λ behind more. rw s (ap (λ b. size_begun old.units old.negative (λ negative. size_signs old.units negative more) (integer (Took t ∷ more)) more b) e ∙ (same (λ negative. size_signs old.units negative more) (integer (Took t ∷ more)) more ∙ ap (λ g. quantified old.units old.negative b (integer (Took t ∷ more)) g more) (sym e)))) k

-- the tokens behind the register of a factor
abbrev pub behind_it : DimenScan → List Item
behind_it old = held_items (integers.held old.number) old.behind

abbrev factor_rest : DimenScan → Item → List Item → Reading ℤ
factor_rest old item more = integers.rest old.number (behind_it old) item more

abbrev on_factor : DimenScan → ℤ → List Item → Reading Measure
on_factor old = numbered_unit old.units old.negative

-- a factor goes on
pub factor-more : (old : DimenScan) (scan : IntScan) (t : Seen) (want : Want) → integers.IsFed old.number t scan (fed.More want) → IsMeasuring (integers.most old.number) (λ more. next (factor_rest old (Took t) more) (on_factor old)) t (record old { stage = stage.Coefficient; number = scan }) (fed.More want)
factor-more old scan t want k =
    more-next integers.rest integers.held rest held (integers.most old.number) (integers.most old.number) (factor_rest old (Took t)) (on_factor old) t scan (record old { stage = stage.Coefficient; number = scan }) want
    (k (behind_it old)) refl
    (λ item more. ap (λ (items : List Item). next (integers.rest scan items item more) (on_factor old)) (sym (ap (λ (n : ℕ). held_items n old.behind) (k []).1)))

kept-items : (n : ℕ) (t u : Seen) → u ≡ t → kept n t ≡ held_items n (Some u)
kept-items zero t u e = refl
kept-items (suc n) t u e = ap (λ (x : Seen). Took x ∷ []) (sym e)

pub factor-need : (old : DimenScan) (scan : IntScan) (t u : Seen) (kind : Kind) → u ≡ t → integers.IsFed old.number t scan (fed.Need kind) → IsMeasuring (integers.most old.number) (λ more. next (factor_rest old (Took t) more) (on_factor old)) t (record old { stage = stage.Coefficient; number = scan; behind = Some u }) (fed.Need kind)
factor-need old scan t u kind e k =
    need-next integers.rest integers.held rest held (integers.most old.number) (integers.most old.number) (factor_rest old (Took t)) (on_factor old) t scan (record old { stage = stage.Coefficient; number = scan; behind = Some u }) kind
    (k (behind_it old)) (omega arith)
    (λ item more. ap (λ (items : List Item). next (integers.rest scan items item more) (on_factor old)) (kept-items (integers.held scan) t u e))

pub factor-wrong : (old new : DimenScan) (scan : IntScan) (t : Seen) (error : TexError) → integers.IsFed old.number t scan (fed.Wrong error) → IsMeasuring (integers.most old.number) (λ more. next (factor_rest old (Took t) more) (on_factor old)) t new (fed.Wrong error)
factor-wrong old new scan t error k = λ more. ap (λ r. next r (on_factor old)) (k (behind_it old) more)

factor-done : (old new : DimenScan) (scan : IntScan) (t : Seen) (n : ℤ) (back : ℕ) (answer : Fed Measure) → integers.IsFed old.number t scan (fed.Done n back) → IsMeasuring 0 (λ more. on_factor old n (kept back t ++ more)) t new answer → IsMeasuring (integers.most old.number) (λ more. next (factor_rest old (Took t) more) (on_factor old)) t new answer
factor-done old new scan t n back answer k later =
    done-next integers.rest integers.held rest held (integers.most old.number) (integers.most old.number) (factor_rest old (Took t)) (on_factor old) t scan new n back answer
    (k (behind_it old))
    (answer-most rest held 0 (integers.most old.number) (λ more. on_factor old n (kept back t ++ more)) t new answer (omega arith) later)

pub factor-ends : (old new : DimenScan) (scan : IntScan) (t : Seen) (n m : ℤ) (back : ℕ) (answer : Fed Measure) → integers.IsFed old.number t scan (fed.Done n back) → back ≡ 0 → m ≡ n → IsMeasuring 0 (λ more. on_factor old m more) t new answer → IsMeasuring (integers.most old.number) (λ more. next (factor_rest old (Took t) more) (on_factor old)) t new answer
factor-ends old new scan t n m back answer k e f later =
    factor-done old new scan t n back answer k
    (none-back (λ items. IsMeasuring 0 (λ more. on_factor old n (items ++ more)) t new answer) back t e (rw f at later))

pub factor-ends-before : {E : Type 0} (old new : DimenScan) (scan : IntScan) (t : Seen) (n m : ℤ) (back : ℕ) (answer : Result (Fed Measure) E) → integers.IsFed old.number t scan (fed.Done n back) → (back ≡ 0 → ⊥) → m ≡ n → IfOk answer (IsMeasuring 0 (λ more. on_factor old m (Took t ∷ more)) t new) → IfOk answer (IsMeasuring (integers.most old.number) (λ more. next (factor_rest old (Took t) more) (on_factor old)) t new)
factor-ends-before old new scan t n m back (Ok answer) k e f later =
    factor-done old new scan t n back answer k
    (one-back (λ items. IsMeasuring 0 (λ more. on_factor old n (items ++ more)) t new answer) back t e (subst (λ k. IsMeasuring 0 (λ more. on_factor old k (Took t ∷ more)) t new answer) f later))
factor-ends-before old new scan t n m back (Err error) k e f later = tt

-- a quantity that ends the dimension
abbrev on_amount : DimenScan → Amount → ℤ → List Item → Reading Measure
on_amount old amount = ended_with old.negative (fraction_of old.digits) amount

pub amount-more : (old : DimenScan) (scan : IntScan) (amount : Amount) (t : Seen) (want : Want) → integers.IsFed old.number t scan (fed.More want) → (behind : List Item) → IsMeasuring (integers.most old.number) (λ more. next (integers.rest old.number behind (Took t) more) (on_amount old amount)) t (record old { stage = stage.Quantity amount; number = scan }) (fed.More want)
amount-more old scan amount t want k = λ behind.
    more-next integers.rest integers.held rest held (integers.most old.number) (integers.most old.number) (λ more. integers.rest old.number behind (Took t) more) (on_amount old amount) t scan (record old { stage = stage.Quantity amount; number = scan }) want
    (k behind) (k behind).1 (λ item more. refl)

pub amount-need : (old : DimenScan) (scan : IntScan) (amount : Amount) (t : Seen) (kind : Kind) → integers.IsFed old.number t scan (fed.Need kind) → (behind : List Item) → IsMeasuring (integers.most old.number) (λ more. next (integers.rest old.number behind (Took t) more) (on_amount old amount)) t (record old { stage = stage.Quantity amount; number = scan }) (fed.Need kind)
amount-need old scan amount t kind k = λ behind.
    need-next integers.rest integers.held rest held (integers.most old.number) (integers.most old.number) (λ more. integers.rest old.number behind (Took t) more) (on_amount old amount) t scan (record old { stage = stage.Quantity amount; number = scan }) kind
    (k behind) (k behind).1 (λ item more. refl)

pub amount-wrong : (old new : DimenScan) (scan : IntScan) (amount : Amount) (t : Seen) (error : TexError) → integers.IsFed old.number t scan (fed.Wrong error) → (behind : List Item) → IsMeasuring (integers.most old.number) (λ more. next (integers.rest old.number behind (Took t) more) (on_amount old amount)) t new (fed.Wrong error)
amount-wrong old new scan amount t error k = λ behind more. ap (λ r. next r (on_amount old amount)) (k behind more)

pub amount-done : (old new : DimenScan) (scan : IntScan) (amount : Amount) (t : Seen) (n m : ℤ) (back : ℕ) (answer : Fed Measure) → integers.IsFed old.number t scan (fed.Done n back) → m ≡ n → IsEnd (λ more. on_amount old amount m more) back answer → (behind : List Item) → IsMeasuring (integers.most old.number) (λ more. next (integers.rest old.number behind (Took t) more) (on_amount old amount)) t new answer
amount-done old new scan amount t n m back answer k f e = λ behind.
    done-next integers.rest integers.held rest held (integers.most old.number) (integers.most old.number) (λ more. integers.rest old.number behind (Took t) more) (on_amount old amount) t scan new n back answer (k behind)
    (end-next rest held (integers.most old.number) (on_amount old amount n) t back new answer (k behind).0 (rw f at e))

-- an answer that holds no token, and gives none back
answer-passed : (reading : List Item → Reading Measure) (t : Seen) (new : DimenScan) (answer : Fed Measure) → IsMeasuring 0 reading t new answer → IsPassed rest held reading [] 0 new answer
answer-passed reading t new (fed.More want) k = k
answer-passed reading t new (fed.Need kind) k =
    let none : held new ≡ 0 = omega (arith, k.1) in
    (k.0, none, rw none at k.2)
answer-passed reading t new (fed.Done value back) k =
    let none : back ≡ 0 = omega (arith, k.0) in
    (none, rw none at k.1)
answer-passed reading t new (fed.Wrong error) k = k

short-held : (n : ℕ) (behind : Option Seen) → length (held_items n behind) ≤ n
short-held zero behind = omega arith
short-held (suc n) None = omega arith
short-held (suc n) (Some t) = omega arith

short-items : (old : DimenScan) → length (behind_it old) ≤ integers.held old.number
short-items old = short-held (integers.held old.number) old.behind

-- the value that a factor waits for
pub given-factor-more : (old : DimenScan) (scan : IntScan) (v : Value) (want : Want) → old.stage ≡ stage.Coefficient → integers.IsGiven old.number v scan (fed.More want) → IsGivenBy rest held old v (record old { number = scan }) (fed.More want)
given-factor-more old scan v want s k = λ behind short. rw s (
  ap (λ r. next r (on_factor old)) (k (behind_it old) (short-items old)).0,
  refl,
  λ item more. ap (λ r. next r (on_factor old)) ((k (behind_it old) (short-items old)).2 item more ∙ ap (λ (n : ℕ). integers.rest scan (held_items n old.behind) item more) (sym (k (behind_it old) (short-items old)).1)),
)

pub given-factor-need : (old : DimenScan) (scan : IntScan) (v : Value) (kind : Kind) → old.stage ≡ stage.Coefficient → integers.IsGiven old.number v scan (fed.Need kind) → IsGivenBy rest held old v (record old { number = scan }) (fed.Need kind)
given-factor-need old scan v kind s k = λ behind short. rw s (
  ap (λ r. next r (on_factor old)) (k (behind_it old) (short-items old)).0,
  refl,
  λ item more. ap (λ r. next r (on_factor old)) ((k (behind_it old) (short-items old)).2 item more ∙ ap (λ (n : ℕ). integers.rest scan (held_items n old.behind) item more) (sym (k (behind_it old) (short-items old)).1)),
)

pub given-factor-wrong : (old new : DimenScan) (scan : IntScan) (v : Value) (error : TexError) → old.stage ≡ stage.Coefficient → integers.IsGiven old.number v scan (fed.Wrong error) → IsGivenBy rest held old v new (fed.Wrong error)
given-factor-wrong old new scan v error s k = λ behind short more.
    rw s (ap (λ r. next r (on_factor old)) (k (behind_it old) (short-items old) more))

none-passed : (reading : List Item → Reading Measure) (behind : List Item) (n : ℕ) (new : DimenScan) (answer : Fed Measure) → n ≡ 0 → length behind ≤ n → IsPassed rest held reading [] 0 new answer → IsPassed rest held reading behind n new answer
none-passed reading [] n new answer e short k = rw e k
none-passed reading (i ∷ behind) n new answer e short k = absurd (omega (arith, e, short))

given-factor-done : (old new : DimenScan) (scan : IntScan) (v : Value) (n : ℤ) (back : ℕ) (t : Seen) (answer : Fed Measure) → old.stage ≡ stage.Coefficient → integers.IsGiven old.number v scan (fed.Done n back) → IsMeasuring 0 (λ more. on_factor old n (behind_it old ++ more)) t new answer → IsGivenBy rest held old v new answer
given-factor-done old new scan v n back t answer s k later = λ behind short.
    none-passed (λ more. rest old behind (Gave v) more) behind (held old) new answer (rw s refl) short
    (same-passed rest held (λ more. rest old behind (Gave v) more) (λ more. on_factor old n (behind_it old ++ more)) [] 0 0 new answer
    (λ more. rw s (ap (λ r. next r (on_factor old)) ((k (behind_it old) (short-items old)).1 more))) refl
    (answer-passed (λ more. on_factor old n (behind_it old ++ more)) t new answer later))

-- some token, where none is asked
abbrev some_token : Seen
some_token = record { token = FrozenRelax; meaning = Undefined }

pub given-factor-ends : (old new : DimenScan) (scan : IntScan) (v : Value) (n m : ℤ) (back : ℕ) (answer : Fed Measure) → old.stage ≡ stage.Coefficient → integers.IsGiven old.number v scan (fed.Done n back) → behind_it old ≡ [] → m ≡ n → ((t : Seen) → IsMeasuring 0 (λ more. on_factor old m more) t new answer) → IsGivenBy rest held old v new answer
given-factor-ends old new scan v n m back answer s k e f later =
    given-factor-done old new scan v n back some_token answer s k (rw e (rw f at (later some_token)))

pub given-factor-ends-before : {E : Type 0} (old new : DimenScan) (scan : IntScan) (v : Value) (n m : ℤ) (back : ℕ) (t : Seen) (answer : Result (Fed Measure) E) → old.stage ≡ stage.Coefficient → integers.IsGiven old.number v scan (fed.Done n back) → behind_it old ≡ Took t ∷ [] → m ≡ n → IfOk answer (IsMeasuring 0 (λ more. on_factor old m (Took t ∷ more)) t new) → IfOk answer (IsGivenBy rest held old v new)
given-factor-ends-before old new scan v n m back t (Ok answer) s k e f later =
    given-factor-done old new scan v n back t answer s k
    (subst (λ items. IsMeasuring 0 (λ more. on_factor old n (items ++ more)) t new answer) (sym e) (subst (λ k. IsMeasuring 0 (λ more. on_factor old k (Took t ∷ more)) t new answer) f later))
given-factor-ends-before old new scan v n m back t (Err error) s k e f later = tt

-- which tokens are behind a factor that has ended
none-held : (n : ℕ) (behind : Option Seen) → n ≡ 0 → held_items n behind ≡ []
none-held n behind e = rw e refl

pub ends-alone : (old : DimenScan) (scan : IntScan) (v : Value) (n : ℤ) (back : ℕ) → integers.IsGiven old.number v scan (fed.Done n back) → back ≡ 0 → behind_it old ≡ []
ends-alone old scan v n back k e = none-held (integers.held old.number) old.behind (sym (k [] (omega arith)).0 ∙ e)

none-behind : (n : ℕ) → held_items n None ≡ []
none-behind zero = refl
none-behind (suc n) = refl

pub ends-unseen : (old : DimenScan) → old.behind ≡ None → behind_it old ≡ []
ends-unseen old e = rw e (none-behind (integers.held old.number))

one-behind : (n : ℕ) (t : Seen) → (n ≡ 0 → ⊥) → held_items n (Some t) ≡ Took t ∷ []
one-behind zero t e = absurd (e refl)
one-behind (suc n) t e = refl

pub ends-seen : (old : DimenScan) (scan : IntScan) (v : Value) (n : ℤ) (back : ℕ) (t : Seen) → integers.IsGiven old.number v scan (fed.Done n back) → (back ≡ 0 → ⊥) → old.behind ≡ Some t → behind_it old ≡ Took t ∷ []
ends-seen old scan v n back t k e b = rw b (one-behind (integers.held old.number) t (λ none. e ((k [] (omega arith)).0 ∙ none)))

-- where a token was held, one value more may be needed
pub held-needs : (old : DimenScan) (scan : IntScan) (v : Value) (n : ℤ) (back : ℕ) → old.stage ≡ stage.Coefficient → integers.IsGiven old.number v scan (fed.Done n back) → (back ≡ 0 → ⊥) → 1 ≤ more_needed old
held-needs old scan v n back s k e =
    let same : back ≡ integers.held old.number = (k [] (omega arith)).0 in
    rw s (omega (arith, same, e))

-- the value that a quantity waits for
pub given-amount-more : (old : DimenScan) (scan : IntScan) (amount : Amount) (v : Value) (want : Want) → old.stage ≡ stage.Quantity amount → integers.IsGiven old.number v scan (fed.More want) → IsGivenBy rest held old v (record old { number = scan }) (fed.More want)
given-amount-more old scan amount v want s k = λ behind short. rw s (
  ap (λ r. next r (on_amount old amount)) (k behind (rw s at short)).0,
  (k behind (rw s at short)).1,
  λ item more. ap (λ r. next r (on_amount old amount)) ((k behind (rw s at short)).2 item more),
)

pub given-amount-need : (old : DimenScan) (scan : IntScan) (amount : Amount) (v : Value) (kind : Kind) → old.stage ≡ stage.Quantity amount → integers.IsGiven old.number v scan (fed.Need kind) → IsGivenBy rest held old v (record old { number = scan }) (fed.Need kind)
given-amount-need old scan amount v kind s k = λ behind short. rw s (
  ap (λ r. next r (on_amount old amount)) (k behind (rw s at short)).0,
  (k behind (rw s at short)).1,
  λ item more. ap (λ r. next r (on_amount old amount)) ((k behind (rw s at short)).2 item more),
)

pub given-amount-wrong : (old new : DimenScan) (scan : IntScan) (amount : Amount) (v : Value) (error : TexError) → old.stage ≡ stage.Quantity amount → integers.IsGiven old.number v scan (fed.Wrong error) → IsGivenBy rest held old v new (fed.Wrong error)
given-amount-wrong old new scan amount v error s k = λ behind short more. rw s (ap (λ r. next r (on_amount old amount)) (k behind (rw s at short) more))

-- an answer that ends a thing, with the tokens behind it
pub end-passed : (reading : List Item → Reading Measure) (behind : List Item) (back : ℕ) (new : DimenScan) (answer : Fed Measure) → IsEnd reading back answer → IsPassed rest held (λ more. reading (behind ++ more)) behind back new answer
end-passed reading behind back new (fed.More want) k = absurd k
end-passed reading behind back new (fed.Need kind) k = absurd k
end-passed reading behind back new (fed.Done value count) k = (k.0, λ more. k.1 (behind ++ more))
end-passed reading behind back new (fed.Wrong error) k = λ more. k (behind ++ more)

pub given-amount-done : (old new : DimenScan) (scan : IntScan) (amount : Amount) (v : Value) (n m : ℤ) (back : ℕ) (answer : Fed Measure) → old.stage ≡ stage.Quantity amount → integers.IsGiven old.number v scan (fed.Done n back) → m ≡ n → IsEnd (λ more. on_amount old amount m more) back answer → IsGivenBy rest held old v new answer
given-amount-done old new scan amount v n m back answer s k f e = λ behind short.
    same-passed rest held (λ more. rest old behind (Gave v) more) (λ more. on_amount old amount n (behind ++ more)) behind (held old) back new answer
    (λ more. rw s (ap (λ r. next r (on_amount old amount)) ((k behind (rw s at short)).1 more))) (rw s (sym (k behind (rw s at short)).0))
    (end-passed (on_amount old amount n) behind back new answer (rw f at e))

-- more values than are needed
pub needs-wider : {A : Type 0} (answer : Fed A) (m n new : ℕ) → m ≤ n → NeedsNoMore m new answer → NeedsNoMore n new answer
needs-wider (fed.More want) m n new h k = omega (arith, h, k)
needs-wider (fed.Need kind) m n new h k = omega (arith, h, k)
needs-wider (fed.Done value back) m n new h k = tt
needs-wider (fed.Wrong error) m n new h k = tt

pub needs-wider-ok : {A E : Type 0} (answer : Result (Fed A) E) (m n new : ℕ) → m ≤ n → IfOk answer (NeedsNoMore m new) → IfOk answer (NeedsNoMore n new)
needs-wider-ok (Ok answer) m n new h k = needs-wider answer m n new h k
needs-wider-ok (Err e) m n new h k = tt

-- where a token was held, one value fewer is needed from then on
fewer-behind : {A : Type 0} (answer : Fed A) (old new : ℕ) → 1 ≤ old → NeedsNoMore 0 new answer → NeedsFewer old new answer
fewer-behind (fed.More want) old new h k = omega (arith, h, k)
fewer-behind (fed.Need kind) old new h k = omega (arith, h, k)
fewer-behind (fed.Done value back) old new h k = tt
fewer-behind (fed.Wrong error) old new h k = tt

pub fewer-behind-ok : {A E : Type 0} (answer : Result (Fed A) E) (old new : ℕ) → 1 ≤ old → IfOk answer (NeedsNoMore 0 new) → IfOk answer (NeedsFewer old new)
fewer-behind-ok (Ok answer) old new h k = fewer-behind answer old new h k
fewer-behind-ok (Err e) old new h k = tt
