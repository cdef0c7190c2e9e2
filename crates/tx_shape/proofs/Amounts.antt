-- A number or a size, as a part of a command's rest.
use Rattle.std.proofs.Common.{◌≡◌, ◌≤◌, ◌+◌, ◌==◌, Bool, true, false, if◌then◌else◌, ℕ, ℤ, zero, suc, Option, Some, None, List, [], ◌∷◌, ◌++◌, refl, ap, sym, ◌∙◌, arith}
use Rattle.std.specs.Prelude.{nat_le}
use Rattle.tx_prim.specs.declared.family.MathSize.{MathSize}
use Rattle.tx_seen.specs.declared.fed.Fed.{Fed}
use Rattle.tx_seen.specs.declared.fed.Fed.TheVariants as fed
use Rattle.tx_seen.specs.declared.fed.Kind.{Kind}
use Rattle.tx_seen.specs.declared.fed.Value.{Value}
use Rattle.tx_seen.specs.declared.fed.Want.{Want}
use Rattle.tx_seen.specs.declared.item.Item.{Item}
use Rattle.tx_seen.specs.declared.item.Item.TheVariants.{Took, Gave}
use Rattle.tx_seen.specs.declared.seen.Seen.{Seen}
use Rattle.tx_seen.specs.Readings.{Reading, Done, next, ending}
use Rattle.tx_scan.specs.declared.scans.DimenScan.{DimenScan}
use Rattle.tx_scan.specs.declared.scans.IntScan.{IntScan}
use Rattle.tx_scan.specs.declared.scans.Measure.{Measure}
use Rattle.tx_scan.specs.IntegerRests as integers
use Rattle.tx_scan.specs.DimensionRests as sizes
use Rattle.tx_scan.specs.Integers.{byte_of}
use Rattle.tx_scan.specs.Mapped.{mapped}
use Rattle.tx_scan.specs.Rests.{HoldsOne, IsAnswer, IsFedBy, IsGivenBehind, IsGivenBy, IsRead, kept}
use Rattle.tx_scan.specs.Supplied.{NeedsFewer, NeedsNoMore}
use Rattle.tx_scan.proofs.Answering.{ending-kept, ending-none}
use Rattle.tx_scan.proofs.Behind.{given-behind, read-one}
use Rattle.tx_scan.proofs.Mappings.{Rest, mapped-given, needs-mapped, read-none, same-read}
use Rattle.tx_scan.proofs.Mosts.{most-integer, most-size}
use Rattle.tx_shape.specs.declared.scans.Amount.TheVariants as amount
use Rattle.tx_shape.specs.declared.scans.AmountScan.{AmountScan}
use Rattle.tx_shape.specs.declared.scans.Next.{Next}
use Rattle.tx_shape.specs.declared.scans.Next.TheVariants.{Part, Font, Whole, Wrong}
use Rattle.tx_shape.specs.declared.scans.NumberSetting.{NumberSetting}
use Rattle.tx_shape.specs.declared.scans.Registering.{Registering}
use Rattle.tx_shape.specs.declared.scans.Registering.TheVariants as registering
use Rattle.tx_shape.specs.declared.scans.ShapeScan.{ShapeScan}
use Rattle.tx_shape.specs.declared.scans.Sizing.{Sizing}
use Rattle.tx_shape.specs.declared.scans.Sizing.TheVariants as sizing
use Rattle.tx_shape.specs.declared.scans.Stage.TheVariants as stage
use Rattle.tx_shape.specs.declared.scans.Plain.TheVariants as plain
use Rattle.tx_shape.specs.declared.types.Opener.TheVariants.{Insert}
use Rattle.tx_shape.specs.declared.types.Shaped.{Shaped}
use Rattle.tx_seen.specs.declared.error.TexError.TheVariants.{NumberOutOfRange}
use Rattle.tx_shape.specs.AmountRests.{IsAmountFed, LeavesFewer, amount_held, amount_needed, amount_rest, needed_behind}
use Rattle.tx_shape.specs.Nexts.{behind_byte, behind_measure, behind_number, behind_parameter, behind_penalty, behind_register, behind_set, behind_size, next_rest}
use Rattle.tx_shape.specs.Rests.{Begins, WaitsIfNeeded, held, needed, rest, stage_held, stage_rest}

-- one thing is made of another
mapped-answer : {S T A B : Type 0} (part : Rest S A) (part_held : S → ℕ) (whole : Rest T B) (whole_held : T → ℕ) (f : A → B) (few most : ℕ) (reading : List Item → Reading A) (t : Seen) (scan : S) (new : T) (answer : Fed A) → few ≤ most → ((behind : List Item) (item : Item) (more : List Item) → whole new behind item more ≡ next (part scan behind item more) (λ a rest. Done (f a) rest)) → whole_held new ≡ part_held scan → IsAnswer part part_held few reading t scan answer → IsAnswer whole whole_held most (λ more. next (reading more) (λ a rest. Done (f a) rest)) t new (mapped f answer)
mapped-answer part part_held whole whole_held f few most reading t scan new (fed.More want) h same count k = (
  ap (λ r. next r (λ a rest. Done (f a) rest)) k.0,
  count ∙ k.1,
  λ item more. ap (λ r. next r (λ a rest. Done (f a) rest)) (k.2 item more) ∙ sym (same [] item more),
)
mapped-answer part part_held whole whole_held f few most reading t scan new (fed.Need kind) h same count k = (
  ap (λ r. next r (λ a rest. Done (f a) rest)) k.0,
  rw count (omega (arith, h, k.1)),
  λ item more. ap (λ r. next r (λ a rest. Done (f a) rest)) (k.2 item more) ∙ (sym (same (kept (part_held scan) t) item more) ∙ ap (λ (n : ℕ). whole new (kept n t) item more) (sym count)),
)
mapped-answer part part_held whole whole_held f few most reading t scan new (fed.Done value back) h same count k =
    (omega (arith, h, k.0), λ more. ap (λ r. next r (λ a rest. Done (f a) rest)) (k.1 more))
mapped-answer part part_held whole whole_held f few most reading t scan new (fed.Wrong error) h same count k =
    λ more. ap (λ r. next r (λ a rest. Done (f a) rest)) (k more)

-- a number that is a penalty
pub penalty-fed : (old : AmountScan) (scan : IntScan) (t : Seen) (answer : Fed ℤ) → old.amount ≡ amount.Penalty → integers.IsFed old.integer t scan answer → IsAmountFed old t (record old { integer = scan }) (mapped behind_penalty answer)
penalty-fed old scan t answer was k = λ behind. rw was
    (mapped-answer integers.rest integers.held amount_rest amount_held behind_penalty (integers.most old.integer) 1 (λ more. integers.rest old.integer behind (Took t) more) t scan (record old { integer = scan; amount = amount.Penalty }) answer
    (most-integer old.integer) (λ behind item more. refl) refl (k behind))

pub penalty-given : (old : AmountScan) (scan : IntScan) (v : Value) (answer : Fed ℤ) → old.amount ≡ amount.Penalty → IsGivenBy integers.rest integers.held old.integer v scan answer → IsGivenBy amount_rest amount_held old v (record old { integer = scan }) (mapped behind_penalty answer)
penalty-given old scan v answer was k = rw was
    (mapped-given integers.rest integers.held amount_rest amount_held behind_penalty old.integer scan (record old { amount = amount.Penalty }) (record old { integer = scan; amount = amount.Penalty }) v answer
    (λ behind item more. refl) refl (λ behind item more. refl) refl k)

-- the number of a register
pub register-fed : (what : Registering) (old : AmountScan) (scan : IntScan) (t : Seen) (answer : Fed ℤ) → old.amount ≡ amount.Register what → integers.IsFed old.integer t scan answer → IsAmountFed old t (record old { integer = scan }) (mapped (behind_number what) answer)
register-fed what old scan t answer was k = λ behind. rw was
    (mapped-answer integers.rest integers.held amount_rest amount_held (behind_number what) (integers.most old.integer) 1 (λ more. integers.rest old.integer behind (Took t) more) t scan (record old { integer = scan; amount = amount.Register what }) answer
    (most-integer old.integer) (λ behind item more. refl) refl (k behind))

pub register-given : (what : Registering) (old : AmountScan) (scan : IntScan) (v : Value) (answer : Fed ℤ) → old.amount ≡ amount.Register what → IsGivenBy integers.rest integers.held old.integer v scan answer → IsGivenBy amount_rest amount_held old v (record old { integer = scan }) (mapped (behind_number what) answer)
register-given what old scan v answer was k = rw was
    (mapped-given integers.rest integers.held amount_rest amount_held (behind_number what) old.integer scan (record old { amount = amount.Register what }) (record old { integer = scan; amount = amount.Register what }) v answer
    (λ behind item more. refl) refl (λ behind item more. refl) refl k)

-- a number that is set
pub number-fed : (what : NumberSetting) (old : AmountScan) (scan : IntScan) (t : Seen) (answer : Fed ℤ) → old.amount ≡ amount.Number what → integers.IsFed old.integer t scan answer → IsAmountFed old t (record old { integer = scan }) (mapped (behind_set what) answer)
number-fed what old scan t answer was k = λ behind. rw was
    (mapped-answer integers.rest integers.held amount_rest amount_held (behind_set what) (integers.most old.integer) 1 (λ more. integers.rest old.integer behind (Took t) more) t scan (record old { integer = scan; amount = amount.Number what }) answer
    (most-integer old.integer) (λ behind item more. refl) refl (k behind))

pub number-given : (what : NumberSetting) (old : AmountScan) (scan : IntScan) (v : Value) (answer : Fed ℤ) → old.amount ≡ amount.Number what → IsGivenBy integers.rest integers.held old.integer v scan answer → IsGivenBy amount_rest amount_held old v (record old { integer = scan }) (mapped (behind_set what) answer)
number-given what old scan v answer was k = rw was
    (mapped-given integers.rest integers.held amount_rest amount_held (behind_set what) old.integer scan (record old { amount = amount.Number what }) (record old { integer = scan; amount = amount.Number what }) v answer
    (λ behind item more. refl) refl (λ behind item more. refl) refl k)

-- the number of a parameter
pub parameter-fed : (old : AmountScan) (scan : IntScan) (t : Seen) (answer : Fed ℤ) → old.amount ≡ amount.FontDimen → integers.IsFed old.integer t scan answer → IsAmountFed old t (record old { integer = scan }) (mapped behind_parameter answer)
parameter-fed old scan t answer was k = λ behind. rw was
    (mapped-answer integers.rest integers.held amount_rest amount_held behind_parameter (integers.most old.integer) 1 (λ more. integers.rest old.integer behind (Took t) more) t scan (record old { integer = scan; amount = amount.FontDimen }) answer
    (most-integer old.integer) (λ behind item more. refl) refl (k behind))

pub parameter-given : (old : AmountScan) (scan : IntScan) (v : Value) (answer : Fed ℤ) → old.amount ≡ amount.FontDimen → IsGivenBy integers.rest integers.held old.integer v scan answer → IsGivenBy amount_rest amount_held old v (record old { integer = scan }) (mapped behind_parameter answer)
parameter-given old scan v answer was k = rw was
    (mapped-given integers.rest integers.held amount_rest amount_held behind_parameter old.integer scan (record old { amount = amount.FontDimen }) (record old { integer = scan; amount = amount.FontDimen }) v answer
    (λ behind item more. refl) refl (λ behind item more. refl) refl k)

-- a size
pub size-fed : (what : Sizing) (old : AmountScan) (scan : DimenScan) (t : Seen) (answer : Fed Measure) → old.amount ≡ amount.Size what → sizes.IsFed old.size t scan answer → IsAmountFed old t (record old { size = scan }) (mapped (behind_measure what) answer)
size-fed what old scan t answer was k = λ behind. rw was
    (mapped-answer sizes.rest sizes.held amount_rest amount_held (behind_measure what) (sizes.most old.size) 1 (λ more. sizes.rest old.size behind (Took t) more) t scan (record old { size = scan; amount = amount.Size what }) answer
    (most-size old.size) (λ behind item more. refl) refl (k behind))

pub size-given : (what : Sizing) (old : AmountScan) (scan : DimenScan) (v : Value) (answer : Fed Measure) → old.amount ≡ amount.Size what → IsGivenBy sizes.rest sizes.held old.size v scan answer → IsGivenBy amount_rest amount_held old v (record old { size = scan }) (mapped (behind_measure what) answer)
size-given what old scan v answer was k = rw was
    (mapped-given sizes.rest sizes.held amount_rest amount_held (behind_measure what) old.size scan (record old { amount = amount.Size what }) (record old { size = scan; amount = amount.Size what }) v answer
    (λ behind item more. refl) refl (λ behind item more. refl) refl k)

-- how many values they need
pub penalty-needs : (old : AmountScan) (scan : IntScan) (answer : Fed ℤ) → old.amount ≡ amount.Penalty → NeedsNoMore (integers.waiting old.integer) (integers.waiting scan) answer → NeedsNoMore (amount_needed old) (amount_needed (record old { integer = scan })) (mapped behind_penalty answer)
penalty-needs old scan answer was k = rw was (needs-mapped behind_penalty (integers.waiting old.integer) (integers.waiting scan) answer k)

pub register-needs : (what : Registering) (old : AmountScan) (scan : IntScan) (answer : Fed ℤ) → old.amount ≡ amount.Register what → NeedsNoMore (integers.waiting old.integer) (integers.waiting scan) answer → NeedsNoMore (amount_needed old) (amount_needed (record old { integer = scan })) (mapped (behind_number what) answer)
register-needs what old scan answer was k = rw was (needs-mapped (behind_number what) (integers.waiting old.integer) (integers.waiting scan) answer k)

pub number-needs : (what : NumberSetting) (old : AmountScan) (scan : IntScan) (answer : Fed ℤ) → old.amount ≡ amount.Number what → NeedsNoMore (integers.waiting old.integer) (integers.waiting scan) answer → NeedsNoMore (amount_needed old) (amount_needed (record old { integer = scan })) (mapped (behind_set what) answer)
number-needs what old scan answer was k = rw was (needs-mapped (behind_set what) (integers.waiting old.integer) (integers.waiting scan) answer k)

pub size-needs : (what : Sizing) (old : AmountScan) (scan : DimenScan) (answer : Fed Measure) → old.amount ≡ amount.Size what → NeedsNoMore (sizes.more_needed old.size) (sizes.more_needed scan) answer → NeedsNoMore (amount_needed old) (amount_needed (record old { size = scan })) (mapped (behind_measure what) answer)
size-needs what old scan answer was k = rw was (needs-mapped (behind_measure what) (sizes.more_needed old.size) (sizes.more_needed scan) answer k)

more-needed : (old most new : ℕ) (answer : Fed ℤ) → old ≤ most → NeedsNoMore old new answer → NeedsNoMore most new answer
more-needed old most new (fed.More want) h k = omega (arith, h, k)
more-needed old most new (fed.Need kind) h k = omega (arith, h, k)
more-needed old most new (fed.Done n back) h k = tt
more-needed old most new (fed.Wrong error) h k = tt

pub parameter-needs : (old : AmountScan) (scan : IntScan) (answer : Fed ℤ) → old.amount ≡ amount.FontDimen → NeedsNoMore (integers.waiting old.integer) (integers.waiting scan + integers.held scan) answer → NeedsNoMore (amount_needed old) (amount_needed (record old { integer = scan })) (mapped behind_parameter answer)
parameter-needs old scan answer was k = rw was
    (needs-mapped behind_parameter (integers.waiting old.integer + integers.held old.integer) (integers.waiting scan + integers.held scan) answer
    (more-needed (integers.waiting old.integer) (integers.waiting old.integer + integers.held old.integer) (integers.waiting scan + integers.held scan) answer (omega arith) k))

-- and behind a value: what follows needs none, but for the font of a parameter
leaves-mapped : {A : Type 0} (f : A → Next) (old new : ℕ) (answer : Fed A) → ((a : A) (back : ℕ) → needed_behind (f a) back ≡ 0) → NeedsFewer old new answer → LeavesFewer old new (mapped f answer)
leaves-mapped f old new (fed.More want) none k = k
leaves-mapped f old new (fed.Need kind) none k = k
leaves-mapped f old new (fed.Done a back) none k = rw (none a back) (omega arith)
leaves-mapped f old new (fed.Wrong error) none k = tt

class-alone : (is_last : Bool) (n back : ℕ) → needed_behind (if is_last then Wrong NumberOutOfRange else Part (plain.Open (Insert n))) back ≡ 0
class-alone true n back = refl
class-alone false n back = refl

family-alone : (is_family : Bool) (size : MathSize) (n back : ℕ) → needed_behind (if is_family then Part (plain.FamilyEquals size n) else Wrong NumberOutOfRange) back ≡ 0
family-alone true size n back = refl
family-alone false size n back = refl

register-alone : (what : Registering) (n back : ℕ) → needed_behind (behind_register what n) back ≡ 0
register-alone (registering.Use context) n back = refl
register-alone (registering.Copy context) n back = refl
register-alone (registering.Unbox kind) n back = refl
register-alone registering.Set n back = refl
register-alone registering.Character n back = refl
register-alone registering.Accent n back = refl
register-alone registering.Insert n back = class-alone (n == 255) n back
register-alone (registering.Split context) n back = refl
register-alone (registering.Family size) n back = family-alone (nat_le n 15) size n back

byte-alone : (what : Registering) (byte : Option ℕ) (back : ℕ) → needed_behind (behind_byte what byte) back ≡ 0
byte-alone what None back = refl
byte-alone what (Some n) back = register-alone what n back

size-alone : (what : Sizing) (size : ℤ) (back : ℕ) → needed_behind (behind_size what size) back ≡ 0
size-alone (sizing.To opening) size back = refl
size-alone (sizing.Spread opening) size back = refl
size-alone (sizing.Shift kind) size back = refl
size-alone (sizing.Set what) size back = refl
size-alone (sizing.Split n context) size back = refl

pub penalty-fewer : (old : AmountScan) (scan : IntScan) (answer : Fed ℤ) → old.amount ≡ amount.Penalty → NeedsFewer (integers.waiting old.integer) (integers.waiting scan) answer → LeavesFewer (amount_needed old) (amount_needed (record old { integer = scan })) (mapped behind_penalty answer)
penalty-fewer old scan answer was k = rw was (leaves-mapped behind_penalty (integers.waiting old.integer) (integers.waiting scan) answer (λ n back. refl) k)

pub register-fewer : (what : Registering) (old : AmountScan) (scan : IntScan) (answer : Fed ℤ) → old.amount ≡ amount.Register what → NeedsFewer (integers.waiting old.integer) (integers.waiting scan) answer → LeavesFewer (amount_needed old) (amount_needed (record old { integer = scan })) (mapped (behind_number what) answer)
register-fewer what old scan answer was k = rw was (leaves-mapped (behind_number what) (integers.waiting old.integer) (integers.waiting scan) answer (λ n back. byte-alone what (byte_of n) back) k)

pub number-fewer : (what : NumberSetting) (old : AmountScan) (scan : IntScan) (answer : Fed ℤ) → old.amount ≡ amount.Number what → NeedsFewer (integers.waiting old.integer) (integers.waiting scan) answer → LeavesFewer (amount_needed old) (amount_needed (record old { integer = scan })) (mapped (behind_set what) answer)
number-fewer what old scan answer was k = rw was (leaves-mapped (behind_set what) (integers.waiting old.integer) (integers.waiting scan) answer (λ n back. refl) k)

pub size-fewer : (what : Sizing) (old : AmountScan) (scan : DimenScan) (answer : Fed Measure) → old.amount ≡ amount.Size what → NeedsFewer (sizes.more_needed old.size) (sizes.more_needed scan) answer → LeavesFewer (amount_needed old) (amount_needed (record old { size = scan })) (mapped (behind_measure what) answer)
size-fewer what old scan answer was k = rw was (leaves-mapped (behind_measure what) (sizes.more_needed old.size) (sizes.more_needed scan) answer (λ measure back. size-alone what measure.size back) k)

-- the token behind the number of a parameter is held as long as that waits for a value
parameter-leaves : (old scan : IntScan) (v : Value) (answer : Fed ℤ) → IsGivenBy integers.rest integers.held old v scan answer → NeedsFewer (integers.waiting old) (integers.waiting scan) answer → LeavesFewer (integers.waiting old + integers.held old) (integers.waiting scan + integers.held scan) (mapped behind_parameter answer)
parameter-leaves old scan v (fed.More want) given k = let same : integers.held scan ≡ integers.held old = (given [] (omega arith)).1 in omega (arith, same, k)
parameter-leaves old scan v (fed.Need kind) given k = let same : integers.held scan ≡ integers.held old = (given [] (omega arith)).1 in omega (arith, same, k)
parameter-leaves old scan v (fed.Done n back) given k = let same : back ≡ integers.held old = (given [] (omega arith)).0 in omega (arith, same)
parameter-leaves old scan v (fed.Wrong error) given k = tt

pub parameter-fewer : (old : AmountScan) (scan : IntScan) (v : Value) (answer : Fed ℤ) → old.amount ≡ amount.FontDimen → IsGivenBy integers.rest integers.held old.integer v scan answer → NeedsFewer (integers.waiting old.integer) (integers.waiting scan) answer → LeavesFewer (amount_needed old) (amount_needed (record old { integer = scan })) (mapped behind_parameter answer)
parameter-fewer old scan v answer was given k = rw was (parameter-leaves old.integer scan v answer given k)

-- what follows: the number or the size goes on
abbrev on_with : (List Item → Reading Next) → List Item → Reading Shaped
on_with reading more = next (reading more) next_rest

pub fed-more : (scan : ShapeScan) (reading : List Item → Reading Next) (behind : List Item) (count : ℕ) (t : Seen) (want : Want) → scan.stage ≡ stage.Amount → IsAnswer amount_rest amount_held 1 reading t scan.amount (fed.More want) → IsRead rest held (count + 1) (on_with reading) (behind ++ Took t ∷ []) scan (fed.More want)
fed-more scan reading behind count t want was k = (
  ap (λ r. next r next_rest) k.0,
  rw was (omega (arith, k.1)),
  λ item more.
      ap (λ r. next r next_rest) (k.2 item more)
      ∙ (ap (λ (behind : List Item). next (amount_rest scan.amount behind item more) next_rest) (sym (ap (λ (n : ℕ). ending n (behind ++ Took t ∷ [])) k.1 ∙ ending-none (behind ++ Took t ∷ [])))
      ∙ ap (λ s. stage_rest s scan (ending (stage_held s scan) (behind ++ Took t ∷ [])) item more) (sym was)),
)

pub fed-need : (scan : ShapeScan) (reading : List Item → Reading Next) (behind : List Item) (count : ℕ) (t : Seen) (kind : Kind) → scan.stage ≡ stage.Amount → IsAnswer amount_rest amount_held 1 reading t scan.amount (fed.Need kind) → IsRead rest held (count + 1) (on_with reading) (behind ++ Took t ∷ []) scan (fed.Need kind)
fed-need scan reading behind count t kind was k = (
  ap (λ r. next r next_rest) k.0,
  rw was (omega (arith, k.1)),
  λ item more.
      ap (λ r. next r next_rest) (k.2 item more)
      ∙ (ap (λ (behind : List Item). next (amount_rest scan.amount behind item more) next_rest) (sym (ending-kept (amount_held scan.amount) behind t k.1))
      ∙ ap (λ s. stage_rest s scan (ending (stage_held s scan) (behind ++ Took t ∷ [])) item more) (sym was)),
)

pub given-more : (scan : ShapeScan) (reading : List Item → Reading Next) (count : ℕ) (t : Seen) (want : Want) → scan.stage ≡ stage.Amount → IsRead amount_rest amount_held count reading (kept count t) scan.amount (fed.More want) → IsRead rest held count (on_with reading) (kept count t) scan (fed.More want)
given-more scan reading count t want was k = (
  ap (λ r. next r next_rest) k.0,
  rw was k.1,
  λ item more. ap (λ r. next r next_rest) (k.2 item more) ∙ ap (λ s. stage_rest s scan (ending (stage_held s scan) (kept count t)) item more) (sym was),
)

pub given-need : (scan : ShapeScan) (reading : List Item → Reading Next) (count : ℕ) (t : Seen) (kind : Kind) → scan.stage ≡ stage.Amount → IsRead amount_rest amount_held count reading (kept count t) scan.amount (fed.Need kind) → IsRead rest held count (on_with reading) (kept count t) scan (fed.Need kind)
given-need scan reading count t kind was k = (
  ap (λ r. next r next_rest) k.0,
  rw was k.1,
  λ item more. ap (λ r. next r next_rest) (k.2 item more) ∙ ap (λ s. stage_rest s scan (ending (stage_held s scan) (kept count t)) item more) (sym was),
)

-- it is whole, and no token is behind it
pub fed-ends : (old : AmountScan) (new : ShapeScan) (reading : List Item → Reading Next) (behind : List Item) (count back : ℕ) (t : Seen) (value : Next) (answer : Fed Shaped) → back ≡ 0 → IsAnswer amount_rest amount_held 1 reading t old (fed.Done value back) → Begins (next_rest value) new answer → IsRead rest held (count + 1) (on_with reading) (behind ++ Took t ∷ []) new answer
fed-ends old new reading behind count back t value answer none k later =
    same-read rest held (count + 1) (on_with reading) (next_rest value) (behind ++ Took t ∷ []) new answer
    (λ more. ap (λ r. next r next_rest) (k.1 more) ∙ ap (λ (n : ℕ). next_rest value (kept n t ++ more)) none)
    (read-none rest held (count + 1) (next_rest value) (behind ++ Took t ∷ []) new answer later.reads)

pub given-ends : (old : AmountScan) (new : ShapeScan) (reading : List Item → Reading Next) (count back : ℕ) (t : Seen) (value : Next) (answer : Fed Shaped) → back ≡ 0 → IsRead amount_rest amount_held count reading (kept count t) old (fed.Done value back) → Begins (next_rest value) new answer → IsRead rest held count (on_with reading) (kept count t) new answer
given-ends old new reading count back t value answer none k later =
    same-read rest held count (on_with reading) (next_rest value) (kept count t) new answer
    (λ more. ap (λ r. next r next_rest) (k.1 more) ∙ ap (λ (behind : List Item). next_rest value (behind ++ more)) (ap (λ (n : ℕ). ending n (kept count t)) none ∙ ending-none (kept count t)))
    (read-none rest held count (next_rest value) (kept count t) new answer later.reads)

-- or this token is behind it
pub one-kept : (back : ℕ) (t : Seen) → (back ≡ 0 → ⊥) → kept back t ≡ Took t ∷ []
one-kept zero t some = absurd (some refl)
one-kept (suc n) t some = refl

ending-some : (back : ℕ) (t : Seen) → (back ≡ 0 → ⊥) → back ≤ 1 → ending back (Took t ∷ []) ≡ Took t ∷ []
ending-some zero t some h = absurd (some refl)
ending-some (suc zero) t some h = refl
ending-some (suc (suc n)) t some h = absurd (omega (arith, h))

pub fed-before : (old : AmountScan) (new : ShapeScan) (reading : List Item → Reading Next) (behind : List Item) (count back : ℕ) (t : Seen) (value : Next) (answer : Fed Shaped) → (back ≡ 0 → ⊥) → IsAnswer amount_rest amount_held 1 reading t old (fed.Done value back) → IsRead rest held 1 (λ more. next_rest value (Took t ∷ more)) (Took t ∷ []) new answer → IsRead rest held (count + 1) (on_with reading) (behind ++ Took t ∷ []) new answer
fed-before old new reading behind count back t value answer some k later =
    same-read rest held (count + 1) (on_with reading) (λ more. next_rest value (Took t ∷ more)) (behind ++ Took t ∷ []) new answer
    (λ more. ap (λ r. next r next_rest) (k.1 more) ∙ ap (λ (items : List Item). next_rest value (items ++ more)) (one-kept back t some))
    (read-one rest held count (λ more. next_rest value (Took t ∷ more)) behind t new answer later)

pub given-before : (old : AmountScan) (new : ShapeScan) (reading : List Item → Reading Next) (count back : ℕ) (t : Seen) (value : Next) (answer : Fed Shaped) → (back ≡ 0 → ⊥) → count ≤ 1 → IsRead amount_rest amount_held count reading (kept count t) old (fed.Done value back) → IsRead rest held 1 (λ more. next_rest value (Took t ∷ more)) (Took t ∷ []) new answer → IsRead rest held count (on_with reading) (kept count t) new answer
given-before old new reading zero zero t value answer some h k later = absurd (some refl)
given-before old new reading zero (suc back) t value answer some h k later = absurd (omega (arith, k.0))
given-before old new reading (suc zero) back t value answer some h k later =
    same-read rest held 1 (on_with reading) (λ more. next_rest value (Took t ∷ more)) (Took t ∷ []) new answer
    (λ more. ap (λ r. next r next_rest) (k.1 more) ∙ ap (λ (items : List Item). next_rest value (items ++ more)) (ending-some back t some k.0)) later
given-before old new reading (suc (suc count)) back t value answer some h k later = absurd (omega (arith, h))

-- how many values are needed
pub needs-more : (scan : ShapeScan) (old : ℕ) (want : Want) → scan.stage ≡ stage.Amount → NeedsNoMore {A = Next} old (amount_needed scan.amount) (fed.More want) → NeedsNoMore {A = Shaped} old (needed scan) (fed.More want)
needs-more scan old want was k = rw was k

pub needs-need : (scan : ShapeScan) (old : ℕ) (kind : Kind) → scan.stage ≡ stage.Amount → NeedsNoMore {A = Next} old (amount_needed scan.amount) (fed.Need kind) → NeedsNoMore {A = Shaped} old (needed scan) (fed.Need kind)
needs-need scan old kind was k = rw was k

pub fewer-more : (scan : ShapeScan) (old : ℕ) (want : Want) → scan.stage ≡ stage.Amount → LeavesFewer old (amount_needed scan.amount) (fed.More want) → NeedsFewer {A = Shaped} old (needed scan) (fed.More want)
fewer-more scan old want was k = rw was k

pub fewer-need : (scan : ShapeScan) (old : ℕ) (kind : Kind) → scan.stage ≡ stage.Amount → LeavesFewer old (amount_needed scan.amount) (fed.Need kind) → NeedsFewer {A = Shaped} old (needed scan) (fed.Need kind)
fewer-need scan old kind was k = rw was k

-- behind a token that is read again
some-behind : (follows : Next) (back old : ℕ) → (back ≡ 0 → ⊥) → needed_behind follows back ≤ old → needed_behind follows 1 ≤ old
some-behind (Part part) back old some k = omega arith
some-behind (Font what) zero old some k = absurd (some refl)
some-behind (Font what) (suc back) old some k = omega (arith, k)
some-behind (Whole shaped) back old some k = omega arith
some-behind (Wrong error) back old some k = omega arith

pub fewer-before : (new : ShapeScan) (follows : Next) (back old : ℕ) (answer : Fed Shaped) → (back ≡ 0 → ⊥) → needed_behind follows back ≤ old → ((old : ℕ) → needed_behind follows 1 ≤ old → NeedsFewer old (needed new) answer) → NeedsFewer old (needed new) answer
fewer-before new follows back old answer some k later = later old (some-behind follows back old some k)

pub set-needs : (n old : ℕ) (answer : Fed Shaped) → NeedsNoMore 0 n answer → NeedsNoMore old n answer
set-needs n old (fed.More want) k = omega (arith, k)
set-needs n old (fed.Need kind) k = omega (arith, k)
set-needs n old (fed.Done shaped back) k = tt
set-needs n old (fed.Wrong error) k = tt

pub set-fewer : (n old : ℕ) (answer : Fed Shaped) → 1 ≤ old → NeedsNoMore 0 n answer → NeedsFewer old n answer
set-fewer n old (fed.More want) h k = omega (arith, h, k)
set-fewer n old (fed.Need kind) h k = omega (arith, h, k)
set-fewer n old (fed.Done shaped back) h k = tt
set-fewer n old (fed.Wrong error) h k = tt

-- where a value is needed
pub waits-need : (scan : ShapeScan) (kind : Kind) → scan.stage ≡ stage.Amount → HoldsOne {A = Next} (amount_held scan.amount) (fed.Need kind) → WaitsIfNeeded scan (fed.Need kind)
waits-need scan kind was k = rw was (tt, k)

pub none-waits : (scan : ShapeScan) (n : ℕ) (answer : Fed Shaped) → NeedsFewer 0 n answer → WaitsIfNeeded scan answer
none-waits scan n (fed.More want) k = tt
none-waits scan n (fed.Need kind) k = absurd (omega (arith, k))
none-waits scan n (fed.Done shaped back) k = tt
none-waits scan n (fed.Wrong error) k = tt

-- the whole, as the scan of the number or the size answers
pub fed-whole : (old new : ShapeScan) (scan : AmountScan) (t : Seen) (answer : Fed Next) (result : Fed Shaped) → old.stage ≡ stage.Amount → IsAmountFed old.amount t scan answer → ((reading : List Item → Reading Next) (behind : List Item) (count : ℕ) → IsAnswer amount_rest amount_held 1 reading t scan answer → IsRead rest held (count + 1) (on_with reading) (behind ++ Took t ∷ []) new result) → IsFedBy rest held old t new result
fed-whole old new scan t answer result was k later = λ behind h. rw was (later (λ more. amount_rest old.amount behind (Took t) more) behind (amount_held old.amount) (k behind))

pub given-whole : (old new : ShapeScan) (scan : AmountScan) (v : Value) (t : Seen) (answer : Fed Next) (result : Fed Shaped) → old.stage ≡ stage.Amount → held old ≤ 1 → IsGivenBy amount_rest amount_held old.amount v scan answer → ((reading : List Item → Reading Next) (count : ℕ) → count ≤ 1 → IsRead amount_rest amount_held count reading (kept count t) scan answer → IsRead rest held count (on_with reading) (kept count t) new result) → IsGivenBehind rest held old v t new result
given-whole old new scan v t answer result was few k later =
    let short : amount_held old.amount ≤ 1 = rw was at few in
    rw was
    (later (λ more. amount_rest old.amount (kept (amount_held old.amount) t) (Gave v) more) (amount_held old.amount) short
    (given-behind amount_rest amount_held old.amount scan v t answer short k))
