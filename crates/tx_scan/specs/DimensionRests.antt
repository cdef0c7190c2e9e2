-- The scan of a dimension means the rest of the dimension.
use Rattle.std.specs.Prelude.{ℕ, zero, suc, ◌+◌, ◌∷◌, [], Bool, false, if◌then◌else◌, Option, None, Some, pos, neg_ℤ, ◌≤ℤ◌, List}
use Rattle.tx_num.specs.Decimals.{fraction_of}
use Rattle.tx_seen.specs.declared.fed.Fed.{Fed}
use Rattle.tx_seen.specs.declared.fed.Fed.TheVariants as fed
use Rattle.tx_seen.specs.declared.seen.Seen.{Seen}
use Rattle.tx_seen.specs.declared.fed.Value.{Value}
use Rattle.tx_seen.specs.declared.item.Item.{Item}
use Rattle.tx_seen.specs.declared.item.Item.TheVariants.{Took, Gave}
use Rattle.tx_seen.specs.Readings.{Reading, next}
use Rattle.tx_scan.specs.declared.scans.Units.{Units}
use Rattle.tx_scan.specs.declared.scans.Measure.{Measure}
use Rattle.tx_scan.specs.declared.scans.Portion.{Portion}
use Rattle.tx_scan.specs.declared.scans.DimenScan.{DimenScan}
use Rattle.tx_scan.specs.declared.scans.DimenStage.{DimenStage}
use Rattle.tx_scan.specs.declared.scans.DimenStage.TheVariants as stage
use Rattle.tx_scan.specs.Integers.{character_code, space_after}
use Rattle.tx_scan.specs.Dimensions.{Named, behind_true, fraction, whole_units, first_unit, ended_with, font_unit, mathematical, measured, numbered_unit, true_ended, true_unit, unit_name, unit_ended, unit_rest, fil_rest, factored, counted, size_signs, dimension}
use Rattle.tx_scan.specs.Mapped.{done_if}
use Rattle.tx_scan.specs.QuantityRests as quantities
use Rattle.tx_scan.specs.IntegerRests as integers
use Rattle.tx_scan.specs.Rests.{HasTakenBy, IsAnswer, IsPassed}

-- the token behind the register of a factor, if one is held
abbrev pub held_items : ℕ → Option Seen → List Item
held_items zero behind = []
held_items (suc n) None = []
held_items (suc n) (Some t) = Took t ∷ []

-- the fraction behind whole units, which `true` may have changed
abbrev pub part_of : Option Portion → List ℕ → ℕ
part_of None digits = fraction_of digits
part_of (Some portion) digits = portion.part

-- what stands behind a unit's name, behind `true` or not
abbrev pub name_ended : Option Portion → Units → Bool → ℕ → ℕ → Named → List Item → Reading Measure
name_ended None units negative whole part named rest = unit_ended units negative whole part named rest
name_ended (Some portion) units negative whole part named rest = true_ended negative (whole, portion.part) named rest

-- the rest of a dimension by the stage of its scan
abbrev pub stage_rest : DimenStage → DimenScan → List Item → Item → List Item → Reading Measure
stage_rest stage.Signs scan behind item more = size_signs scan.units scan.negative (item ∷ more)
stage_rest (stage.FirstDigit radix) scan behind item more = next (first_unit radix (item ∷ more)) (factored scan.units scan.negative)
stage_rest (stage.Digits constant) scan behind item more = next (whole_units constant.radix constant.number (item ∷ more)) (factored scan.units scan.negative)
stage_rest (stage.Fraction whole) scan behind item more = next (fraction whole scan.digits (item ∷ more)) (factored scan.units scan.negative)
stage_rest stage.Character scan behind item more = next (character_code (item ∷ more)) (counted scan.units scan.negative)
stage_rest (stage.AfterCharacter code) scan behind item more = next (space_after code (item ∷ more)) (counted scan.units scan.negative)
stage_rest stage.Coefficient scan behind item more = next (integers.rest scan.number (held_items (integers.held scan.number) scan.behind) item more) (numbered_unit scan.units scan.negative)
stage_rest (stage.Quantity amount) scan behind item more = next (integers.rest scan.number behind item more) (ended_with scan.negative (fraction_of scan.digits) amount)
stage_rest (stage.Mathematical amount) scan behind item more = next (quantities.rest scan.quantity behind item more) (λ value rest. done_if (mathematical scan.negative (fraction_of scan.digits) amount value) rest)
stage_rest (stage.Unit whole) scan behind item more = measured scan.units scan.negative whole (fraction_of scan.digits) (item ∷ more)
stage_rest (stage.Name whole letters) scan behind item more = next (unit_name scan.units letters (item ∷ more)) (name_ended scan.magnified scan.units scan.negative whole (fraction_of scan.digits))
stage_rest (stage.Magnification whole) scan behind item more = behind_true scan.units scan.negative whole (fraction_of scan.digits) (item ∷ more)
stage_rest (stage.TrueUnit whole portion) scan behind item more = true_unit scan.units scan.negative (whole, portion.part) (item ∷ more)
stage_rest (stage.AfterUnit whole unit) scan behind item more = unit_rest scan.negative whole (part_of scan.magnified scan.digits) unit (item ∷ more)
stage_rest (stage.FontUnit whole size held) scan behind item more = font_unit scan.negative whole (part_of scan.magnified scan.digits) item behind more
stage_rest (stage.AfterFil whole order) scan behind item more = fil_rest scan.negative whole (part_of scan.magnified scan.digits) order (item ∷ more)

abbrev pub rest : DimenScan → List Item → Item → List Item → Reading Measure
rest scan behind item more = stage_rest scan.stage scan behind item more

-- one token or none
abbrev pub count_held : Bool → ℕ
count_held held = if held then 1 else 0

-- how many tokens are held behind the dimension
abbrev pub stage_held : DimenStage → DimenScan → ℕ
stage_held (stage.Quantity amount) scan = integers.held scan.number
stage_held (stage.Mathematical amount) scan = quantities.held scan.quantity
stage_held (stage.FontUnit whole size held) scan = count_held held
stage_held _ scan = 0

abbrev pub held : DimenScan → ℕ
held scan = stage_held scan.stage scan

-- how many values are needed at most, unless more tokens need more: those that numbers wait for, and one that the token
-- behind a factor may begin
abbrev pub stage_needed : DimenStage → DimenScan → ℕ
stage_needed stage.Coefficient scan = integers.waiting scan.number + integers.held scan.number
stage_needed (stage.Quantity amount) scan = integers.waiting scan.number
stage_needed (stage.Mathematical amount) scan = quantities.more_needed scan.quantity
stage_needed _ scan = 0

abbrev pub more_needed : DimenScan → ℕ
more_needed scan = stage_needed scan.stage scan

-- the scan of which nothing is read, or only signs
abbrev pub begun_size_behind : Bool → Units → DimenScan
begun_size_behind negative units = record { units = units; negative = negative; stage = stage.Signs; digits = []; magnified = None; number = integers.begun_integer; quantity = quantities.begun_quantity; behind = None }

abbrev pub begun_size : Units → DimenScan
begun_size units = begun_size_behind false units

-- the scan that has taken these items reads on as the dimension that begins with them
abbrev pub HasTaken : Units → DimenScan → List Item → Type 0
HasTaken units scan taken = HasTakenBy rest held (dimension units) scan taken

-- how many tokens at most are given back behind one more: none where the factor hasn't begun
abbrev pub stage_most : DimenStage → ℕ
stage_most stage.Signs = 0
stage_most _ = 1

abbrev pub most : DimenScan → ℕ
most scan = stage_most scan.stage

-- an answer to one more token says what reading on gives
abbrev pub IsFed : DimenScan → Seen → DimenScan → Fed Measure → Type 0
IsFed old t new answer = (behind : List Item) → IsAnswer rest held (most old) (λ more. rest old behind (Took t) more) t new answer

-- an answer to a value says what reading on gives
abbrev pub IsGiven : DimenScan → Value → DimenScan → Fed Measure → Type 0
IsGiven old v new answer = (behind : List Item) → IsPassed rest held (λ more. rest old behind (Gave v) more) behind (held old) new answer

-- an answer to this token says what reading gives of the items behind it
abbrev pub IsMeasuring : ℕ → (List Item → Reading Measure) → Seen → DimenScan → Fed Measure → Type 0
IsMeasuring most reading t new answer = IsAnswer rest held most reading t new answer

-- an answer to the first token of a unit, or to a space before it
abbrev pub IsUnit : Units → Bool → ℕ → List ℕ → Seen → DimenScan → Fed Measure → Type 0
IsUnit units negative whole digits t new answer = IsMeasuring 0 (λ more. measured units negative whole (fraction_of digits) (Took t ∷ more)) t new answer

-- a dimension that is done is within 2^30-1 sp either way
abbrev pub IsSize : Fed Measure → Type 0
IsSize (fed.More want) = Unit {0}
IsSize (fed.Need kind) = Unit {0}
IsSize (fed.Done measure back) = (neg_ℤ (pos 1073741823) ≤ℤ measure.size) × (measure.size ≤ℤ pos 1073741823)
IsSize (fed.Wrong error) = Unit {0}
