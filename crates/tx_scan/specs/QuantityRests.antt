-- The scan of an internal quantity means the rest of the quantity.
use Rattle.std.specs.Prelude.{◌≡◌, ℕ, zero, suc, ℤ, ◌+◌, Option, Some, None, List, ◌∷◌, ◌++◌}
use Rattle.tx_seen.specs.declared.error.TexError.TheVariants.{MissingName, NumberOutOfRange}
use Rattle.tx_seen.specs.declared.fed.Fed.{Fed}
use Rattle.tx_seen.specs.declared.fed.Fed.TheVariants as fed
use Rattle.tx_seen.specs.declared.fed.Kind.TheVariants.{Quantity}
use Rattle.tx_seen.specs.declared.fed.Value.{Value}
use Rattle.tx_seen.specs.declared.item.Item.{Item}
use Rattle.tx_seen.specs.declared.item.Item.TheVariants.{Took}
use Rattle.tx_seen.specs.declared.seen.Seen.{Seen}
use Rattle.tx_seen.specs.declared.fed.Want.TheVariants.{Expanded}
use Rattle.tx_seen.specs.Readings.{Reading, next}
use Rattle.tx_scan.specs.declared.scans.QuantityScan.{QuantityScan}
use Rattle.tx_scan.specs.declared.scans.QuantityStage.{QuantityStage}
use Rattle.tx_scan.specs.declared.scans.QuantityStage.TheVariants as stage
use Rattle.tx_scan.specs.declared.scans.Sought.{Sought}
use Rattle.tx_scan.specs.Integers.{byte_of}
use Rattle.tx_scan.specs.Rests.{IsAnswer}
use Rattle.tx_scan.specs.IntegerRests as integers
use Rattle.tx_prim.specs.declared.family.FontNumber.{FontNumber}
use Rattle.tx_seen.specs.declared.place.FontName.{FontName}
use Rattle.tx_seen.specs.declared.place.Place.{Place}
use Rattle.tx_scan.specs.declared.scans.FontSought.TheVariants as needs
use Rattle.tx_scan.specs.FontNames.{told_items, parameter_number, place_of_font}
use Rattle.tx_scan.specs.Quantities.{found, parameter_value, place_sought, value_behind, value_of_font}

-- the rest by the stage of its scan: the number, or the value, behind which the held token stays. A token that ended the number of a
-- parameter is the font's, and all that is kept of it is which one
abbrev pub stage_rest : QuantityStage → QuantityScan → List Item → Item → List Item → Reading Value
stage_rest (stage.Number sought) scan behind item more = value_behind sought (λ later. integers.rest scan.number behind item later) more
stage_rest stage.Parameter scan behind item more = next (integers.rest scan.number (told_items (integers.stage_held scan.number.stage) scan.number.behind) item more) parameter_value
stage_rest (stage.Font sought) scan behind item more = value_of_font sought (item ∷ more)
stage_rest (stage.Given count) scan behind item more = found item (behind ++ more)

abbrev pub rest : QuantityScan → List Item → Item → List Item → Reading Value
rest scan behind item more = stage_rest scan.stage scan behind item more

-- how many tokens are held
abbrev pub stage_held : QuantityStage → QuantityScan → ℕ
stage_held (stage.Number sought) scan = integers.held scan.number
stage_held stage.Parameter scan = 0
stage_held (stage.Font sought) scan = 0
stage_held (stage.Given count) scan = count

abbrev pub held : QuantityScan → ℕ
held scan = stage_held scan.stage scan

-- how many values are needed at most, unless more tokens need more: those that the number waits for, and then the value
abbrev pub stage_needed : QuantityStage → QuantityScan → ℕ
stage_needed (stage.Number sought) scan = integers.waiting scan.number + 1
stage_needed stage.Parameter scan = integers.waiting scan.number + 1
stage_needed (stage.Font sought) scan = 1
stage_needed (stage.Given count) scan = 0

abbrev pub more_needed : QuantityScan → ℕ
more_needed scan = stage_needed scan.stage scan

-- the scan that waits for what stands at a place, and that at the beginning of a number
abbrev pub begun_quantity : QuantityScan
begun_quantity = record { stage = stage.Given 0; number = integers.begun_integer }

abbrev pub begun_at_number : Sought → QuantityScan
begun_at_number sought = record { stage = stage.Number sought; number = integers.begun_integer }

abbrev pub begun_at_parameter : QuantityScan
begun_at_parameter = record { stage = stage.Parameter; number = integers.begun_integer }

abbrev pub begun_at_font : FontNumber → QuantityScan
begun_at_font kind = record { stage = stage.Font (needs.Integer kind); number = integers.begun_integer }

-- the value at a place is needed, where no token is held
abbrev pub IsValueNeeded : Place → QuantityScan → QuantityScan → Fed Value → Type 0
IsValueNeeded place old new answer = (new ≡ record old { stage = stage.Given 0 }) × (answer ≡ fed.Need (Quantity place))

-- what becomes of the scan by the number of a parameter, behind which so many tokens are held: the font is needed, which such a token
-- may tell
abbrev pub IsFontTold : ℕ → Option FontName → QuantityScan → QuantityScan → Fed Value → Type 0
IsFontTold n None old new answer = answer ≡ fed.Wrong MissingName
IsFontTold n (Some f) old new answer = IsValueNeeded (place_of_font (needs.Dimen n) f) old new answer

abbrev pub IsFontSought : ℕ → ℕ → QuantityScan → QuantityScan → Fed Value → Type 0
IsFontSought n zero old new answer = (new ≡ record old { stage = stage.Font (needs.Dimen n) }) × (answer ≡ fed.More Expanded)
IsFontSought n (suc count) old new answer = IsFontTold n old.number.behind old new answer

abbrev pub IsParameter : Fed ℤ → QuantityScan → QuantityScan → Fed Value → Type 0
IsParameter (fed.More want) old new answer = (new ≡ old) × (answer ≡ fed.More want)
IsParameter (fed.Need kind) old new answer = (new ≡ old) × (answer ≡ fed.Need kind)
IsParameter (fed.Done n back) old new answer = IsFontSought (parameter_number n) back old new answer
IsParameter (fed.Wrong error) old new answer = answer ≡ fed.Wrong error

-- an answer to one more token says what reading on gives; one token at most is held, or given back
abbrev pub IsFed : QuantityScan → Seen → QuantityScan → Fed Value → Type 0
IsFed old t new answer = (behind : List Item) → IsAnswer rest held 1 (λ more. rest old behind (Took t) more) t new answer

-- what becomes of the scan by what that of its number answers
abbrev pub IsCounted : Sought → Option ℕ → ℕ → QuantityScan → QuantityScan → Fed Value → Type 0
IsCounted sought None back old new answer = answer ≡ fed.Wrong NumberOutOfRange
IsCounted sought (Some n) back old new answer = (new ≡ record old { stage = stage.Given back }) × (answer ≡ fed.Need (Quantity (place_sought sought n)))

abbrev pub IsNumbered : Sought → Fed ℤ → QuantityScan → QuantityScan → Fed Value → Type 0
IsNumbered sought (fed.More want) old new answer = (new ≡ old) × (answer ≡ fed.More want)
IsNumbered sought (fed.Need kind) old new answer = (new ≡ old) × (answer ≡ fed.Need kind)
IsNumbered sought (fed.Done n back) old new answer = IsCounted sought (byte_of n) back old new answer
IsNumbered sought (fed.Wrong error) old new answer = answer ≡ fed.Wrong error
