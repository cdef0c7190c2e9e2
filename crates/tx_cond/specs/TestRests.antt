-- The scan of a test means the rest of the test.
use Rattle.std.specs.Prelude.{ℕ, zero, suc, ◌∷◌, [], Bool, false, ℤ, List, Option, Some, None}
use Rattle.tx_prim.specs.declared.modes.Mode.{Mode}
use Rattle.tx_prim.specs.declared.expandable.Test.{Test}
use Rattle.tx_seen.specs.declared.error.TexError.TheVariants.{MissingNumber}
use Rattle.tx_seen.specs.declared.fed.Fed.{Fed}
use Rattle.tx_seen.specs.declared.item.Item.{Item}
use Rattle.tx_seen.specs.declared.item.Item.TheVariants.{Took}
use Rattle.tx_seen.specs.declared.seen.Seen.{Seen}
use Rattle.tx_seen.specs.Seen.{is_undefined}
use Rattle.tx_seen.specs.Readings.{Reading, Wrong, next}
use Rattle.tx_scan.specs.QuantityRests as quantities
use Rattle.tx_scan.specs.Rests.{HasTakenBy, IsAnswer}
use Rattle.tx_cond.specs.ComparandRests as comparands
use Rattle.tx_cond.specs.declared.test.Compared.{Compared}
use Rattle.tx_cond.specs.declared.test.Compared.TheVariants as compared
use Rattle.tx_cond.specs.declared.test.TestScan.{TestScan}
use Rattle.tx_cond.specs.declared.test.TestStage.{TestStage}
use Rattle.tx_cond.specs.declared.test.TestStage.TheVariants as stage
use Rattle.tx_cond.specs.Tests.{against, answered, behind_left, judged, relation, second, test, two_tokens}

-- the token behind the first of two comparands that waits for a value, if one is held
abbrev pub held_items : ℕ → Option Seen → List Item
held_items zero token = []
held_items (suc n) None = []
held_items (suc n) (Some t) = Took t ∷ []

-- the second of two tokens, of which the first is kept
abbrev pub second_of : Compared → Option Seen → List Item → Reading ℤ
second_of c None items = Wrong MissingNumber
second_of c (Some t) items = second c t items

-- whether a token that was to be expanded has no meaning
abbrev pub is_wrong : Compared → Seen → Bool
is_wrong compared.Code t = is_undefined t
is_wrong compared.Category t = is_undefined t
is_wrong compared.Meaning t = false

-- the rest of a test by the stage of its scan
abbrev pub stage_rest : TestStage → TestScan → List Item → Item → List Item → Reading ℤ
stage_rest (stage.Left c) scan behind item more = next (comparands.rest scan.scan (held_items (comparands.held scan.scan) scan.token) item more) (behind_left c)
stage_rest (stage.Relation c m) scan behind item more = next (relation (item ∷ more)) (against c m)
stage_rest (stage.Last j) scan behind item more = next (comparands.rest scan.scan behind item more) (judged j)
stage_rest stage.Register scan behind item more = next (quantities.rest scan.quantity behind item more) answered
stage_rest (stage.First c) scan behind item more = two_tokens c (item ∷ more)
stage_rest (stage.Second c) scan behind item more = second_of c scan.token (item ∷ more)

abbrev pub rest : TestScan → List Item → Item → List Item → Reading ℤ
rest scan behind item more = stage_rest scan.stage scan behind item more

-- how many tokens are held behind the last number, or behind that of a register
abbrev pub stage_held : TestStage → TestScan → ℕ
stage_held (stage.Last j) scan = comparands.held scan.scan
stage_held stage.Register scan = quantities.held scan.quantity
stage_held _ scan = 0

abbrev pub held : TestScan → ℕ
held scan = stage_held scan.stage scan

-- how many values are needed at most, unless more tokens need more
abbrev pub stage_needed : TestStage → TestScan → ℕ
stage_needed stage.Register scan = quantities.more_needed scan.quantity
stage_needed _ scan = comparands.more_needed scan.scan

abbrev pub more_needed : TestScan → ℕ
more_needed scan = stage_needed scan.stage scan

-- the scan that has taken these items reads on as the test that begins with them
abbrev pub HasTaken : Test → Mode → TestScan → List Item → Type 0
HasTaken kind mode scan taken = HasTakenBy rest held (test kind mode) scan taken

-- an answer to this token says what reading gives of the items behind it
abbrev pub IsTesting : ℕ → (List Item → Reading ℤ) → Seen → TestScan → Fed ℤ → Type 0
IsTesting most reading t scan answer = IsAnswer rest held most reading t scan answer

-- an answer to one more token says what reading on gives
abbrev pub IsFed : TestScan → Seen → TestScan → Fed ℤ → Type 0
IsFed old t new answer = (behind : List Item) → IsTesting 1 (λ more. rest old behind (Took t) more) t new answer
