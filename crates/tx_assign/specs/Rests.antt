-- The scan of an assignment means the rest of the assignment.
use Rattle.std.specs.Prelude.{◌≡◌, ◌≤◌, ℕ, zero, suc, ◌+◌, ◌∷◌, [], Bool, true, false, codes, List}
use Rattle.tx_seen.specs.declared.place.Place.{Place}
use Rattle.tx_seen.specs.declared.place.Place.TheVariants.{Count}
use Rattle.tx_seen.specs.declared.seen.Seen.{Seen}
use Rattle.tx_seen.specs.declared.item.Item.{Item}
use Rattle.tx_seen.specs.declared.item.Item.TheVariants.{Took}
use Rattle.tx_seen.specs.declared.fed.Fed.{Fed}
use Rattle.tx_seen.specs.declared.fed.Fed.TheVariants as fed
use Rattle.tx_seen.specs.declared.fed.Value.{Value}
use Rattle.tx_seen.specs.Readings.{Reading, Wrong, next}
use Rattle.tx_scan.specs.Grammars.{name}
use Rattle.tx_scan.specs.Mapped.{mapped}
use Rattle.tx_scan.specs.Rests.{HasTakenBy, IsAnswer, IsFedBy, IsGivenBehind, IsRead}
use Rattle.tx_scan.specs.IntegerRests as integers
use Rattle.tx_scan.specs.Dimensions.{lengths}
use Rattle.tx_scan.specs.DimensionRests as sizes
use Rattle.tx_scan.specs.GlueRests as glues
use Rattle.tx_scan.specs.declared.scans.KeyScan.{KeyScan}
use Rattle.tx_scan.specs.Keywords as words
use Rattle.tx_prim.specs.declared.family.Operation.{Operation}
use Rattle.tx_seen.specs.declared.error.TexError.TheVariants.{MissingNumber}
use Rattle.tx_assign.specs.declared.types.Assigning.{Assigning}
use Rattle.tx_assign.specs.declared.types.Change.TheVariants.{Text}
use Rattle.tx_assign.specs.declared.types.Purpose.TheVariants.{Compute}
use Rattle.tx_assign.specs.declared.types.Assignment.{Assignment}
use Rattle.tx_assign.specs.declared.scan.AssignScan.{AssignScan}
use Rattle.tx_assign.specs.declared.scan.AssignStage.{AssignStage}
use Rattle.tx_assign.specs.declared.scan.AssignStage.TheVariants as stage
use Rattle.tx_assign.specs.Assignments.{assignment, arithmetic, behind_number, elastic, given, let_behind_equals, let_behind_name, let_token, list_value, operand, sized, value, valued}

-- the value behind a `by` of which so many letters are read: where it breaks off, a b stood before, which begins no value
abbrev pub behind_by : ℕ → Operation → Place → Bool → List Item → Reading Assignment
behind_by zero operation place found more = operand operation place found more
behind_by (suc read) operation place true more = value (Compute operation) place more
behind_by (suc read) operation place false more = Wrong MissingNumber

abbrev pub by_rest : KeyScan → Operation → Place → Item → List Item → Reading Assignment
by_rest word operation place item more = next (words.rest (codes "by") word [] item more) (behind_by word.read operation place)

-- the rest of an assignment by the stage of its scan
abbrev pub stage_rest : AssignStage → AssignScan → List Item → Item → List Item → Reading Assignment
stage_rest stage.LetName scan behind item more = next (name (item ∷ more)) let_behind_name
stage_rest stage.LetBehindName scan behind item more = let_behind_name scan.place (item ∷ more)
stage_rest stage.LetBehindEquals scan behind item more = let_behind_equals scan.place (item ∷ more)
stage_rest stage.LetToken scan behind item more = let_token scan.place (item ∷ more)
stage_rest (stage.Operand operation) scan behind item more = arithmetic operation (item ∷ more)
stage_rest (stage.Number kind operation) scan behind item more = next (integers.rest scan.integer behind item more) (behind_number operation kind)
stage_rest (stage.Equals purpose) scan behind item more = given purpose scan.place (item ∷ more)
stage_rest (stage.By operation word) scan behind item more = by_rest word operation scan.place item more
stage_rest (stage.Integer purpose) scan behind item more = next (integers.rest scan.integer behind item more) (valued purpose scan.place)
stage_rest (stage.Glue purpose) scan behind item more = next (glues.rest scan.glue behind item more) (elastic purpose scan.place)
stage_rest stage.List scan behind item more = list_value scan.place (item ∷ more)
stage_rest (stage.Size purpose) scan behind item more = next (sizes.rest scan.size behind item more) (sized purpose scan.place)

abbrev pub rest : AssignScan → List Item → Item → List Item → Reading Assignment
rest scan behind item more = stage_rest scan.stage scan behind item more

-- how many tokens are held behind a number, a size or glue
abbrev pub stage_held : AssignStage → AssignScan → ℕ
stage_held (stage.Number kind operation) scan = integers.held scan.integer
stage_held (stage.Integer purpose) scan = integers.held scan.integer
stage_held (stage.Size purpose) scan = sizes.held scan.size
stage_held (stage.Glue purpose) scan = glues.held scan.glue
stage_held _ scan = 0

abbrev pub held : AssignScan → ℕ
held scan = stage_held scan.stage scan

-- how many values are needed at most, unless more tokens need more: those that numbers wait for, and one that may begin
-- the value behind the number of a register
abbrev pub stage_needed : AssignStage → AssignScan → ℕ
stage_needed (stage.Number kind operation) scan = integers.waiting scan.integer + 1
stage_needed (stage.Size purpose) scan = sizes.more_needed scan.size
stage_needed (stage.Glue purpose) scan = glues.more_needed scan.glue
stage_needed _ scan = integers.waiting scan.integer

abbrev pub more_needed : AssignScan → ℕ
more_needed scan = stage_needed scan.stage scan

-- the scan that has taken these items reads on as the assignment that begins with them
abbrev pub HasTaken : Assigning → AssignScan → List Item → Type 0
HasTaken assigning scan taken = HasTakenBy rest held (assignment assigning) scan taken

-- a scan of which nothing is read
abbrev pub IsBegun : Assigning → AssignScan → Type 0
IsBegun assigning scan = (held scan ≡ 0) × ((behind : List Item) (item : Item) (more : List Item) → rest scan behind item more ≡ assignment assigning (item ∷ more))

-- the assignment that a scan has made, once that is whole
abbrev pub made : AssignScan → Assignment
made scan = record { place = scan.place; change = scan.change }

-- an answer, with what the scan has made
abbrev pub told : AssignScan → Fed (Unit {0}) → Fed Assignment
told scan answer = mapped (λ _. made scan) answer

-- an answer to one more token says what reading on gives
abbrev pub IsFed : AssignScan → Seen → AssignScan → Fed (Unit {0}) → Type 0
IsFed old t new answer = IsFedBy rest held old t new (told new answer)

-- an answer to a value says what reading on gives behind the token that was taken last
abbrev pub IsGiven : AssignScan → Value → Seen → AssignScan → Fed (Unit {0}) → Type 0
IsGiven old v t new answer = IsGivenBehind rest held old v t new (told new answer)

-- an answer to this token says what reading gives of the items behind it
abbrev pub IsAssigning : ℕ → (List Item → Reading Assignment) → Seen → AssignScan → Fed (Unit {0}) → Type 0
IsAssigning most reading t scan answer = IsAnswer rest held most reading t scan (told scan answer)

-- the same where this token may be held or given back
abbrev pub IsBehind : (List Item → Reading Assignment) → Seen → AssignScan → Fed (Unit {0}) → Type 0
IsBehind reading t new answer = IsRead rest held 1 reading (Took t ∷ []) new (told new answer)

-- a stage that few tokens meet: no number comes there, nor the `=` before one
abbrev pub IsSeldom : AssignStage → Type 0
IsSeldom (stage.Number kind operation) = ⊥
IsSeldom (stage.Equals purpose) = ⊥
IsSeldom (stage.Integer purpose) = ⊥
IsSeldom _ = Unit {0}

-- where glue needs a value, it reads a size or internal glue
abbrev pub IsValued : AssignStage → AssignScan → Type 0
IsValued stage.LetName scan = Unit {0}
IsValued stage.LetBehindName scan = Unit {0}
IsValued stage.LetBehindEquals scan = Unit {0}
IsValued stage.LetToken scan = Unit {0}
IsValued (stage.Operand operation) scan = Unit {0}
IsValued (stage.Number kind operation) scan = Unit {0}
IsValued (stage.Equals purpose) scan = Unit {0}
IsValued (stage.By operation word) scan = Unit {0}
IsValued (stage.Integer purpose) scan = Unit {0}
IsValued (stage.Size purpose) scan = Unit {0}
IsValued (stage.Glue purpose) scan = glues.IsSizing scan.glue.stage
IsValued stage.List scan = Unit {0}

-- where a value is needed, one token at most is held
abbrev pub IsWaiting : AssignScan → Type 0
IsWaiting scan = IsValued scan.stage scan × (held scan ≤ 1)

abbrev pub WaitsIfNeeded : {A : Type 0} → AssignScan → Fed A → Type 0
WaitsIfNeeded scan (fed.More want) = Unit {0}
WaitsIfNeeded scan (fed.Need kind) = IsWaiting scan
WaitsIfNeeded scan (fed.Done value back) = Unit {0}
WaitsIfNeeded scan (fed.Wrong error) = Unit {0}

-- the scan of no assignment yet
abbrev pub no_assignment : AssignScan
no_assignment = record { stage = stage.LetName; place = Count 0; change = Text; integer = integers.begun_integer; size = sizes.begun_size lengths; glue = glues.begun_glue false }
