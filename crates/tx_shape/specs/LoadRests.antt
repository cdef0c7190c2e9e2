-- The scan of what \font takes means the rest of it.
use Rattle.std.specs.Prelude.{◌≤◌, ℕ, ◌∷◌, [], ◌++◌, Bool, true, false, List, codes, if◌then◌else◌}
use Rattle.tx_char.specs.Character.{character}
use Rattle.tx_seen.specs.declared.fed.Fed.{Fed}
use Rattle.tx_seen.specs.declared.fed.Fed.TheVariants as fed
use Rattle.tx_seen.specs.declared.fed.Want.TheVariants.{Expanded}
use Rattle.tx_seen.specs.declared.item.Item.{Item}
use Rattle.tx_seen.specs.declared.item.Item.TheVariants.{Took, Gave}
use Rattle.tx_seen.specs.declared.place.Place.{Place}
use Rattle.tx_seen.specs.declared.seen.Seen.{Seen}
use Rattle.tx_seen.specs.Readings.{Reading, More, Done, next}
use Rattle.tx_seen.specs.Seen.{is_key}
use Rattle.tx_scan.specs.Dimensions.{lengths}
use Rattle.tx_scan.specs.DimensionRests as sizes
use Rattle.tx_scan.specs.FileNames as files
use Rattle.tx_scan.specs.IntegerRests as integers
use Rattle.tx_scan.specs.Integers.{expanded}
use Rattle.tx_scan.specs.Keywords as words
use Rattle.tx_scan.specs.Mapped.{done_if}
use Rattle.tx_scan.specs.Rests.{IsRead}
use Rattle.tx_scan.specs.Supplied.{NeedsNoMore}
use Rattle.tx_shape.specs.declared.loading.LoadScan.{LoadScan}
use Rattle.tx_shape.specs.declared.loading.LoadStage.{LoadStage}
use Rattle.tx_shape.specs.declared.loading.LoadStage.TheVariants as stage
use Rattle.tx_shape.specs.declared.types.FontAsked.{FontAsked}
use Rattle.tx_shape.specs.declared.types.AskedSize.TheVariants.{Design}
use Rattle.tx_shape.specs.Loading.{asked, asked_at, asked_scaled, at_or_not, behind_name, loading, no_at, scaled_or_not}

-- where `at` breaks off behind its first letter, that is given back; but where it is a space, it is gone, and `scaled` may come
abbrev pub at_lost : Place → List ℕ → Bool → List Item → List Item → Reading FontAsked
at_lost place name true behind items = no_at place name items
at_lost place name false behind items = Done (asked place name Design) (behind ++ items)

-- the rest of `at`, whose first letter is this token
abbrev pub letter_rest : Place → List ℕ → Bool → List Item → List Item → Reading FontAsked
letter_rest place name blank behind [] = More Expanded
letter_rest place name blank behind (Gave v ∷ rest) = at_lost place name blank behind (Gave v ∷ rest)
letter_rest place name blank behind (Took t ∷ rest) =
    expanded t (if is_key (character "t") t then at_or_not place name true rest else at_lost place name blank behind (Took t ∷ rest))

-- the rest by the part that comes next
abbrev pub stage_rest : LoadStage → LoadScan → List Item → Item → List Item → Reading FontAsked
stage_rest stage.Equals scan behind item more = loading scan.place (item ∷ more)
stage_rest stage.Name scan behind item more = next (files.rest scan.file behind item more) (λ name rest. behind_name scan.place name rest)
stage_rest stage.At scan behind item more = behind_name scan.place scan.name (item ∷ more)
stage_rest (stage.Letter blank) scan behind item more = letter_rest scan.place scan.name blank behind (item ∷ more)
stage_rest (stage.Scaled key) scan behind item more = next (words.rest (codes "scaled") key behind item more) (scaled_or_not scan.place scan.name)
stage_rest stage.Size scan behind item more = next (sizes.rest scan.size behind item more) (λ measure rest. done_if (asked_at scan.place scan.name measure) rest)
stage_rest stage.Number scan behind item more = next (integers.rest scan.number behind item more) (λ n rest. done_if (asked_scaled scan.place scan.name n) rest)

abbrev pub rest : LoadScan → List Item → Item → List Item → Reading FontAsked
rest scan behind item more = stage_rest scan.stage scan behind item more

-- how many tokens are held: letters that may be given back, and the token behind a number or a size that waits for a value
abbrev pub stage_held : LoadStage → LoadScan → ℕ
stage_held stage.Equals scan = 0
stage_held stage.Name scan = 0
stage_held stage.At scan = 0
stage_held (stage.Letter blank) scan = 1
stage_held (stage.Scaled key) scan = words.held key
stage_held stage.Size scan = sizes.held scan.size
stage_held stage.Number scan = integers.held scan.number

abbrev pub held : LoadScan → ℕ
held scan = stage_held scan.stage scan

-- how many values are needed at most, unless more tokens need more
abbrev pub stage_needed : LoadStage → LoadScan → ℕ
stage_needed stage.Size scan = sizes.more_needed scan.size
stage_needed stage.Number scan = integers.waiting scan.number
stage_needed other scan = 0

abbrev pub needed : LoadScan → ℕ
needed scan = stage_needed scan.stage scan

-- only a size and a number need values
abbrev pub IsSizing : LoadStage → Type 0
IsSizing stage.Size = Unit {0}
IsSizing stage.Number = Unit {0}
IsSizing other = ⊥

-- where a value is needed, one token at most is held
abbrev pub IsWaiting : LoadScan → Type 0
IsWaiting scan = IsSizing scan.stage × (held scan ≤ 1)

abbrev pub WaitsIfNeeded : LoadScan → Fed FontAsked → Type 0
WaitsIfNeeded scan (fed.More want) = Unit {0}
WaitsIfNeeded scan (fed.Need kind) = IsWaiting scan
WaitsIfNeeded scan (fed.Done asked back) = Unit {0}
WaitsIfNeeded scan (fed.Wrong error) = Unit {0}

-- the scan of which nothing is read
abbrev pub begun_load : Place → List ℕ → LoadScan
begun_load place name = record { stage = stage.Equals; place = place; file = files.begun_file; name = name; size = sizes.begun_size lengths; number = integers.begun_integer }

-- an answer to the first token says what reading gives of the items behind it
pub record BeginsLoad (reading : List Item → Reading FontAsked) (t : Seen) (new : LoadScan) (answer : Fed FontAsked) : Type 0 where
  pub reads : IsRead rest held 1 reading (Took t ∷ []) new answer
  pub needs : NeedsNoMore 0 (needed new) answer
  pub waits : WaitsIfNeeded new answer
