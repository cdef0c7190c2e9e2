-- The scan of a command's rest means what it still reads.
use Rattle.std.specs.Prelude.{◌≤◌, ℕ, ◌∷◌, ◌++◌, [], List, codes, if◌then◌else◌}
use Rattle.tx_seen.specs.declared.error.TexError.TheVariants.{MissingBeginGroup}
use Rattle.tx_seen.specs.declared.fed.Fed.{Fed}
use Rattle.tx_seen.specs.declared.fed.Fed.TheVariants as fed
use Rattle.tx_seen.specs.declared.fed.Want.TheVariants.{Expanded}
use Rattle.tx_seen.specs.declared.item.Item.{Item}
use Rattle.tx_seen.specs.declared.item.Item.TheVariants.{Took, Gave}
use Rattle.tx_seen.specs.declared.seen.Seen.{Seen}
use Rattle.tx_seen.specs.Seen.{is_key}
use Rattle.tx_seen.specs.Readings.{Reading, More, Done, Wrong, next}
use Rattle.tx_scan.specs.Dimensions.{dimension, lengths}
use Rattle.tx_scan.specs.declared.scans.GlueScan.{GlueScan}
use Rattle.tx_scan.specs.GlueRests as glues
use Rattle.tx_scan.specs.Integers.{expanded}
use Rattle.tx_scan.specs.Rests.{IsRead}
use Rattle.tx_scan.specs.Supplied.{NeedsFewer, NeedsNoMore}
use Rattle.tx_shape.specs.declared.scans.Amount.{Amount}
use Rattle.tx_shape.specs.declared.scans.Opening.{Opening}
use Rattle.tx_shape.specs.declared.scans.ShapeScan.{ShapeScan}
use Rattle.tx_shape.specs.declared.scans.Sizing.{Sizing}
use Rattle.tx_shape.specs.declared.scans.Sizing.TheVariants as sizing
use Rattle.tx_shape.specs.declared.scans.Stage.{Stage}
use Rattle.tx_shape.specs.declared.scans.Stage.TheVariants as stage
use Rattle.tx_shape.specs.declared.types.BoxGoal.TheVariants.{Natural}
use Rattle.tx_shape.specs.declared.types.Shaped.{Shaped}
use Rattle.tx_shape.specs.declared.words.Lost.{Lost}
use Rattle.tx_shape.specs.declared.words.Lost.TheVariants as lost
use Rattle.tx_shape.specs.declared.words.Word.{Word}
use Rattle.tx_shape.specs.declared.words.Word.TheVariants as word
use Rattle.tx_shape.specs.AmountRests.{amount_held, amount_needed, amount_rest, begun_amount}
use Rattle.tx_shape.specs.Boxes.{begun, math_skipped, opened, skipped, spread_goal}
use Rattle.tx_shape.specs.Settings.{font_setting, in_room, setting}
use Rattle.tx_shape.specs.Nexts.{behind_measure, next_rest, plain_rest}
use Rattle.tx_shape.specs.Words.{behind_group, lost_behind}

-- the size behind a word
abbrev pub sizing_behind : Word → Opening → Sizing
sizing_behind word.T opening = sizing.To opening
sizing_behind word.S opening = sizing.Spread opening
sizing_behind word.Sp opening = sizing.Spread opening
sizing_behind word.Spr opening = sizing.Spread opening
sizing_behind word.Spre opening = sizing.Spread opening
sizing_behind word.Sprea opening = sizing.Spread opening

-- the letters of a word that are to come
abbrev pub left_of : Word → List ℕ
left_of word.T = codes "o"
left_of word.S = codes "pread"
left_of word.Sp = codes "read"
left_of word.Spr = codes "ead"
left_of word.Spre = codes "ad"
left_of word.Sprea = codes "d"

-- a size behind a word, and what follows it
abbrev pub size_rest : Sizing → List Item → Reading Shaped
size_rest what items = next (dimension lengths items) (λ measure rest. next_rest (behind_measure what measure) rest)

-- what is read where a word broke off before these items; these stand behind the begin-group token, if that is among its letters
abbrev pub lost_rest : Opening → Lost → List Item → List Item → Reading Shaped
lost_rest opening lost.Spread behind items = next (spread_goal items) (opened opening)
lost_rest opening lost.Brace behind items = opened opening Natural items
lost_rest opening (lost.Begun n) behind items = Done (begun opening Natural) (behind ++ items)
lost_rest opening lost.Bare behind items = Wrong MissingBeginGroup

-- the tokens behind the begin-group token, with one letter more
abbrev pub behind_with : Lost → List Item → Seen → List Item
behind_with lost.Spread behind t = []
behind_with lost.Brace behind t = []
behind_with (lost.Begun n) behind t = behind ++ Took t ∷ []
behind_with lost.Bare behind t = []

-- these letters, then what `found` reads; or what is read where they break off
abbrev pub letters_rest : Opening → List ℕ → (List Item → Reading Shaped) → Lost → List Item → List Item → Reading Shaped
letters_rest opening [] found lost behind items = found items
letters_rest opening (c ∷ word) found lost behind [] = More Expanded
letters_rest opening (c ∷ word) found lost behind (Gave v ∷ rest) = lost_rest opening lost behind (Gave v ∷ rest)
letters_rest opening (c ∷ word) found lost behind (Took t ∷ rest) =
    expanded t (
    if is_key c t then letters_rest opening word found (lost_behind lost t) (behind_with lost behind t) rest
    else lost_rest opening lost behind (Took t ∷ rest))

abbrev pub word_rest : Opening → Word → Lost → List Item → List Item → Reading Shaped
word_rest opening word lost behind items = letters_rest opening (left_of word) (size_rest (sizing_behind word opening)) lost behind items

-- the rest by the part that comes next
abbrev pub stage_rest : Stage → ShapeScan → List Item → Item → List Item → Reading Shaped
stage_rest stage.Amount scan behind item more = next (amount_rest scan.amount behind item more) next_rest
stage_rest (stage.Plain part) scan behind item more = plain_rest part (item ∷ more)
stage_rest (stage.Setting what) scan behind item more = setting what (item ∷ more)
stage_rest (stage.Font what) scan behind item more = font_setting what (item ∷ more)
stage_rest (stage.FontRoom font n) scan behind item more = in_room font n item more
stage_rest stage.Glue scan behind item more = next (glues.rest scan.glue behind item more) skipped
stage_rest stage.MathGlue scan behind item more = next (glues.rest scan.glue behind item more) math_skipped
stage_rest (stage.Word opening letters) scan behind item more = word_rest opening letters.word letters.lost behind (item ∷ more)

abbrev pub rest : ShapeScan → List Item → Item → List Item → Reading Shaped
rest scan behind item more = stage_rest scan.stage scan behind item more

-- how many tokens are held
abbrev pub stage_held : Stage → ShapeScan → ℕ
stage_held stage.Amount scan = amount_held scan.amount
stage_held (stage.Plain part) scan = 0
stage_held (stage.Setting what) scan = 0
stage_held (stage.Font what) scan = 0
stage_held (stage.FontRoom font n) scan = 0
stage_held stage.Glue scan = glues.held scan.glue
stage_held stage.MathGlue scan = glues.held scan.glue
stage_held (stage.Word opening letters) scan = behind_group letters.lost

abbrev pub held : ShapeScan → ℕ
held scan = stage_held scan.stage scan

-- how many values are needed at most, unless more tokens need more
abbrev pub stage_needed : Stage → ShapeScan → ℕ
stage_needed stage.Amount scan = amount_needed scan.amount
stage_needed (stage.Plain part) scan = 0
stage_needed (stage.Setting what) scan = 0
stage_needed (stage.Font what) scan = 0
stage_needed (stage.FontRoom font n) scan = 0
stage_needed stage.Glue scan = glues.more_needed scan.glue
stage_needed stage.MathGlue scan = glues.more_needed scan.glue
stage_needed (stage.Word opening letters) scan = 0

abbrev pub needed : ShapeScan → ℕ
needed scan = stage_needed scan.stage scan

-- the scan at the beginning of a number or a size, whatever glue was read before
abbrev pub begun_at : Amount → GlueScan → ShapeScan
begun_at what glue = record { stage = stage.Amount; amount = begun_amount what; glue = glue }

-- only a number, a size, glue and a parameter of a font need values, and then one token at most is held
abbrev pub IsValued : Stage → ShapeScan → Type 0
IsValued stage.Amount scan = Unit {0}
IsValued (stage.Plain part) scan = ⊥
IsValued (stage.Setting what) scan = ⊥
IsValued stage.Glue scan = glues.IsSizing scan.glue.stage
IsValued stage.MathGlue scan = glues.IsSizing scan.glue.stage
IsValued (stage.Font what) scan = ⊥
IsValued (stage.FontRoom font n) scan = Unit {0}
IsValued (stage.Word opening letters) scan = ⊥

abbrev pub IsWaiting : ShapeScan → Type 0
IsWaiting scan = IsValued scan.stage scan × (held scan ≤ 1)

abbrev pub WaitsIfNeeded : ShapeScan → Fed Shaped → Type 0
WaitsIfNeeded scan (fed.More want) = Unit {0}
WaitsIfNeeded scan (fed.Need kind) = IsWaiting scan
WaitsIfNeeded scan (fed.Done shaped back) = Unit {0}
WaitsIfNeeded scan (fed.Wrong error) = Unit {0}

-- an answer that holds and gives back nothing, and needs no value
pub record Begins (reading : List Item → Reading Shaped) (new : ShapeScan) (answer : Fed Shaped) : Type 0 where
  pub reads : IsRead rest held 0 reading [] new answer
  pub fewer : NeedsFewer 0 (needed new) answer

-- the same of what is set and begins with this token: it may need a value, and may hold the token or give it back
pub record BeginsSetting (reading : List Item → Reading Shaped) (t : Seen) (new : ShapeScan) (answer : Fed Shaped) : Type 0 where
  pub reads : IsRead rest held 1 reading (Took t ∷ []) new answer
  pub needs : NeedsNoMore 0 (needed new) answer
  pub waits : WaitsIfNeeded new answer
