-- The scan of glue means the rest of the glue.
use Rattle.std.specs.Prelude.{◌≤◌, ℕ, zero, suc, [], ◌∷◌, codes, Bool, true, false, List, if◌then◌else◌}
use Rattle.tx_num.specs.Glue.{GlueSpec}
use Rattle.tx_seen.specs.declared.fed.Fed.{Fed}
use Rattle.tx_seen.specs.declared.fed.Fed.TheVariants as fed
use Rattle.tx_seen.specs.declared.seen.Seen.{Seen}
use Rattle.tx_seen.specs.Seen.{is_space}
use Rattle.tx_seen.specs.declared.item.Item.{Item}
use Rattle.tx_seen.specs.declared.item.Item.TheVariants.{Took}
use Rattle.tx_seen.specs.Readings.{Reading, Done, next}
use Rattle.tx_scan.specs.declared.scans.Beginning.{Beginning}
use Rattle.tx_scan.specs.declared.scans.GluePart.{GluePart}
use Rattle.tx_scan.specs.declared.scans.GluePart.TheVariants as part
use Rattle.tx_scan.specs.declared.scans.GlueScan.{GlueScan}
use Rattle.tx_scan.specs.declared.scans.GlueStage.{GlueStage}
use Rattle.tx_scan.specs.declared.scans.GlueStage.TheVariants as stage
use Rattle.tx_scan.specs.declared.scans.Measure.{Measure}
use Rattle.tx_scan.specs.Dimensions.{dimension}
use Rattle.tx_scan.specs.DimensionRests as sizes
use Rattle.tx_scan.specs.Glues.{widths, elastics, glue_begun, glue_signs, internal, stretch_if, shrink_if, wide, stretched, shrunk, no_glue, glue}
use Rattle.tx_scan.specs.Mapped.{done_if}
use Rattle.tx_scan.specs.QuantityRests as quantities
use Rattle.tx_scan.specs.Keywords.{word_rest}
use Rattle.tx_scan.specs.Rests.{HasTakenBy, IsRead}

-- what stands behind a size
abbrev pub behind_size : GluePart → Bool → GlueSpec → Measure → List Item → Reading GlueSpec
behind_size part.Width mu g = wide mu
behind_size part.Stretch mu g = stretched mu g
behind_size part.Shrink mu g = shrunk g

-- the size behind a keyword
abbrev pub elastic : GluePart → Bool → GlueSpec → List Item → Reading GlueSpec
elastic size mu g rest = next (dimension (elastics mu) rest) (behind_size size mu g)

-- behind letters of `plus` that are no spaces: where it breaks off the glue ends, since `minus` begins with none of them
abbrev pub stretch_or_end : Bool → GlueSpec → Bool → List Item → Reading GlueSpec
stretch_or_end mu g true rest = stretch_if mu g true rest
stretch_or_end mu g false rest = Done g rest

-- the rest of `plus`, of which so many letters are read, and so many of their tokens held: those from the first on that is
-- no space, as `minus` would skip them
abbrev pub plus_rest : Bool → GlueSpec → ℕ → ℕ → List Item → Item → List Item → Reading GlueSpec
plus_rest mu g zero read behind item more = next (word_rest (codes "plus") read [] item more) (stretch_if mu g)
plus_rest mu g (suc n) read behind item more = next (word_rest (codes "plus") read behind item more) (stretch_or_end mu g)

abbrev pub minus_rest : Bool → GlueSpec → ℕ → List Item → Item → List Item → Reading GlueSpec
minus_rest mu g read behind item more = next (word_rest (codes "minus") read behind item more) (shrink_if mu g)

-- how many are held behind one letter more
abbrev pub held_on : ℕ → ℕ → Seen → ℕ
held_on (suc n) read t = suc (suc n)
held_on zero zero t = 0
held_on zero (suc read) t = if is_space t then 0 else 1

-- the rest of glue by the stage of its scan
abbrev pub stage_rest : GlueStage → GlueScan → List Item → Item → List Item → Reading GlueSpec
stage_rest (stage.Signs negative) scan behind item more = glue_signs scan.mu negative (item ∷ more)
stage_rest (stage.Quantity negative) scan behind item more = next (quantities.rest scan.size.quantity behind item more) (λ value rest. done_if (internal scan.mu negative value) rest)
stage_rest (stage.Size size) scan behind item more = next (sizes.rest scan.size behind item more) (behind_size size scan.mu scan.glue)
stage_rest (stage.Plus plus) scan behind item more = plus_rest scan.mu scan.glue plus.held plus.read behind item more
stage_rest (stage.Minus minus) scan behind item more = minus_rest scan.mu scan.glue minus.read behind item more

abbrev pub rest : GlueScan → List Item → Item → List Item → Reading GlueSpec
rest scan behind item more = stage_rest scan.stage scan behind item more

-- the tokens that may be given back
abbrev pub stage_held : GlueStage → GlueScan → ℕ
stage_held (stage.Signs negative) scan = 0
stage_held (stage.Quantity negative) scan = quantities.held scan.size.quantity
stage_held (stage.Size size) scan = sizes.held scan.size
stage_held (stage.Plus plus) scan = plus.held
stage_held (stage.Minus minus) scan = minus.read

abbrev pub held : GlueScan → ℕ
held scan = stage_held scan.stage scan

-- how many values are needed at most, unless more tokens need more: those of a size
abbrev pub stage_needed : GlueStage → GlueScan → ℕ
stage_needed (stage.Signs negative) scan = 0
stage_needed (stage.Quantity negative) scan = quantities.more_needed scan.size.quantity
stage_needed (stage.Size size) scan = sizes.more_needed scan.size
stage_needed (stage.Plus plus) scan = 0
stage_needed (stage.Minus minus) scan = 0

abbrev pub more_needed : GlueScan → ℕ
more_needed scan = stage_needed scan.stage scan

-- only sizes and internal glue need values
abbrev pub IsSizing : GlueStage → Type 0
IsSizing (stage.Signs negative) = ⊥
IsSizing (stage.Quantity negative) = Unit {0}
IsSizing (stage.Size size) = Unit {0}
IsSizing (stage.Plus plus) = ⊥
IsSizing (stage.Minus minus) = ⊥

-- the scan waits for a value, and holds one token at most
abbrev pub IsWaiting : GlueScan → Fed GlueSpec → Type 0
IsWaiting scan (fed.More want) = Unit {0}
IsWaiting scan (fed.Need kind) = IsSizing scan.stage × (held scan ≤ 1)
IsWaiting scan (fed.Done glue back) = Unit {0}
IsWaiting scan (fed.Wrong error) = Unit {0}

-- an answer to a token that begins this behind signs
abbrev pub IsBegun : Bool → Bool → Seen → Beginning → GlueScan → Fed GlueSpec → Type 0
IsBegun mu negative t begun new answer = IsRead rest held 1 (λ more. glue_begun mu negative (λ sign. glue_signs mu sign more) (Took t ∷ more) more begun) (Took t ∷ []) new answer

-- the scan of which nothing is read
abbrev pub begun_glue : Bool → GlueScan
begun_glue mu = record { mu = mu; stage = stage.Signs false; size = sizes.begun_size (widths mu); glue = no_glue }

-- the scan that has taken these items reads on as the glue that begins with them
abbrev pub HasTaken : Bool → GlueScan → List Item → Type 0
HasTaken mu scan taken = HasTakenBy rest held (glue mu) scan taken
