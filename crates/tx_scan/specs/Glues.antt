-- Glue (The TeXbook, chapters 12 and 24; TeX: The Program, section 461).
use Rattle.std.specs.Prelude.{ℕ, pos, codes, Bool, true, false, not, ◌||◌, List, [], ◌∷◌, Result, Ok, Err, if◌then◌else◌}
use Rattle.tx_num.specs.Glue.{GlueSpec, glue_negated, glue_of}
use Rattle.tx_seen.specs.declared.error.TexError.{TexError}
use Rattle.tx_seen.specs.declared.error.TexError.TheVariants.{MissingNumber, MissingUnit}
use Rattle.tx_seen.specs.declared.fed.Value.{Value}
use Rattle.tx_seen.specs.declared.fed.Value.TheVariants.{Glue, Muglue}
use Rattle.tx_seen.specs.declared.fed.Want.TheVariants.{Expanded}
use Rattle.tx_seen.specs.declared.item.Item.TheVariants.{Took, Gave}
use Rattle.tx_seen.specs.declared.place.Place.{Place}
use Rattle.tx_seen.specs.Places.{is_glue, is_muglue, place_of}
use Rattle.tx_seen.specs.declared.item.Item.{Item}
use Rattle.tx_seen.specs.Readings.{Reading, More, Done, Wrong, next}
use Rattle.tx_scan.specs.declared.scans.GluePart.{GluePart}
use Rattle.tx_scan.specs.declared.scans.GluePart.TheVariants.{Width, Stretch, Shrink}
use Rattle.tx_scan.specs.declared.scans.Measure.{Measure}
use Rattle.tx_scan.specs.declared.scans.Order.{Order}
use Rattle.tx_scan.specs.declared.scans.Order.TheVariants.{Normal, Fil, Fill, Filll}
use Rattle.tx_scan.specs.declared.scans.Units.{Units}
use Rattle.tx_scan.specs.declared.scans.Beginning.{Beginning}
use Rattle.tx_scan.specs.declared.scans.Beginning.TheVariants as begin
use Rattle.tx_scan.specs.Beginnings.{beginning}
use Rattle.tx_scan.specs.Dimensions.{dimension, size_signs}
use Rattle.tx_scan.specs.Keywords.{keyword}
use Rattle.tx_scan.specs.Mapped.{done_if}
use Rattle.tx_scan.specs.Quantities.{quantity_begun}

-- the units of a width, and those of what stretches or shrinks, which may be infinite
abbrev pub widths : Bool → Units
widths mu = record { mu = mu; infinite = false }

abbrev pub elastics : Bool → Units
elastics mu = record { mu = mu; infinite = true }

-- an order by its number
abbrev pub number_of : Order → ℕ
number_of Normal = 0
number_of Fil = 1
number_of Fill = 2
number_of Filll = 3

-- the glue with this for one of its sizes; a width begins it
abbrev pub with_size : GluePart → GlueSpec → Measure → GlueSpec
with_size Width g measure = glue_of measure.size (pos 0) 0 (pos 0) 0
with_size Stretch g measure = glue_of g.width measure.size (number_of measure.order) g.shrink g.shrink_order
with_size Shrink g measure = glue_of g.width g.stretch g.stretch_order measure.size (number_of measure.order)

-- how far it shrinks, if `minus` is there
abbrev pub shrunk : GlueSpec → Measure → List Item → Reading GlueSpec
shrunk g measure rest = Done (with_size Shrink g measure) rest

abbrev pub shrink_if : Bool → GlueSpec → Bool → List Item → Reading GlueSpec
shrink_if mu g true rest = next (dimension (elastics mu) rest) (shrunk g)
shrink_if mu g false rest = Done g rest

abbrev pub shrinking : Bool → GlueSpec → List Item → Reading GlueSpec
shrinking mu g rest = next (keyword (codes "minus") rest) (shrink_if mu g)

-- how far it stretches, if `plus` is there; where that breaks off, `minus` may begin with what was read of it
abbrev pub stretched : Bool → GlueSpec → Measure → List Item → Reading GlueSpec
stretched mu g measure rest = shrinking mu (with_size Stretch g measure) rest

abbrev pub stretch_if : Bool → GlueSpec → Bool → List Item → Reading GlueSpec
stretch_if mu g true rest = next (dimension (elastics mu) rest) (stretched mu g)
stretch_if mu g false rest = shrinking mu g rest

abbrev pub stretching : Bool → GlueSpec → List Item → Reading GlueSpec
stretching mu g rest = next (keyword (codes "plus") rest) (stretch_if mu g)

-- glue that is no space at all
abbrev pub no_glue : GlueSpec
no_glue = glue_of (pos 0) (pos 0) 0 (pos 0) 0

abbrev pub wide : Bool → Measure → List Item → Reading GlueSpec
wide mu measure rest = stretching mu (with_size Width no_glue measure) rest

-- whether glue stands at a place
abbrev pub is_elastic : Place → Bool
is_elastic place = is_glue place || is_muglue place

-- glue with its sign, which turns all three sizes
abbrev pub signed_glue : Bool → GlueSpec → GlueSpec
signed_glue negative g = if negative then glue_negated g else g

-- internal glue, which has to be told in mu exactly where this is
abbrev pub internal : Bool → Bool → Value → Result GlueSpec TexError
internal mu negative (Glue g) = if mu then Err MissingUnit else Ok (signed_glue negative g)
internal mu negative (Muglue g) = if mu then Ok (signed_glue negative g) else Err MissingUnit
internal mu negative other = Err MissingNumber

abbrev pub internal_glue : Bool → Bool → Beginning → List Item → Reading GlueSpec
internal_glue mu negative begun rest = next (quantity_begun begun rest) (λ value rest. done_if (internal mu negative value) rest)

-- a width behind its signs, and optional `plus` and `minus` with theirs
abbrev pub told_glue : Bool → Bool → List Item → Reading GlueSpec
told_glue mu negative items = next (size_signs (widths mu) negative items) (wide mu)

-- what a token begins behind signs, or how reading goes on: internal glue is all of it, an internal dimension is a width
abbrev pub glue_begun : Bool → Bool → (Bool → Reading GlueSpec) → List Item → List Item → Beginning → Reading GlueSpec
glue_begun mu negative on items rest begin.Plus = on negative
glue_begun mu negative on items rest begin.Minus = on (not negative)
glue_begun mu negative on items rest (begin.At place) =
    if is_elastic place then internal_glue mu negative (begin.At place) rest else told_glue mu negative items
glue_begun mu negative on items rest (begin.Numbered kind) =
    if is_elastic (place_of kind 0) then internal_glue mu negative (begin.Numbered kind) rest else told_glue mu negative items
glue_begun mu negative on items rest other = told_glue mu negative items

abbrev pub glue_signs : Bool → Bool → List Item → Reading GlueSpec
glue_signs mu negative [] = More Expanded
glue_signs mu negative (Gave v ∷ rest) = Wrong MissingNumber
glue_signs mu negative (Took t ∷ rest) = glue_begun mu negative (λ negative. glue_signs mu negative rest) (Took t ∷ rest) rest (beginning t)

-- glue, in mu or in all other units; the signs before a width are its own alone
abbrev pub glue : Bool → List Item → Reading GlueSpec
glue mu items = glue_signs mu false items
