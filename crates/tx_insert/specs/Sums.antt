-- What the items before a place have together (TeX: The Program, sections 970, 972, 973 and 976; of a page, sections 1002 to 1004).
use Rattle.std.specs.Prelude.{ℕ, Bool, ◌&&◌, ℤ, pos, ◌+ℤ◌, ◌-ℤ◌, int_lt, Result, Ok, Err, if◌then◌else◌}
use Rattle.tx_num.specs.Glue.{GlueSpec, IsDimension}
use Rattle.tx_num.specs.Limits.{fits}
use Rattle.tx_node.specs.declared.head.Change.TheVariants.{Stretch}
use Rattle.tx_node.specs.Setting.{glue_part}
use Rattle.tx_insert.specs.declared.error.SplitError.{SplitError}
use Rattle.tx_insert.specs.declared.error.SplitError.TheVariants.{SizeOutOfRange}
use Rattle.tx_insert.specs.declared.kind.Kind.{Kind}
use Rattle.tx_insert.specs.declared.kind.Kind.TheVariants.{Solid, Skip, Kern, Penalty, Still}
use Rattle.tx_insert.specs.declared.sums.Sums.{Sums}

abbrev pub no_sums : Sums
no_sums = record { height = pos 0; depth = pos 0; normal = pos 0; fil = pos 0; fill = pos 0; filll = pos 0; shrink = pos 0 }

-- the height with the last depth
abbrev pub reach : Sums → ℤ
reach sums = sums.height +ℤ sums.depth

-- with something of this height and depth, in whose height the depth above it comes
abbrev pub lower : Sums → ℤ → ℤ → Sums
lower sums height depth = record sums { height = reach sums +ℤ height; depth = depth }

-- with glue, whose stretch counts by its order
abbrev pub with_stretch : ℤ → ℕ → GlueSpec → ℤ
with_stretch sum order g = sum +ℤ glue_part Stretch order g

abbrev pub with_infinite : Sums → GlueSpec → Sums
with_infinite sums g = record sums { fil = with_stretch sums.fil 1 g; fill = with_stretch sums.fill 2 g; filll = with_stretch sums.filll 3 g }

abbrev pub with_elastic : Sums → GlueSpec → Sums
with_elastic sums g = record (with_infinite sums g) { normal = with_stretch sums.normal 0 g; shrink = sums.shrink +ℤ g.shrink }

abbrev pub with_glue : Sums → GlueSpec → Sums
with_glue sums g = record (with_elastic sums g) { height = reach sums +ℤ g.width; depth = pos 0 }

-- with one more item
abbrev pub joined : Sums → Kind → Sums
joined sums (Solid height depth) = lower sums height depth
joined sums (Skip g) = with_glue sums g
joined sums (Kern size) = lower sums size (pos 0)
joined sums (Penalty n) = sums
joined sums Still = sums

-- depth beyond the greatest goes into the height
abbrev pub carried : ℤ → Sums → Sums
carried most sums = if int_lt most sums.depth then record sums { height = sums.height +ℤ sums.depth -ℤ most; depth = most } else sums

-- all sums are dimensions
abbrev pub sizes_fit : Sums → Bool
sizes_fit sums = fits sums.height && fits sums.depth

abbrev pub glue_fits : Sums → Bool
glue_fits sums = fits sums.normal && (fits sums.fil && (fits sums.fill && (fits sums.filll && fits sums.shrink)))

abbrev pub all_fit : Sums → Bool
all_fit sums = sizes_fit sums && glue_fits sums

-- the sums behind one more item, where they are dimensions
abbrev pub if_fits : Sums → Result Sums SplitError
if_fits sums = if all_fit sums then Ok sums else Err SizeOutOfRange

abbrev pub with_item : ℤ → Sums → Kind → Result Sums SplitError
with_item most sums kind = if_fits (carried most (joined sums kind))

-- sums that are dimensions
pub record IsSmall (sums : Sums) : Type 0 where
  pub height : IsDimension sums.height
  pub depth : IsDimension sums.depth
  pub normal : IsDimension sums.normal
  pub fil : IsDimension sums.fil
  pub fill : IsDimension sums.fill
  pub filll : IsDimension sums.filll
  pub shrink : IsDimension sums.shrink
