-- What \font takes behind the name that it defines (TeX: The Program, sections 1257 to 1259): an optional `=`, the name of a file,
-- and the size at which the font is used, told by `at` or `scaled`, or its design size.
use Rattle.std.specs.Prelude.{ℕ, ℤ, pos, int_le, int_lt, unsigned_abs, ◌&&◌, Bool, true, false, List, Result, Ok, Err, codes, if◌then◌else◌}
use Rattle.tx_seen.specs.declared.error.TexError.{TexError}
use Rattle.tx_seen.specs.declared.error.TexError.TheVariants.{BadFont}
use Rattle.tx_seen.specs.declared.item.Item.{Item}
use Rattle.tx_seen.specs.declared.place.Place.{Place}
use Rattle.tx_seen.specs.Readings.{Reading, Done, next}
use Rattle.tx_scan.specs.declared.scans.Measure.{Measure}
use Rattle.tx_scan.specs.Dimensions.{dimension, lengths}
use Rattle.tx_scan.specs.FileNames.{file_name}
use Rattle.tx_scan.specs.Grammars.{equals}
use Rattle.tx_scan.specs.Integers.{integer}
use Rattle.tx_scan.specs.Keywords.{keyword}
use Rattle.tx_scan.specs.Mapped.{done_if}
use Rattle.tx_shape.specs.declared.types.FontAsked.{FontAsked}
use Rattle.tx_shape.specs.declared.types.AskedSize.{AskedSize}
use Rattle.tx_shape.specs.declared.types.AskedSize.TheVariants.{Design, At, Scaled}
use Rattle.tx_tfm.specs.declared.rules.Size.{Size}
use Rattle.tx_tfm.specs.declared.rules.Size.TheVariants as size

-- a size that is asked for as that of a font
abbrev pub size_asked : AskedSize → Size
size_asked Design = size.Design
size_asked (At z) = size.At z
size_asked (Scaled n) = size.Scaled (pos n)

abbrev pub asked : Place → List ℕ → AskedSize → FontAsked
asked place name size = record { place = place; name = name; size = size }

-- a size is that of a font from 1sp on and below 2048pt, and a number of thousandths from 1 to 32768 (section 1259)
abbrev pub in_range : ℤ → Bool
in_range z = int_lt (pos 0) z && int_lt z (pos 134217728)

abbrev pub is_scale : ℤ → Bool
is_scale n = int_lt (pos 0) n && int_le n (pos 32768)

abbrev pub asked_at : Place → List ℕ → Measure → Result FontAsked TexError
asked_at place name measure = if in_range measure.size then Ok (asked place name (At measure.size)) else Err BadFont

abbrev pub asked_scaled : Place → List ℕ → ℤ → Result FontAsked TexError
asked_scaled place name n = if is_scale n then Ok (asked place name (Scaled (unsigned_abs n))) else Err BadFont

-- `scaled` and a number, or nothing
abbrev pub scaled_or_not : Place → List ℕ → Bool → List Item → Reading FontAsked
scaled_or_not place name true rest = next (integer rest) (λ n rest. done_if (asked_scaled place name n) rest)
scaled_or_not place name false rest = Done (asked place name Design) rest

abbrev pub no_at : Place → List ℕ → List Item → Reading FontAsked
no_at place name items = next (keyword (codes "scaled") items) (scaled_or_not place name)

-- `at` and a size, or what else
abbrev pub at_or_not : Place → List ℕ → Bool → List Item → Reading FontAsked
at_or_not place name true rest = next (dimension lengths rest) (λ measure rest. done_if (asked_at place name measure) rest)
at_or_not place name false rest = no_at place name rest

abbrev pub behind_name : Place → List ℕ → List Item → Reading FontAsked
behind_name place name items = next (keyword (codes "at") items) (at_or_not place name)

abbrev pub named : Place → List Item → Reading FontAsked
named place items = next (file_name items) (λ name rest. behind_name place name rest)

abbrev pub loading : Place → List Item → Reading FontAsked
loading place items = next (equals items) (λ _ rest. named place rest)
