-- What a font answers, at the size at which it is used (TeX: The Program, section 549).
use Rattle.std.specs.Prelude.{ℕ, ◌+◌, ◌*◌, ◌-◌, ◌/◌, ◌^◌, ◌==◌, nat_lt, if◌then◌else◌, Bool, false, Option, Some, None, List, ℤ, pos, negsuc, ◌-ℤ◌, unsigned_abs}
use Rattle.tx_tfm.specs.declared.file.Word.{Word}
use Rattle.tx_tfm.specs.declared.rules.Size.{Size}
use Rattle.tx_tfm.specs.declared.metrics.Metrics.{Metrics}
use Rattle.tx_tfm.specs.Format.{tfm_of, word_at, widths_at, heights_at, depths_at, italics_at, kerns_at, recipes_at, parameters_at, info_of, width_index, height_index, depth_index, italic_index, tag}
use Rattle.tx_tfm.specs.Scaling.{scaled}
use Rattle.tx_tfm.specs.Rules.{size_in_sp}

-- the font of these bytes at that size
abbrev pub metrics_of : List ℕ → Size → Metrics
metrics_of bytes size = record { file = tfm_of bytes; size = unsigned_abs (size_in_sp (tfm_of bytes) size) }

-- whether an integer is this number
abbrev pub is_number : ℕ → ℤ → Bool
is_number n (pos z) = z == n
is_number n (negsuc z) = false

-- whether a font is used at the size that is asked for
abbrev pub is_used_at : Metrics → Size → Bool
is_used_at m size = is_number m.size (size_in_sp m.file size)

-- the number at a place, times the size
abbrev pub scaled_at : Metrics → ℕ → ℤ
scaled_at m place = scaled m.size (word_at m.file place)

abbrev pub width_of : Metrics → ℕ → ℤ
width_of m code = scaled_at m (widths_at m.file.lengths + width_index (info_of m.file code))

abbrev pub height_of : Metrics → ℕ → ℤ
height_of m code = scaled_at m (heights_at m.file.lengths + height_index (info_of m.file code))

abbrev pub depth_of : Metrics → ℕ → ℤ
depth_of m code = scaled_at m (depths_at m.file.lengths + depth_index (info_of m.file code))

abbrev pub italic_of : Metrics → ℕ → ℤ
italic_of m code = scaled_at m (italics_at m.file.lengths + italic_index (info_of m.file code))

-- the next larger character
abbrev pub successor_of : Metrics → ℕ → Option ℕ
successor_of m code = if tag (info_of m.file code) == 2 then Some (info_of m.file code).d else None

-- the pieces top, middle, bottom and repeated of an extensible character; 0 is no piece, but for the last
abbrev pub recipe_of : Metrics → ℕ → Option Word
recipe_of m code = if tag (info_of m.file code) == 3 then Some (word_at m.file (recipes_at m.file.lengths + (info_of m.file code).d)) else None

-- a word as a number with sign over 16, rounded down
abbrev pub slant_of : Word → ℤ
slant_of w =
    let n : ℕ = (((w.a * 256 + w.b) * 256 + w.c) * 256 + w.d) / 16 in
    if nat_lt w.a 128 then pos n else pos n -ℤ pos (2 ^ 28)

-- parameter n, from 1 on: the slant, a multiple of 2^-16, and then sizes; 0 past the last one
abbrev pub parameter_of : Metrics → ℕ → ℤ
parameter_of m n =
    if nat_lt m.file.lengths.parameters n then pos 0
    else if n == 1 then slant_of (word_at m.file (parameters_at m.file.lengths))
    else scaled_at m (parameters_at m.file.lengths + (n - 1))

-- how many parameters a font has: seven at least
abbrev pub parameter_count_of : Metrics → ℕ
parameter_count_of m = if nat_lt m.file.lengths.parameters 7 then 7 else m.file.lengths.parameters

-- the kern that a command with an op of 128 or more puts in
abbrev pub kern_of : Metrics → Word → ℤ
kern_of m w = scaled_at m (kerns_at m.file.lengths + (256 * (w.c - 128) + w.d))
