-- The widest character that still fits (TeX: The Program, section 740).
use Rattle.std.specs.Prelude.{ℕ, zero, suc, Bool, ◌&&◌, not, ℤ, int_lt, List, Option, Some, None, option_and_then, if◌then◌else◌}
use Rattle.std.specs.Option.{option_map_or}
use Rattle.tx_tfm.specs.declared.state.FontState.{FontState}
use Rattle.tx_tfm.specs.Fonts.{character_width, has_character}
use Rattle.tx_delim.specs.Searching.{successor_in}

-- a character that is there and no wider than this
abbrev pub fits_in : List FontState → ℤ → ℕ → ℕ → Bool
fits_in fonts width font code = has_character fonts font code && not (int_lt width (character_width fonts font code))

abbrev pub if_fitting : List FontState → ℤ → ℕ → ℕ → Option ℕ
if_fitting fonts width font code = if fits_in fonts width font code then Some code else None

-- the successor of a character, if it is such
abbrev pub next_fitting : List FontState → ℤ → ℕ → ℕ → Option ℕ
next_fitting fonts width font code = option_and_then (if_fitting fonts width font) (successor_in fonts font code)

-- the last of these along the successors, of which so many are looked at
unfoldable pub fitting_within : ℕ → List FontState → ℤ → ℕ → ℕ → ℕ
fitting_within zero fonts width font code = code
fitting_within (suc n) fonts width font code = option_map_or (fitting_within n fonts width font) (next_fitting fonts width font code) code

-- of all
abbrev pub fitting : List FontState → ℤ → ℕ → ℕ → ℕ
fitting fonts width font code = fitting_within 256 fonts width font code
