-- The fonts of a run (TeX: The Program, sections 549, 552, 578 and 1257 to 1260): number 0 is \nullfont, without characters, and the
-- fonts that were loaded have the numbers from 1 on, in their order. Beside what its file says each has parameters, a \hyphenchar and
-- a \skewchar, which commands change, and an identifier.
use Rattle.std.specs.Prelude.{ℕ, zero, suc, ◌+◌, ◌^◌, ◌<◌, ◌≤◌, ◌==◌, ◌&&◌, ◌||◌, max, nat_le, nat_lt, if◌then◌else◌, Bool, false, ℤ, pos, neg_ℤ, List, [], ◌∷◌, length, slice_get, slice_set, Option, Some, None, option_and_then, codes, bytes_eq}
use Rattle.std.specs.List.{All}
use Rattle.std.specs.Option.{option_map_or}
use Rattle.tx_prim.specs.declared.family.FontNumber.{FontNumber}
use Rattle.tx_prim.specs.declared.family.FontNumber.TheVariants as which
use Rattle.tx_tfm.specs.declared.named.NamedFont.{NamedFont}
use Rattle.tx_tfm.specs.declared.rules.Size.{Size}
use Rattle.tx_tfm.specs.declared.state.FontState.{FontState}
use Rattle.tx_tfm.specs.Format.{is_there, checksum_of, design_size_of}
use Rattle.tx_tfm.specs.Metrics.{width_of, height_of, depth_of, italic_of, is_used_at}
use Rattle.tx_tfm.specs.Parameters.{first_parameters, parameter_at, with_value}

-- \nullfont as INITEX has it: seven parameters that are 0, \hyphenchar 45 and \skewchar -1 (section 552)
abbrev pub null_state : FontState
null_state = record { named = None; parameters = []; hyphen = pos 45; skew = neg_ℤ (pos 1); identifier = [] }

abbrev pub no_fonts : List FontState
no_fonts = null_state ∷ []

-- the loaded font of a number; None for \nullfont and where no font has it
abbrev pub font_at : List FontState → ℕ → Option NamedFont
font_at fonts zero = None
font_at fonts (suc n) = option_and_then (λ (s : FontState). s.named) (slice_get fonts (suc n))

-- whether the font of a number has a character
abbrev pub has_character : List FontState → ℕ → ℕ → Bool
has_character fonts number code = option_map_or (λ (f : NamedFont). is_there f.font.file code) (font_at fonts number) false

-- its sizes, in sp; 0 in \nullfont
abbrev pub character_width : List FontState → ℕ → ℕ → ℤ
character_width fonts number code = option_map_or (λ (f : NamedFont). width_of f.font code) (font_at fonts number) (pos 0)

abbrev pub character_height : List FontState → ℕ → ℕ → ℤ
character_height fonts number code = option_map_or (λ (f : NamedFont). height_of f.font code) (font_at fonts number) (pos 0)

abbrev pub character_depth : List FontState → ℕ → ℕ → ℤ
character_depth fonts number code = option_map_or (λ (f : NamedFont). depth_of f.font code) (font_at fonts number) (pos 0)

abbrev pub character_italic : List FontState → ℕ → ℕ → ℤ
character_italic fonts number code = option_map_or (λ (f : NamedFont). italic_of f.font code) (font_at fonts number) (pos 0)

-- how many parameters a font has, seven at least
abbrev pub state_count : FontState → ℕ
state_count state = max 7 (length state.parameters)

-- parameter n of the font of a number, from 1 on, as it is now; and how many there are
abbrev pub font_parameter : List FontState → ℕ → ℕ → ℤ
font_parameter fonts number n = option_map_or (λ (s : FontState). parameter_at s.parameters n) (slice_get fonts number) (pos 0)

abbrev pub font_parameter_count : List FontState → ℕ → ℕ
font_parameter_count fonts number = option_map_or state_count (slice_get fonts number) 7

-- whether \fontdimen can mean parameter n of the font of a number: the font has it, or was loaded last and can get it (section 578)
abbrev pub has_parameter : List FontState → ℕ → ℕ → Bool
has_parameter fonts number n = nat_lt 0 n && (number + 1 == length fonts || nat_le n (font_parameter_count fonts number))

-- a font with another parameter n
abbrev pub with_parameter : ℕ → ℤ → FontState → FontState
with_parameter n value state = record state { parameters = with_value n value state.parameters }

-- the fonts with a change of the font of a number
abbrev pub changed : (FontState → FontState) → List FontState → ℕ → List FontState
changed change fonts number = option_map_or (λ (s : FontState). slice_set fonts number (change s)) (slice_get fonts number) fonts

abbrev pub with_font_parameter : List FontState → ℕ → ℕ → ℤ → List FontState
with_font_parameter fonts number n value = changed (with_parameter n value) fonts number

-- \hyphenchar and \skewchar
abbrev pub state_integer : FontNumber → FontState → ℤ
state_integer which.Hyphen state = state.hyphen
state_integer which.Skew state = state.skew

abbrev pub with_integer : FontNumber → ℤ → FontState → FontState
with_integer which.Hyphen value state = record state { hyphen = value }
with_integer which.Skew value state = record state { skew = value }

abbrev pub font_integer : FontNumber → List FontState → ℕ → ℤ
font_integer kind fonts number = option_map_or (state_integer kind) (slice_get fonts number) (neg_ℤ (pos 1))

abbrev pub with_font_integer : FontNumber → List FontState → ℕ → ℤ → List FontState
with_font_integer kind fonts number value = changed (with_integer kind value) fonts number

-- the text of a font's identifier: the name by which \font named the font last, and `nullfont` (sections 552 and 1257)
abbrev pub font_identifier : List FontState → ℕ → List ℕ
font_identifier fonts zero = codes "nullfont"
font_identifier fonts (suc n) = option_map_or (λ (s : FontState). s.identifier) (slice_get fonts (suc n)) []

abbrev pub with_identifier : List ℕ → FontState → FontState
with_identifier text state = record state { identifier = text }

abbrev pub with_font_identifier : List FontState → ℕ → List ℕ → List FontState
with_font_identifier fonts number text = changed (with_identifier text) fonts number

-- the name of a font as \font was given it
abbrev pub font_name : List FontState → ℕ → List ℕ
font_name fonts number = option_map_or (λ (f : NamedFont). f.name) (font_at fonts number) (codes "nullfont")

-- a font when it is loaded (section 576)
abbrev pub loaded_state : NamedFont → ℤ → ℤ → FontState
loaded_state f hyphen skew = record { named = Some f; parameters = first_parameters f.font f.font.file.lengths.parameters; hyphen = hyphen; skew = skew; identifier = [] }

-- \font gives the first loaded font of the name that is used at the size (section 1260)
abbrev pub is_asked : List ℕ → Size → NamedFont → Bool
is_asked name size f = bytes_eq f.name name && is_used_at f.font size

abbrev pub found_from : ℕ → List FontState → List ℕ → Size → Option ℕ
found_from number [] name size = None
found_from number (s ∷ fonts) name size =
    if option_map_or (is_asked name size) s.named false then Some number else found_from (suc number) fonts name size

abbrev pub found : List FontState → List ℕ → Size → Option ℕ
found [] name size = None
found (null ∷ loaded) name size = found_from 1 loaded name size

-- what can be told of a font to the reader of a DVI file: the length of its name fits one byte, its numbers fit four
pub record IsTellable (f : NamedFont) : Type 0 where
  pub name : length f.name ≤ 255
  pub checksum : checksum_of f.font.file < 2 ^ 32
  pub size : f.font.size < 2 ^ 32
  pub design_size : design_size_of f.font.file < 2 ^ 32

abbrev pub IsTellableFont : Option NamedFont → Type 0
IsTellableFont None = Unit {0}
IsTellableFont (Some f) = IsTellable f

abbrev pub IsState : FontState → Type 0
IsState state = IsTellableFont state.named

-- what holds of the fonts of a run: there are \nullfont and at most 255 beside it
pub record AreFonts (fonts : List FontState) : Type 0 where
  pub some : 0 < length fonts
  pub few : length fonts ≤ 256
  pub states : All IsState fonts
