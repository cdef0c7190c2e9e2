-- The glue between words (TeX: The Program, sections 1041 to 1044; The TeXbook, chapter 12).
use Rattle.std.specs.Prelude.{ℕ, ◌≤◌, ◌^◌, ℤ, pos, ◌+ℤ◌, ◌*ℤ◌, int_div, unsigned_abs, nat_lt, Bool, not, ◌&&◌, ◌==◌, if◌then◌else◌, List, Option, Some, None}
use Rattle.tx_num.specs.Glue.{GlueSpec, glue_of}
use Rattle.tx_tfm.specs.declared.state.FontState.{FontState}
use Rattle.tx_tfm.specs.Fonts.{font_parameter}
use Rattle.tx_word.specs.declared.piece.WordParams.{WordParams}
use Rattle.tx_word.specs.Factors.{ends_sentence}

-- glue without width, stretch and shrink, as \spaceskip and \xspaceskip are where they aren't to count
abbrev pub is_zero : GlueSpec → Bool
is_zero g = unsigned_abs g.width == 0 && (unsigned_abs g.stretch == 0 && unsigned_abs g.shrink == 0)

-- the space of a font: its parameters 2, 3 and 4 are its width, stretch and shrink
abbrev pub font_space : List FontState → ℕ → GlueSpec
font_space fonts font = glue_of (font_parameter fonts font 2) (font_parameter fonts font 3) 0 (font_parameter fonts font 4) 0

-- the plain space: \spaceskip, or the font's space where that is zero
abbrev pub plain_space : List FontState → WordParams → ℕ → GlueSpec
plain_space fonts params font = if is_zero params.spaceskip then font_space fonts font else params.spaceskip

-- what is added to the width behind a sentence: the font's extra space, its parameter 7
abbrev pub extra_space : List FontState → ℕ → ℤ → ℤ
extra_space fonts font factor = if ends_sentence factor then font_parameter fonts font 7 else pos 0

-- glue at a space factor: wider by so much, its stretch multiplied by f/1000 and its shrink by 1000/f, both rounded towards zero
abbrev pub at_factor : ℤ → ℤ → GlueSpec → GlueSpec
at_factor extra factor g =
    glue_of (g.width +ℤ extra) (int_div (g.stretch *ℤ factor) (pos 1000)) g.stretch_order (int_div (g.shrink *ℤ pos 1000) factor) g.shrink_order

-- whether a space is \xspaceskip: behind a sentence, where that isn't zero
abbrev pub is_xspaceskip : WordParams → ℤ → Bool
is_xspaceskip params factor = ends_sentence factor && not (is_zero params.xspaceskip)

-- the glue that a space gives in the font of a number, at a space factor
abbrev pub interword_glue : List FontState → WordParams → ℕ → ℤ → GlueSpec
interword_glue fonts params font factor =
    if is_xspaceskip params factor then params.xspaceskip
    else at_factor (extra_space fonts font factor) factor (plain_space fonts params font)

-- sizes of glue from which a space is computed: those of glue, or of a font's parameters
pub record AreSmall (g : GlueSpec) : Type 0 where
  pub width_in : unsigned_abs g.width ≤ 2 ^ 31
  pub stretch_in : unsigned_abs g.stretch ≤ 2 ^ 31
  pub stretch_order_in : g.stretch_order ≤ 3
  pub shrink_in : unsigned_abs g.shrink ≤ 2 ^ 31
  pub shrink_order_in : g.shrink_order ≤ 3

-- the glue of a space, None where a size of it is no dimension
abbrev pub is_dimension : ℤ → Bool
is_dimension size = nat_lt (unsigned_abs size) (2 ^ 30)

abbrev pub has_dimensions : GlueSpec → Bool
has_dimensions g = is_dimension g.width && (is_dimension g.stretch && is_dimension g.shrink)

abbrev pub space_between : List FontState → WordParams → ℕ → ℕ → Option GlueSpec
space_between fonts params font factor =
    if has_dimensions (interword_glue fonts params font (pos factor)) then Some (interword_glue fonts params font (pos factor)) else None
