-- Fonts as \fontname and \meaning print them (TeX: The Program, sections 472 and 1261).
use Rattle.std.specs.Prelude.{ℕ, ◌==◌, ℤ, pos, List, [], ◌++◌, codes, if◌then◌else◌}
use Rattle.std.specs.Option.{option_map_or}
use Rattle.tx_tfm.specs.declared.metrics.Metrics.{Metrics}
use Rattle.tx_tfm.specs.declared.named.NamedFont.{NamedFont}
use Rattle.tx_tfm.specs.declared.state.FontState.{FontState}
use Rattle.tx_tfm.specs.Fonts.{font_at}
use Rattle.tx_tfm.specs.Format.{design_size_of}
use Rattle.tx_convert.specs.Numerals.{size_text}

-- the size at which a font is used, where that isn't its design size
abbrev pub at_size : ℤ → List ℕ
at_size size = codes " at " ++ size_text size

abbrev pub size_behind : Metrics → List ℕ
size_behind m = if m.size == design_size_of m.file then [] else at_size (pos m.size)

-- the name of the font of a number as \font was given it, and its size
abbrev pub font_text : List FontState → ℕ → List ℕ
font_text fonts number = option_map_or (λ (f : NamedFont). f.name ++ size_behind f.font) (font_at fonts number) (codes "nullfont")
