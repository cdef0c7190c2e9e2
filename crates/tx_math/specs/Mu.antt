-- Sizes in mu as sizes in sp (TeX: The Program, sections 703, 716 and 717).
use Rattle.std.specs.Prelude.{ℕ, ◌==◌, Bool, ◌&&◌, ℤ, pos, ◌+ℤ◌, ◌*ℤ◌, int_div, if◌then◌else◌, Result, Ok, Err}
use Rattle.std.specs.Int.{int_div_euclid, int_rem_euclid}
use Rattle.tx_num.specs.Glue.{GlueSpec}
use Rattle.tx_num.specs.Limits.{fits}
use Rattle.tx_math.specs.declared.error.MathError.{MathError}
use Rattle.tx_math.specs.declared.error.MathError.TheVariants.{SizeOutOfRange}
use Rattle.tx_math.specs.Boxes.{stored}
use Rattle.tx_math.specs.Parameters.{Math, quad}

-- 1mu is the eighteenth part of the symbol font's quad, rounded towards zero
abbrev pub mu : Math → ℕ → ℤ
mu m style = int_div (quad m style) (pos 18)

-- a size in mu, in units of 2^-16: whole points of 1mu are multiplied as they are, and their fraction is rounded towards zero
unfoldable pub times_mu : ℤ → ℤ → ℤ
times_mu unit size =
    int_div_euclid unit (pos 65536) *ℤ size +ℤ int_div (size *ℤ int_rem_euclid unit (pos 65536)) (pos 65536)

-- only what isn't infinite is told in mu
unfoldable pub elastic_in_points : ℤ → ℤ → ℕ → ℤ
elastic_in_points unit size order = if order == 0 then times_mu unit size else size

unfoldable pub glue_in_points : ℤ → GlueSpec → GlueSpec
glue_in_points unit g = record g {
  width = times_mu unit g.width;
  stretch = elastic_in_points unit g.stretch g.stretch_order;
  shrink = elastic_in_points unit g.shrink g.shrink_order;
}

abbrev pub glue_fits : GlueSpec → Bool
glue_fits g = fits g.width && (fits g.stretch && fits g.shrink)

-- glue, and a kern, in a style; their sizes have to be dimensions
unfoldable pub fitting : GlueSpec → Result GlueSpec MathError
fitting g = if glue_fits g then Ok g else Err SizeOutOfRange

unfoldable pub math_glue : Math → ℕ → GlueSpec → Result GlueSpec MathError
math_glue m style g = fitting (glue_in_points (mu m style) g)

unfoldable pub math_kern : Math → ℕ → ℤ → Result ℤ MathError
math_kern m style size = stored (times_mu (mu m style) size)
