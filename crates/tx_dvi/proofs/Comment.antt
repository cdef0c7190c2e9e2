-- The comment of the preamble fits its length byte.
use Rattle.std.proofs.Common.{◌≤◌, ◌^◌, length, ℤ, pos, negsuc, arith, length-append, FitsSigned, w32}
use Rattle.std.specs.Prelude.{unsigned_abs}
use Rattle.std.specs.Fmt.{signed_decimal}
use Rattle.std.proofs.lemmas.Fmt.{length_signed_le}
use Rattle.std.proofs.lemmas.Int.{ints}
use Rattle.tx_dvi.specs.declared.page.DateParameters.{DateParameters}
use Rattle.tx_dvi.specs.Dvi.{comment, day_and_time}

abs_fits : (z : ℤ) → FitsSigned w32 z → unsigned_abs z ≤ 2 ^ 31
abs_fits (pos n) fits = omega (arith, fits, ints)
abs_fits (negsuc n) fits = omega (arith, fits, ints)

length-signed : (z : ℤ) → FitsSigned w32 z → length (signed_decimal z) ≤ 11
length-signed z fits = let abs : unsigned_abs z ≤ 2 ^ 31 = abs_fits z fits in length_signed_le 10 z (omega (arith, abs)) (omega (arith, abs))

pub length-comment : (date : DateParameters) → FitsSigned w32 date.year → length (comment date) ≤ 255
length-comment date fits = omega (arith, length-signed date.year fits, length-append (signed_decimal date.year) (day_and_time date))
