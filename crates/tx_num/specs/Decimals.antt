-- Decimal fractions of a point (TeX: The Program, sections 102 and 103).
use Rattle.std.specs.Prelude.{◌≡◌, ℕ, zero, suc, ◌+◌, ◌*◌, ◌/◌, ◌%◌, ◌^◌, ◌≤◌, ◌==◌, Bool, ℤ, pos, negsuc, unsigned_abs, List, [], ◌∷◌, ◌++◌, length, take, decimal, if◌then◌else◌}
use Rattle.std.specs.Str.Parse.{digits_value, AllDigits}
use Rattle.tx_num.specs.Fractions.{nearest}

-- what digits after a decimal point stand for, in 65536ths, to the nearest; the first seventeen count
abbrev pub fraction_of : List ℕ → ℕ
fraction_of digits = nearest (65536 * digits_value 10 (take 17 digits)) (10 ^ length (take 17 digits))

-- f 65536ths to so many decimal places, the nearest, in units of the last place
abbrev pub to_places : ℕ → ℕ → ℕ
to_places places f = nearest (10 ^ places * f) 65536

-- whether f 65536ths to so many places stand for f
abbrev pub stands_for : ℕ → ℕ → Bool
stands_for f places = nearest (65536 * to_places places f) (10 ^ places) == f

-- the fewest places, at least one, that do; five always do
abbrev pub places_of : ℕ → ℕ
places_of f =
    if stands_for f 1 then 1
    else if stands_for f 2 then 2
    else if stands_for f 3 then 3
    else if stands_for f 4 then 4
    else 5

-- the last digits of a number, so many, as text
abbrev pub spelled : ℕ → ℕ → List ℕ
spelled zero n = []
spelled (suc places) n = spelled places (n / 10) ++ (48 + n % 10) ∷ []

-- `-` before a negative number
abbrev pub sign_of : ℤ → List ℕ
sign_of (pos _) = []
sign_of (negsuc _) = 45 ∷ []

-- a size of z sp in points: sign, whole points, a point, and the fraction to the fewest places that read back
abbrev pub scaled_text_of : ℤ → List ℕ
scaled_text_of z =
    let f : ℕ = unsigned_abs z % 65536 in
    sign_of z ++ decimal (unsigned_abs z / 65536) ++ 46 ∷ spelled (places_of f) (to_places (places_of f) f)

-- the text has digits after its point that stand for the fraction of z, and no fewer digits do
pub record IsShortest (z : ℤ) (text : List ℕ) : Type 0 where
  pub digits : List ℕ
  pub parts : text ≡ sign_of z ++ decimal (unsigned_abs z / 65536) ++ 46 ∷ digits
  pub some : 1 ≤ length digits
  pub are_digits : AllDigits 10 digits
  pub stand_for : fraction_of digits ≡ unsigned_abs z % 65536
  pub fewest : (others : List ℕ) → 1 ≤ length others → AllDigits 10 others → fraction_of others ≡ unsigned_abs z % 65536 → length digits ≤ length others
