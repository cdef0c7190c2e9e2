-- Numbers as \number, \romannumeral and \the print them (The TeXbook, chapters 8, 20 and 24; TeX: The Program, sections 65, 69
-- and 103).
use Rattle.std.specs.Prelude.{ℕ, ◌-◌, ◌/◌, ◌%◌, ◌==◌, nat_le, ℤ, pos, negsuc, List, [], ◌∷◌, ◌++◌, replicate, codes, if◌then◌else◌}
use Rattle.std.specs.Fmt.{signed_decimal}
use Rattle.tx_char.specs.Character.{character}
use Rattle.tx_num.specs.Decimals.{scaled_text_of}

-- an integer
abbrev pub number_text : ℤ → List ℕ
number_text n = signed_decimal n

-- a size, which counts in scaled points
abbrev pub size_text : ℤ → List ℕ
size_text size = scaled_text_of size ++ codes "pt"

-- a decimal digit in Roman letters, by those for one, five and ten: up to three ones; a one before the five; the five, and
-- up to three ones; a one before the ten
abbrev pub roman_digit : ℕ → ℕ → ℕ → ℕ → List ℕ
roman_digit one five ten digit =
    if nat_le digit 3 then replicate digit one
    else if digit == 4 then one ∷ five ∷ []
    else if nat_le digit 8 then five ∷ replicate (digit - 5) one
    else one ∷ ten ∷ []

-- as many thousands as there are, then hundreds, tens and ones
abbrev pub roman : ℕ → List ℕ
roman n =
    replicate (n / 1000) (character "m")
    ++ roman_digit (character "c") (character "d") (character "m") (n / 100 % 10)
    ++ roman_digit (character "x") (character "l") (character "c") (n / 10 % 10)
    ++ roman_digit (character "i") (character "v") (character "x") (n % 10)

-- a number below 1 has no Roman numeral
abbrev pub roman_text : ℤ → List ℕ
roman_text (pos n) = roman n
roman_text (negsuc n) = []
