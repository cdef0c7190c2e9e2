-- The notation ^^ for characters (The TeXbook, chapter 8; TeX: The Program, sections 352 and 355).
use Rattle.std.specs.Prelude.{ℕ, Bool, true, false, Option, Some, None, List, [], ◌∷◌, ◌==◌, ◌&&◌, ◌||◌, ◌+◌, ◌-◌, ◌*◌, nat_lt, nat_le, if◌then◌else◌}
use Rattle.tx_char.specs.declared.category.Cat.{Cat}
use Rattle.tx_char.specs.declared.category.Cat.TheVariants.{Superscript}
use Rattle.tx_char.specs.Category.{category}

-- a character of a line, and the rest of the line behind it
pub record Seen : Type 0 where
  pub code : ℕ
  pub rest : List ℕ

-- whether a category is Superscript, 7
abbrev pub is_superscript : Cat → Bool
is_superscript Superscript = true
is_superscript _ = false

-- whether a code is that of a hexadecimal digit: 0 to 9 or a to f; A to F are none
abbrev pub is_hex_digit : ℕ → Bool
is_hex_digit c = (nat_le 48 c && nat_le c 57) || (nat_le 97 c && nat_le c 102)

-- the value of such a digit
abbrev pub hex_value : ℕ → ℕ
hex_value c = if nat_le c 57 then c - 48 else c - 87

-- a code below 128, moved by 64
abbrev pub moved : ℕ → ℕ
moved c = if nat_lt c 64 then c + 64 else c - 64

-- the character for which `^^` stands where c and this rest follow it, and what follows that
abbrev pub denoted : ℕ → List ℕ → Seen
denoted c [] = record { code = moved c; rest = [] }
denoted c (d ∷ rest) =
    if is_hex_digit c && is_hex_digit d
    then record { code = 16 * hex_value c + hex_value d; rest = rest }
    else record { code = moved c; rest = d ∷ rest }

-- the character for which a notation stands that begins with a, None where a and this rest begin none: a character of
-- category 7, the same again, and a code below 128
abbrev pub reduction : List Cat → ℕ → List ℕ → Option Seen
reduction codes a [] = None
reduction codes a (b ∷ []) = None
reduction codes a (b ∷ c ∷ rest) =
    if is_superscript (category codes a) && ((b == a) && nat_lt c 128) then Some (denoted c rest) else None
