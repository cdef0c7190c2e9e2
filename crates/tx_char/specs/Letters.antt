-- What the bytes of a name are, and the number that they are mixed to.
use Rattle.std.specs.Prelude.{◌+◌, ◌*◌, ◌%◌, ℕ, List, [], ◌∷◌, take}
use Rattle.tx_char.specs.declared.short.Short.{Short}
use Rattle.tx_char.specs.declared.short.Letters.{Letters}
use Rattle.tx_char.specs.declared.short.Letters.TheVariants as letters

abbrev pub short_letters : Short → List ℕ
short_letters short = take short.count short.bytes

abbrev pub letters_of : Letters → List ℕ
letters_of (letters.Short short) = short_letters short
letters_of (letters.Long bytes) = bytes

-- the number that the bytes of a name are mixed to, from a number on: a table finds the name by it, as by the hash code of TeX: The
-- Program, section 261
abbrev pub mixed : ℕ → List ℕ → ℕ
mixed number [] = number
mixed number (byte ∷ bytes) = mixed ((number * 31 + byte) % 4294967296) bytes
