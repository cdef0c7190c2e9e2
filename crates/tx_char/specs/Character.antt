-- Characters by name.
use Rattle.std.specs.Prelude.{ℕ}
use Prim.Native.Char.{Char, code}

-- the code of a character
abbrev pub character : Char → ℕ
character c = code c
