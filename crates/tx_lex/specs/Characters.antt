-- The characters of a line, once each `^^` is replaced by what it stands for.
use Rattle.std.specs.Prelude.{ℕ, zero, suc, Option, Some, None, List, [], ◌∷◌, length}
use Rattle.tx_char.specs.declared.category.Cat.{Cat}
use Rattle.tx_lex.specs.Notation.{Seen, reduction}

-- the characters of the line `c ∷ rest`, by what a notation that begins with c stands for, and by how others are read:
-- None where c begins no notation, so that it is a character itself
abbrev pub characters_from : (List ℕ → List Seen) → ℕ → List ℕ → Option Seen → List Seen
characters_from others c rest None = record { code = c; rest = rest } ∷ others rest
characters_from others c rest (Some seen) = others (seen.code ∷ seen.rest)

-- the first characters of a line, this many steps far
abbrev pub characters_by : ℕ → List Cat → List ℕ → List Seen
characters_by zero codes line = []
characters_by (suc steps) codes [] = []
characters_by (suc steps) codes (c ∷ rest) = characters_from (characters_by steps codes) c rest (reduction codes c rest)

-- the characters of a line in order, each with the rest of the line behind it as it stands there; the character for
-- which a notation stands is read again, so it may begin another. Each step shortens the line, so its length is steps
-- enough.
unfoldable pub characters : List Cat → List ℕ → List Seen
characters codes line = characters_by (length line) codes line
