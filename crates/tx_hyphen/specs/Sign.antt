-- What one character of a pattern or an exception says.
use Rattle.std.specs.Prelude.{ℕ, ◌==◌, ◌-◌, Bool, not, ◌&&◌, if◌then◌else◌, List, Option, None, Some, slice_index}
use Rattle.std.specs.Char.{is_ascii_digit}
use Rattle.tx_hyphen.specs.declared.spelling.Kind.{Kind}
use Rattle.tx_hyphen.specs.declared.spelling.Kind.TheVariants.{Pattern, Exception}
use Rattle.tx_hyphen.specs.declared.spelling.Sign.{Sign}
use Rattle.tx_hyphen.specs.declared.spelling.Sign.TheVariants.{Level, Letter}

-- a character is a letter, and is kept as its \lccode, unless that is 0 (TeX: The Program, parts 42 and 43)
abbrev pub letter_sign : List ℕ → ℕ → Option Sign
letter_sign lower character =
    if slice_index lower character == 0 then None else Some (Letter (slice_index lower character))

-- in a pattern a digit is a level, unless it stands behind another one; `.` (46) is the edge of a word, kept as 0
abbrev pub pattern_sign : List ℕ → Bool → ℕ → Option Sign
pattern_sign lower after_level character =
    if is_ascii_digit character && not after_level then Some (Level (character - 48))
    else if character == 46 then Some (Letter 0) else letter_sign lower character

-- in an exception `-` (45) permits a division, as level 1 does
abbrev pub exception_sign : List ℕ → ℕ → Option Sign
exception_sign lower character = if character == 45 then Some (Level 1) else letter_sign lower character

-- what a character of either text says, and None where it may not stand there
abbrev pub sign : Kind → List ℕ → Bool → ℕ → Option Sign
sign Pattern lower after_level character = pattern_sign lower after_level character
sign Exception lower after_level character = exception_sign lower character
