-- What \patterns and \hyphenation have said.
use Rattle.std.specs.Prelude.{◌==◌, if◌then◌else◌, List, [], ◌∷◌, ◌++◌, length, Option, None, Some, is_some, Result, Ok, Err, nat_le}
use Rattle.tx_hyphen.specs.declared.error.ExceptionError.{ExceptionError}
use Rattle.tx_hyphen.specs.declared.error.ExceptionError.TheVariants as exceptions
use Rattle.tx_hyphen.specs.declared.error.PatternError.{PatternError}
use Rattle.tx_hyphen.specs.declared.error.PatternError.TheVariants as patterns
use Rattle.tx_hyphen.specs.declared.spelling.Spelling.{Spelling}
use Rattle.tx_hyphen.specs.Lexicon.{place_of, put}

-- patterns, no two of which have the same letters; and exceptions, the same
pub record Rules : Type 0 where
  pub patterns : List Spelling
  pub exceptions : List Spelling

-- the rules with one more pattern, given what its text spells: refused if that is nothing, or if a pattern with its
-- letters is there; passed over if it has no letters (TeX: The Program, 961 to 963)
abbrev pub with_pattern : Rules → Option Spelling → Result Rules PatternError
with_pattern rules None = Err patterns.NotALetter
with_pattern rules (Some pattern) =
    if length pattern.letters == 0 then Ok rules
    else if is_some (place_of rules.patterns pattern.letters) then Err patterns.Duplicate
    else Ok (record rules { patterns = rules.patterns ++ pattern ∷ [] })

-- the rules with one more exception, given what its text spells: refused if that is nothing, passed over if the word has
-- less than two letters; it takes the place of an earlier one for the word (TeX: The Program, 935 to 940)
abbrev pub with_exception : Rules → Option Spelling → Result Rules ExceptionError
with_exception rules None = Err exceptions.NotALetter
with_exception rules (Some word) =
    if nat_le (length word.letters) 1 then Ok rules
    else Ok (record rules { exceptions = put rules.exceptions word })
