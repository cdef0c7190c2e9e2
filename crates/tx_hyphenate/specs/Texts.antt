-- The texts of \patterns and \hyphenation, one after the other (TeX: The Program, sections 935 and 961): the first that is refused
-- is the error.
use Rattle.std.specs.Prelude.{ℕ, List, [], ◌∷◌, Result, Ok, Err}
use Rattle.tx_hyphen.specs.declared.error.ExceptionError.{ExceptionError}
use Rattle.tx_hyphen.specs.declared.error.PatternError.{PatternError}
use Rattle.tx_hyphen.specs.declared.spelling.Kind.TheVariants.{Exception, Pattern}
use Rattle.tx_hyphen.specs.Rules.{Rules, with_exception, with_pattern}
use Rattle.tx_hyphen.specs.Spelling.{spelled}

abbrev pub and_then : {E : Type 0} → Result Rules E → (Rules → Result Rules E) → Result Rules E
and_then (Err e) more = Err e
and_then (Ok rules) more = more rules

-- the rules with the patterns that texts spell
abbrev pub with_patterns : List ℕ → Rules → List (List ℕ) → Result Rules PatternError
with_patterns lower rules [] = Ok rules
with_patterns lower rules (text ∷ texts) = and_then (with_pattern rules (spelled Pattern lower text)) (λ more. with_patterns lower more texts)

-- the rules with the exceptions that words spell
abbrev pub with_exceptions : List ℕ → Rules → List (List ℕ) → Result Rules ExceptionError
with_exceptions lower rules [] = Ok rules
with_exceptions lower rules (word ∷ words) = and_then (with_exception rules (spelled Exception lower word)) (λ more. with_exceptions lower more words)
