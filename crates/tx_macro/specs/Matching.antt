-- The use of a macro (The TeXbook, chapter 20; TeX: The Program, sections 389 to 399).
use Rattle.std.specs.Prelude.{◌≡◌, Bool, List, [], ◌∷◌, ◌++◌, ◌==◌, length, drop, if◌then◌else◌}
use Rattle.tx_char.specs.declared.tokens.Token.{Token}
use Rattle.tx_toklist.specs.Macros.{Definition}
use Rattle.tx_seen.specs.declared.error.TexError.{TexError}
use Rattle.tx_seen.specs.declared.error.TexError.TheVariants.{UseDiffers}
use Rattle.tx_macro.specs.Arguments.{Taken, Unfinished, Argument, Broken, argument, common}

-- the tokens behind a macro's name: they may go on to fit its parameter text; or they fit, with these arguments; or they
-- break off with the error of this number
pub data Use : Type 0 where
  Open : Use
  Fits : List (List Token) → Use
  Fails : TexError → Use

-- what comes of one argument: where it is taken, the others are read from the rest
abbrev pub behind : (List Token → List Token → Use) → Taken → Use
behind others Unfinished = Open
behind others (Broken error) = Fails error
behind others (Argument text rest) = others text rest

-- the arguments of the parameters with these delimiters, behind those that are taken
abbrev pub arguments : Bool → List (List Token) → List (List Token) → List Token → Use
arguments long taken [] tokens = Fits taken
arguments long taken (delimiter ∷ more) tokens =
    behind (λ text rest. arguments long (taken ++ text ∷ []) more rest) (argument long delimiter tokens)

-- the whole: first come exactly the tokens before the first parameter, else the use doesn't match its definition
abbrev pub use_of : Definition → List Token → Use
use_of m tokens =
    if common m.parameters.before tokens == length m.parameters.before then arguments m.long [] m.parameters.delimiters (drop (length m.parameters.before) tokens)
    else if common m.parameters.before tokens == length tokens then Open
    else Fails UseDiffers

-- what fits does so with more tokens behind it, and what fails does
abbrev pub ReadsOn : Use → Use → Type 0
ReadsOn Open longer = Unit {0}
ReadsOn (Fits taken) longer = longer ≡ Fits taken
ReadsOn (Fails error) longer = longer ≡ Fails error
