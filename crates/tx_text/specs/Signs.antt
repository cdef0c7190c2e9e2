-- Parameter characters, told by what a token means (TeX: The Program, sections 474 and 477).
use Rattle.std.specs.Prelude.{ℕ, Option, Some, None}
use Rattle.tx_char.specs.declared.category.Cat.TheVariants.{Parameter}
use Rattle.tx_seen.specs.declared.meaning.Meaning.{Meaning}
use Rattle.tx_seen.specs.declared.meaning.Meaning.TheVariants.{Character}

-- the code of the character that stands for #, where a token is one, or a name that means one
abbrev pub sign_of : Meaning → Option ℕ
sign_of (Character code Parameter) = Some code
sign_of _ = None
