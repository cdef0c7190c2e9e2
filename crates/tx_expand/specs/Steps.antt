-- A token joins the use of a macro.
use Rattle.std.specs.Prelude.{◌≡◌, Bool, true, false}
use Rattle.tx_char.specs.declared.tokens.Token.{Token}
use Rattle.tx_macro.specs.Matching as macro
use Rattle.tx_expand.specs.declared.step.Step.{Step}
use Rattle.tx_expand.specs.declared.step.Step.TheVariants as step
use Rattle.tx_expand.specs.Uses.{Use, comes_to, with_taken}

-- the answer says what the use comes to with this token
abbrev pub IsUsed : Use → Token → Step → Type 0
IsUsed u t (step.On new) = (comes_to (with_taken u t) ≡ macro.Open) × (new ≡ with_taken u t)
IsUsed u t (step.Fits made arguments) = (comes_to (with_taken u t) ≡ macro.Fits arguments) × (made ≡ u.definition)
IsUsed u t (step.Wrong error) = comes_to (with_taken u t) ≡ macro.Fails error

-- a token joins the use, which goes on; or nothing changes
abbrev pub HasJoined : Use → Token → Bool → Use → Type 0
HasJoined u t true new = (comes_to (with_taken u t) ≡ macro.Open) × (new ≡ with_taken u t)
HasJoined u t false new = new ≡ u
