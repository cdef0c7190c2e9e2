-- Each error is the first of all that has its number, but for the one that has the number of the one before.
use Rattle.std.proofs.Common.{◌≡◌, ℕ, List, [], ◌∷◌, Some, IfSome, cond, true, false, refl, ◌⊎◌, inl, inr, eqb}
use Rattle.std.proofs.lemmas.Bool.{eqb-true}
use Rattle.tx_seen.specs.declared.error.TexError.{TexError}
use Rattle.tx_seen.specs.declared.error.TexError.TheVariants.{InvalidCharacter, Undefined, MissingNumber, MissingUnit, NumberOutOfRange, DimensionTooLarge, IntegerTooLarge, SizeOutOfRange, ArithmeticOverflow, ErrorMessage, NoAssignment, ExtraGroupEnd, UseDiffers, ParagraphInArgument, GroupEndInArgument, ExtraConditionalWord, IncompleteConditional, IncompleteText, MissingBeginGroup, MissingName, FileAbsent, BadFont, BadParameter, BadName, NotAllowed, TooDeep, TooManyGroups, OccupiedPageBox, UnbalancedOutput, TooManyDeadCycles, InfiniteShrink, BadFormula, MisplacedAlignment, BadHyphenation, MissingBox, BadMagnification, NoEnd, MissingDelimiter}
use Rattle.tx_seen.specs.Errors.{all, number_of, numbered}

pub found : (e : TexError) → (numbered all (number_of e) ≡ Some e) ⊎ (e ≡ ArithmeticOverflow)
unfolding all
found InvalidCharacter = inl refl
found Undefined = inl refl
found MissingNumber = inl refl
found MissingUnit = inl refl
found NumberOutOfRange = inl refl
found DimensionTooLarge = inl refl
found IntegerTooLarge = inl refl
found SizeOutOfRange = inl refl
found ArithmeticOverflow = inr refl
found ErrorMessage = inl refl
found NoAssignment = inl refl
found ExtraGroupEnd = inl refl
found UseDiffers = inl refl
found ParagraphInArgument = inl refl
found GroupEndInArgument = inl refl
found ExtraConditionalWord = inl refl
found IncompleteConditional = inl refl
found IncompleteText = inl refl
found MissingBeginGroup = inl refl
found MissingName = inl refl
found FileAbsent = inl refl
found BadFont = inl refl
found BadParameter = inl refl
found BadName = inl refl
found NotAllowed = inl refl
found TooDeep = inl refl
found TooManyGroups = inl refl
found OccupiedPageBox = inl refl
found UnbalancedOutput = inl refl
found TooManyDeadCycles = inl refl
found InfiniteShrink = inl refl
found BadFormula = inl refl
found MisplacedAlignment = inl refl
found BadHyphenation = inl refl
found MissingBox = inl refl
found BadMagnification = inl refl
found NoEnd = inl refl
found MissingDelimiter = inl refl

-- what is found has the number
pub has-number : (errors : List TexError) (number : ℕ) → IfSome (numbered errors number) (λ e. number_of e ≡ number)
has-number [] number = tt
has-number (e ∷ errors) number =
    elim (eqb (number_of e) number) as (λ b. eqb (number_of e) number ≡ b → IfSome (cond b (Some e) (numbered errors number)) (λ q. number_of q ≡ number)) [
      | true ↦ λ is. eqb-true (number_of e) number is
      | false ↦ λ no. has-number errors number
    ] refl
