-- The numbers of the errors, as a run prints them.
use Rattle.std.specs.Prelude.{ℕ, List, [], ◌∷◌, Option, None, Some, ◌==◌, if◌then◌else◌}
use Rattle.tx_seen.specs.declared.error.TexError.{TexError}
use Rattle.tx_seen.specs.declared.error.TexError.TheVariants.{InvalidCharacter, Undefined, MissingNumber, MissingUnit, NumberOutOfRange, DimensionTooLarge, IntegerTooLarge, SizeOutOfRange, ArithmeticOverflow, ErrorMessage, NoAssignment, ExtraGroupEnd, UseDiffers, ParagraphInArgument, GroupEndInArgument, ExtraConditionalWord, IncompleteConditional, IncompleteText, MissingBeginGroup, MissingName, FileAbsent, BadFont, BadParameter, BadName, NotAllowed, TooDeep, TooManyGroups, OccupiedPageBox, UnbalancedOutput, TooManyDeadCycles, InfiniteShrink, BadFormula, MisplacedAlignment, BadHyphenation, MissingBox, BadMagnification, NoEnd, MissingDelimiter}

abbrev pub number_of : TexError → ℕ
number_of InvalidCharacter = 1
number_of Undefined = 2
number_of MissingNumber = 3
number_of MissingUnit = 4
number_of NumberOutOfRange = 5
number_of DimensionTooLarge = 6
number_of IntegerTooLarge = 7
number_of SizeOutOfRange = 8
number_of ArithmeticOverflow = 8
number_of ErrorMessage = 9
number_of NoAssignment = 10
number_of ExtraGroupEnd = 11
number_of UseDiffers = 12
number_of ParagraphInArgument = 13
number_of GroupEndInArgument = 14
number_of ExtraConditionalWord = 15
number_of IncompleteConditional = 16
number_of IncompleteText = 17
number_of MissingBeginGroup = 18
number_of MissingName = 19
number_of FileAbsent = 20
number_of BadFont = 21
number_of BadParameter = 22
number_of BadName = 23
number_of NotAllowed = 24
number_of TooDeep = 25
number_of TooManyGroups = 26
number_of OccupiedPageBox = 27
number_of UnbalancedOutput = 28
number_of TooManyDeadCycles = 29
number_of InfiniteShrink = 30
number_of BadFormula = 31
number_of MisplacedAlignment = 32
number_of BadHyphenation = 33
number_of MissingBox = 34
number_of BadMagnification = 35
number_of NoEnd = 36
number_of MissingDelimiter = 39

-- all errors, in the order of their numbers
unfoldable pub all : List TexError
all = InvalidCharacter ∷ Undefined ∷ MissingNumber ∷ MissingUnit ∷ NumberOutOfRange ∷ DimensionTooLarge ∷ IntegerTooLarge ∷ SizeOutOfRange ∷ ArithmeticOverflow ∷ ErrorMessage ∷ NoAssignment ∷ ExtraGroupEnd ∷ UseDiffers ∷ ParagraphInArgument ∷ GroupEndInArgument ∷ ExtraConditionalWord ∷ IncompleteConditional ∷ IncompleteText ∷ MissingBeginGroup ∷ MissingName ∷ FileAbsent ∷ BadFont ∷ BadParameter ∷ BadName ∷ NotAllowed ∷ TooDeep ∷ TooManyGroups ∷ OccupiedPageBox ∷ UnbalancedOutput ∷ TooManyDeadCycles ∷ InfiniteShrink ∷ BadFormula ∷ MisplacedAlignment ∷ BadHyphenation ∷ MissingBox ∷ BadMagnification ∷ NoEnd ∷ MissingDelimiter ∷ []

-- the first error of a list that has a number
abbrev pub numbered : List TexError → ℕ → Option TexError
numbered [] number = None
numbered (error ∷ errors) number = if number_of error == number then Some error else numbered errors number
