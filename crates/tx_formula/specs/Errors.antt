-- What ends a run in a formula (TeX: The Program, sections 723, 1184 and 1195).
use Rattle.tx_display.specs.declared.error.DisplayError.{DisplayError}
use Rattle.tx_display.specs.declared.error.DisplayError.TheVariants as display
use Rattle.tx_math.specs.declared.error.MathError.{MathError}
use Rattle.tx_math.specs.declared.error.MathError.TheVariants as math
use Rattle.tx_mlist.specs.declared.error.MlistError.{MlistError}
use Rattle.tx_mlist.specs.declared.error.MlistError.TheVariants as list
use Rattle.tx_seen.specs.declared.error.TexError.{TexError}
use Rattle.tx_seen.specs.declared.error.TexError.TheVariants.{BadFormula, SizeOutOfRange, TooDeep, TooManyGroups}
use Rattle.tx_formula.specs.declared.error.FormulaError.{FormulaError}
use Rattle.tx_formula.specs.declared.error.FormulaError.TheVariants.{Refused, OutOfMemory}

-- lists that nest too deep come of groups that do, of which there can't be so many
abbrev pub of_list : MlistError → FormulaError
of_list list.TooDeep = Refused TooManyGroups
of_list list.OutOfMemory = OutOfMemory

abbrev pub of_math : MathError → FormulaError
of_math math.SizeOutOfRange = Refused SizeOutOfRange
of_math math.TooDeep = Refused TooDeep
of_math math.NoFont = Refused BadFormula
of_math math.FewParameters = Refused BadFormula
of_math math.OutOfMemory = OutOfMemory

abbrev pub of_display : DisplayError → FormulaError
of_display display.SizeOutOfRange = Refused SizeOutOfRange
of_display display.TooDeep = Refused TooDeep
of_display display.OutOfMemory = OutOfMemory

-- the error that ends the run; no formula ends it by want of memory
abbrev pub error_of : FormulaError → TexError
error_of (Refused error) = error
error_of OutOfMemory = SizeOutOfRange

abbrev pub list_error : MlistError → TexError
list_error error = error_of (of_list error)

abbrev pub math_error : MathError → TexError
math_error error = error_of (of_math error)

abbrev pub display_error : DisplayError → TexError
display_error error = error_of (of_display error)
