-- A display in the vertical list (TeX: The Program, sections 1199 to 1205; The TeXbook, chapter 19).
use Rattle.std.specs.Prelude.{ℕ, ℤ, List, Option, Result, Ok, Err, if◌then◌else◌}
use Rattle.tx_nest.specs.declared.list.ModeList.{ModeList}
use Rattle.tx_node.specs.Items.{Item}
use Rattle.tx_num.specs.Limits.{fits}
use Rattle.tx_pack.specs.declared.types.Goal.TheVariants.{Natural}
use Rattle.tx_pack.specs.declared.types.PackParams.{PackParams}
use Rattle.tx_pack.specs.Packing.{hpacked}
use Rattle.tx_prim.specs.declared.family.NumberSide.{NumberSide}
use Rattle.tx_display.specs.declared.arranged.Arranged.{Arranged}
use Rattle.tx_display.specs.declared.arranged.Stand.{Stand}
use Rattle.tx_display.specs.declared.error.DisplayError.{DisplayError}
use Rattle.tx_display.specs.declared.error.DisplayError.TheVariants.{SizeOutOfRange}
use Rattle.tx_display.specs.declared.fitted.Fitted.{Fitted}
use Rattle.tx_display.specs.declared.types.DisplayParams.{DisplayParams}
use Rattle.tx_display.specs.declared.types.EquationNumber.{EquationNumber}
use Rattle.tx_display.specs.Appending.{appended}
use Rattle.tx_display.specs.Arranging.{arranged, stand_of}
use Rattle.tx_display.specs.Errors.{packed, passed}
use Rattle.tx_display.specs.Fitting.{fitting, is_left, number_width}

-- the number of an equation: the list of its formula in a box of its natural size; \overfullrule is a dimension, whatever is assigned
unfoldable pub number_of : NumberSide → PackParams → List Item → Result EquationNumber DisplayError
number_of side params list =
    if fits params.overfull_rule
    then passed (packed (hpacked list Natural params)) (λ made. Ok (record { side = side; packed = made.node }))
    else Err SizeOutOfRange

-- the list behind the display, how bad the box is that was packed last, and what the transcript gets of the formula's box
pub record Displayed : Type 0 where
  pub list : ModeList
  pub badness : ℤ
  pub report : List ℕ

-- the lines stand in the list, with what left the formula's box
unfoldable pub set_out : DisplayParams → List Item → List ℕ → ModeList → Arranged → Result Displayed DisplayError
set_out params behind report list a =
    passed (appended params a behind list) (λ put. Ok (record { list = put; badness = a.badness; report = report }))

-- of a formula and its number, if it has one
unfoldable pub stood : DisplayParams → Option EquationNumber → Stand → List Item → List ℕ → ModeList → Result Displayed DisplayError
stood params number s behind report list = passed (arranged params number s) (set_out params behind report list)

-- of a formula's box that fits its line
unfoldable pub placed : DisplayParams → Option EquationNumber → List Item → ModeList → Fitted → Result Displayed DisplayError
placed params number behind list f =
    stood params number (stand_of params (is_left number) f.beside f.made.node f.made.badness) behind f.made.report list

-- what stands in the formula's box, and what left it, with the number, at the end of a list
unfoldable pub displaying : DisplayParams → Option EquationNumber → List Item → List Item → ModeList → Result Displayed DisplayError
displaying params number own behind list = passed (fitting params (number_width number) own) (placed params number behind list)

unfoldable pub displayed : DisplayParams → Option EquationNumber → List Item → List Item → ModeList → Result Displayed DisplayError
displayed params number own behind list =
    if fits params.packing.overfull_rule then displaying params number own behind list else Err SizeOutOfRange
