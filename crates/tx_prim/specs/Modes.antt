-- What becomes of a command in a mode, and what a conditional tests of a mode.
use Rattle.std.specs.Prelude.{Bool, true, false}
use Rattle.tx_prim.specs.declared.modes.Mode.{Mode}
use Rattle.tx_prim.specs.declared.modes.Mode.TheVariants.{Vertical, InternalVertical, Horizontal, RestrictedHorizontal, Math, DisplayMath}
use Rattle.tx_prim.specs.declared.modes.ModeTest.{ModeTest}
use Rattle.tx_prim.specs.declared.modes.ModeTest.TheVariants as tests
use Rattle.tx_prim.specs.declared.modes.Modes.{Modes}
use Rattle.tx_prim.specs.declared.modes.Modes.TheVariants.{All, NotMath, NotVertical, InVertical, OnlyVertical, OutsideVertical, OnlyHorizontal, InHorizontal, Pages, Math as Math_only, Nowhere}
use Rattle.tx_prim.specs.declared.modes.Standing.{Standing}
use Rattle.tx_prim.specs.declared.modes.Standing.TheVariants.{Stands, BeginsParagraph, EndsParagraph, EndsRun, Refused}

-- a command of all modes stands in each; \par isn't for formulas; \vrule begins a paragraph in vertical modes, as \accent does, which
-- isn't for formulas; \hrule stands in those and ends a paragraph; \moveleft stands in vertical modes alone, \raise in all others,
-- \spacefactor in horizontal modes alone; \end ends the run on the pages' list, once all is put out, and ends a paragraph, but may
-- stand in no box and no formula; a subscript stands in formulas alone, and a parameter character in no mode (TeX: The Program,
-- sections 1045 to 1056, 1071, 1090 to 1096)
abbrev pub standing : Modes → Mode → Standing
standing All mode = Stands
standing NotMath Math = Refused
standing NotMath DisplayMath = Refused
standing NotMath mode = Stands
standing NotVertical Vertical = BeginsParagraph
standing NotVertical InternalVertical = BeginsParagraph
standing NotVertical mode = Stands
standing InHorizontal Vertical = BeginsParagraph
standing InHorizontal InternalVertical = BeginsParagraph
standing InHorizontal Math = Refused
standing InHorizontal DisplayMath = Refused
standing InHorizontal mode = Stands
standing InVertical Vertical = Stands
standing InVertical InternalVertical = Stands
standing InVertical Horizontal = EndsParagraph
standing InVertical mode = Refused
standing OnlyVertical Vertical = Stands
standing OnlyVertical InternalVertical = Stands
standing OnlyVertical mode = Refused
standing OutsideVertical Vertical = Refused
standing OutsideVertical InternalVertical = Refused
standing OutsideVertical mode = Stands
standing OnlyHorizontal Horizontal = Stands
standing OnlyHorizontal RestrictedHorizontal = Stands
standing OnlyHorizontal mode = Refused
standing Pages Vertical = EndsRun
standing Pages Horizontal = EndsParagraph
standing Pages mode = Refused
standing Math_only Math = Stands
standing Math_only DisplayMath = Stands
standing Math_only mode = Refused
standing Nowhere mode = Refused

-- \ifvmode, \ifhmode and \ifmmode test the kind of a mode, and \ifinner whether it is that of a box's list or of a formula in a
-- text (The TeXbook, chapter 20)
abbrev pub holds : ModeTest → Mode → Bool
holds tests.Vertical Vertical = true
holds tests.Vertical InternalVertical = true
holds tests.Vertical mode = false
holds tests.Horizontal Horizontal = true
holds tests.Horizontal RestrictedHorizontal = true
holds tests.Horizontal mode = false
holds tests.Math Math = true
holds tests.Math DisplayMath = true
holds tests.Math mode = false
holds tests.Inner InternalVertical = true
holds tests.Inner RestrictedHorizontal = true
holds tests.Inner Math = true
holds tests.Inner mode = false
