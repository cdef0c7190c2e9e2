-- The kinds of commands of formulas, as noads tell them (TeX: The Program, sections 682, 688 and 1156).
use Rattle.std.specs.Prelude.{ℕ, ℤ, pos, Option, Some, None}
use Rattle.tx_prim.specs.declared.family.AtomClass.{AtomClass}
use Rattle.tx_prim.specs.declared.family.AtomClass.TheVariants as class
use Rattle.tx_prim.specs.declared.family.AtomPart.{AtomPart}
use Rattle.tx_prim.specs.declared.family.AtomPart.TheVariants as part
use Rattle.tx_prim.specs.declared.family.FractionKind.{FractionKind}
use Rattle.tx_prim.specs.declared.family.FractionKind.TheVariants as divided
use Rattle.tx_prim.specs.declared.family.LimitsKind.{LimitsKind}
use Rattle.tx_prim.specs.declared.family.LimitsKind.TheVariants as limits
use Rattle.tx_prim.specs.declared.family.MathStyle.{MathStyle}
use Rattle.tx_prim.specs.declared.family.MathStyle.TheVariants as style
use Rattle.tx_mlist.specs.declared.kinds.AtomKind.{AtomKind}
use Rattle.tx_mlist.specs.declared.kinds.AtomKind.TheVariants as atom
use Rattle.tx_mlist.specs.declared.kinds.Limits.{Limits}
use Rattle.tx_mlist.specs.declared.kinds.Limits.TheVariants.{Displayed, Always, Never}
use Rattle.tx_mlist.specs.declared.kinds.Place.{Place}
use Rattle.tx_mlist.specs.declared.kinds.Place.TheVariants as place

-- the kind of an atom that \mathord or its kin begins; the limits of \mathop stand as the style says
abbrev pub kind_from : AtomClass → AtomKind
kind_from class.Ord = atom.Ord
kind_from class.Op = atom.Op Displayed
kind_from class.Bin = atom.Bin
kind_from class.Rel = atom.Rel
kind_from class.Open = atom.Open
kind_from class.Close = atom.Close
kind_from class.Punct = atom.Punct
kind_from class.Inner = atom.Inner
kind_from class.Under = atom.Under
kind_from class.Over = atom.Over

abbrev pub place_of : AtomPart → Place
place_of part.Nucleus = place.Nucleus
place_of part.Superscript = place.Superscript
place_of part.Subscript = place.Subscript

abbrev pub limits_of : LimitsKind → Limits
limits_of limits.Always = Always
limits_of limits.Never = Never
limits_of limits.Displayed = Displayed

-- the number of a style
abbrev pub style_of : MathStyle → ℕ
style_of style.Display = 0
style_of style.Text = 2
style_of style.Script = 4
style_of style.ScriptScript = 6

-- how thick the line of a fraction is: \over leaves that to the fonts
abbrev pub thickness_of : FractionKind → Option ℤ
thickness_of divided.Over = None
thickness_of divided.Atop = Some (pos 0)
