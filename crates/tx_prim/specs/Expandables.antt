-- The table of the expandable primitives (The TeXbook, chapter 20; TeX: The Program, sections 366, 468 and 487).
use Rattle.std.specs.Prelude.{ℕ, List, [], ◌∷◌, Option, None, Some, codes, cond, bytes_eq}
use Rattle.tx_prim.specs.declared.expandable.Expandable.{Expandable}
use Rattle.tx_prim.specs.declared.expandable.Expandable.TheVariants.{ExpandAfter, NoExpand, CsName, Convert, The, Input, EndInput, Test, Word, Mark}
use Rattle.tx_prim.specs.declared.expandable.Conversion.TheVariants as converts
use Rattle.tx_prim.specs.declared.expandable.Test.TheVariants as tests
use Rattle.tx_prim.specs.declared.expandable.BoxTest.TheVariants as box
use Rattle.tx_prim.specs.declared.expandable.CondWord.TheVariants as word
use Rattle.tx_prim.specs.declared.expandable.MarkKind.TheVariants as mark
use Rattle.tx_prim.specs.declared.modes.ModeTest.TheVariants as mode

-- what an expandable primitive is called
unfoldable pub name_of : Expandable → List ℕ
name_of ExpandAfter = codes "expandafter"
name_of NoExpand = codes "noexpand"
name_of CsName = codes "csname"
name_of (Convert converts.Token) = codes "string"
name_of (Convert converts.Number) = codes "number"
name_of (Convert converts.RomanNumeral) = codes "romannumeral"
name_of (Convert converts.Meaning) = codes "meaning"
name_of (Convert converts.JobName) = codes "jobname"
name_of (Convert converts.FontName) = codes "fontname"
name_of The = codes "the"
name_of Input = codes "input"
name_of EndInput = codes "endinput"
name_of (Test tests.Character) = codes "if"
name_of (Test tests.Category) = codes "ifcat"
name_of (Test tests.Number) = codes "ifnum"
name_of (Test tests.Dimension) = codes "ifdim"
name_of (Test tests.Odd) = codes "ifodd"
name_of (Test (tests.Mode mode.Vertical)) = codes "ifvmode"
name_of (Test (tests.Mode mode.Horizontal)) = codes "ifhmode"
name_of (Test (tests.Mode mode.Math)) = codes "ifmmode"
name_of (Test (tests.Mode mode.Inner)) = codes "ifinner"
name_of (Test (tests.Box box.Void)) = codes "ifvoid"
name_of (Test (tests.Box box.Horizontal)) = codes "ifhbox"
name_of (Test (tests.Box box.Vertical)) = codes "ifvbox"
name_of (Test tests.Same) = codes "ifx"
name_of (Test tests.True) = codes "iftrue"
name_of (Test tests.False) = codes "iffalse"
name_of (Test tests.Case) = codes "ifcase"
name_of (Word word.Else) = codes "else"
name_of (Word word.Or) = codes "or"
name_of (Word word.Fi) = codes "fi"
name_of (Mark mark.Top) = codes "topmark"
name_of (Mark mark.First) = codes "firstmark"
name_of (Mark mark.Bottom) = codes "botmark"
name_of (Mark mark.SplitFirst) = codes "splitfirstmark"
name_of (Mark mark.SplitBottom) = codes "splitbotmark"

-- all expandable primitives
unfoldable pub all : List Expandable
all = ExpandAfter ∷ NoExpand ∷ CsName ∷ Convert converts.Token ∷ Convert converts.Number ∷ Convert converts.RomanNumeral ∷ Convert converts.Meaning ∷ Convert converts.JobName ∷ Convert converts.FontName ∷ The ∷ Input ∷ EndInput ∷ Test tests.Character ∷ Test tests.Category ∷ Test tests.Number ∷ Test tests.Dimension ∷ Test tests.Odd ∷ Test (tests.Mode mode.Vertical) ∷ Test (tests.Mode mode.Horizontal) ∷ Test (tests.Mode mode.Math) ∷ Test (tests.Mode mode.Inner) ∷ Test (tests.Box box.Void) ∷ Test (tests.Box box.Horizontal) ∷ Test (tests.Box box.Vertical) ∷ Test tests.Same ∷ Test tests.True ∷ Test tests.False ∷ Test tests.Case ∷ Word word.Else ∷ Word word.Or ∷ Word word.Fi ∷ Mark mark.Top ∷ Mark mark.First ∷ Mark mark.Bottom ∷ Mark mark.SplitFirst ∷ Mark mark.SplitBottom ∷ []

-- the first one of a list that has a name
abbrev pub named : List Expandable → List ℕ → Option Expandable
named [] name = None
named (e ∷ more) name = cond (bytes_eq (name_of e) name) (Some e) (named more name)
