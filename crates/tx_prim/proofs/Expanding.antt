-- Each expandable primitive is the first of all that has its name.
use Rattle.std.proofs.Common.{◌≡◌, ℕ, List, [], ◌∷◌, Some, IfSome, cond, true, false, refl}
use Rattle.tx_prim.specs.declared.expandable.Expandable.{Expandable}
use Rattle.tx_prim.specs.declared.expandable.Expandable.TheVariants.{ExpandAfter, NoExpand, CsName, Convert, The, Input, EndInput, Test, Word, Mark}
use Rattle.tx_prim.specs.declared.expandable.Conversion.TheVariants as converts
use Rattle.tx_prim.specs.declared.expandable.Test.TheVariants as tests
use Rattle.tx_prim.specs.declared.expandable.BoxTest.TheVariants as box
use Rattle.tx_prim.specs.declared.expandable.CondWord.TheVariants as word
use Rattle.tx_prim.specs.declared.expandable.MarkKind.TheVariants as mark
use Rattle.tx_prim.specs.declared.modes.ModeTest.TheVariants as mode
use Rattle.std.specs.Str.{bytes_eq}
use Rattle.std.specs.Cmp.Lexicographic.{bytes_decides}
use Rattle.tx_prim.specs.Expandables.{all, name_of, named}

pub found : (e : Expandable) → named all (name_of e) ≡ Some e
unfolding all name_of
found ExpandAfter = refl
found NoExpand = refl
found CsName = refl
found (Convert converts.Token) = refl
found (Convert converts.Number) = refl
found (Convert converts.RomanNumeral) = refl
found (Convert converts.Meaning) = refl
found (Convert converts.JobName) = refl
found (Convert converts.FontName) = refl
found The = refl
found Input = refl
found EndInput = refl
found (Test tests.Character) = refl
found (Test tests.Category) = refl
found (Test tests.Number) = refl
found (Test tests.Dimension) = refl
found (Test tests.Odd) = refl
found (Test (tests.Mode mode.Vertical)) = refl
found (Test (tests.Mode mode.Horizontal)) = refl
found (Test (tests.Mode mode.Math)) = refl
found (Test (tests.Mode mode.Inner)) = refl
found (Test (tests.Box box.Void)) = refl
found (Test (tests.Box box.Horizontal)) = refl
found (Test (tests.Box box.Vertical)) = refl
found (Test tests.Same) = refl
found (Test tests.True) = refl
found (Test tests.False) = refl
found (Test tests.Case) = refl
found (Word word.Else) = refl
found (Word word.Or) = refl
found (Word word.Fi) = refl
found (Mark mark.Top) = refl
found (Mark mark.First) = refl
found (Mark mark.Bottom) = refl
found (Mark mark.SplitFirst) = refl
found (Mark mark.SplitBottom) = refl

-- what is found has the name
pub has-name : (expandables : List Expandable) (name : List ℕ) → IfSome (named expandables name) (λ e. name_of e ≡ name)
has-name [] name = tt
has-name (e ∷ more) name =
    elim (bytes_eq (name_of e) name) as (λ b. bytes_eq (name_of e) name ≡ b → IfSome (cond b (Some e) (named more name)) (λ q. name_of q ≡ name)) [
      | true ↦ λ same. (bytes_decides (name_of e) name).0 same
      | false ↦ λ same. has-name more name
    ] refl
