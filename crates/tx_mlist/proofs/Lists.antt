-- Lists by their last items.
use Rattle.std.proofs.Common.{◌≡◌, ◌∙◌, ◌-◌, ◌++◌, ◌∷◌, [], List, length, Result, Ok, Err, OnOk, refl, ap, sym}
use Rattle.std.specs.Prelude.{slice_get, option_map}
use Rattle.std.proofs.lemmas.List.{length-map}
use Rattle.std.proofs.lemmas.Option.{slice_get-map}
use Rattle.tx_mlist.specs.declared.noad.Noad.{Noad}
use Rattle.tx_mlist.specs.Building.{with_last}
use Rattle.tx_mlist.specs.Items.{MathItem}
use Rattle.tx_mlist.specs.Noads.{math_of, mlist_of}

-- the last noad is the last item
pub last_is : (noads : List Noad) (list : List MathItem) → mlist_of noads ≡ list → option_map math_of (slice_get noads (length noads - 1)) ≡ slice_get list (length list - 1)
last_is noads list is =
    sym (slice_get-map math_of noads (length noads - 1))
    ∙ ap (λ n. slice_get (mlist_of noads) (n - 1)) (sym (length-map noads math_of))
    ∙ ap (λ l. slice_get l (length l - 1)) is

-- what becomes of the last item becomes of that which was put at the end
with_last_put : (change : MathItem → MathItem) (list : List MathItem) (item : MathItem) → with_last change (list ++ item ∷ []) ≡ list ++ change item ∷ []
with_last_put change [] item = refl
with_last_put change (a ∷ []) item = refl
with_last_put change (a ∷ b ∷ rest) item = ap (λ more. a ∷ more) (with_last_put change (b ∷ rest) item)

pub changed_last : (change : MathItem → MathItem) (whole list : List MathItem) (item : MathItem) → whole ≡ list ++ item ∷ [] → with_last change whole ≡ list ++ change item ∷ []
changed_last change whole list item is = ap (with_last change) is ∙ with_last_put change list item

pub changed_none : (change : MathItem → MathItem) (whole : List MathItem) → whole ≡ [] → with_last change whole ≡ []
changed_none change whole is = ap (with_last change) is

-- the last item is taken away and put back changed
pub changed_put : {A E : Type 0} (change : MathItem → MathItem) (whole list new : List MathItem) (item made : MathItem) (answer : Result A E) → whole ≡ list ++ item ∷ [] → made ≡ change item → OnOk answer (new ≡ list ++ made ∷ []) → OnOk answer (new ≡ with_last change whole)
changed_put change whole list new item made (Ok value) is does put = put ∙ ap (λ (i : MathItem). list ++ i ∷ []) does ∙ sym (changed_last change whole list item is)
changed_put change whole list new item made (Err e) is does put = tt
