-- Lists of boxes, and shorter ones.
use Rattle.std.proofs.Common.{◌≡◌, ◌≤◌, pos, suc, Bool, true, false, ◌&&◌, List, [], ◌∷◌, ◌++◌, take, refl, sym, ap, arith, true≢false, subst}
use Rattle.tx_node.specs.declared.head.BoxHead.{BoxHead}
use Rattle.tx_node.specs.declared.head.Setting.{Setting}
use Rattle.tx_node.specs.declared.head.Setting.TheVariants.{Natural}
use Rattle.tx_node.specs.Counts.{nesting_of}
use Rattle.tx_node.specs.Items.{Item, items_of}
use Rattle.tx_node.specs.Nodes.{IsBox}
use Rattle.tx_node.specs.Setting.{IsSet, sums_fit}
use Rattle.tx_math.specs.Boxes.{is_corrected, list_from}

-- the items of a box are the list that it was made of
pub box_back : (list : List Item) → list_from (items_of list) ≡ list
box_back [] = refl
box_back (item ∷ rest) = ap (λ more. item ∷ more) (box_back rest)

both : (a b : Bool) → (a && b) ≡ true → (a ≡ true) × (b ≡ true)
both true b h = (refl, h)
both false b h = absurd (true≢false (sym h))

-- of glue that is left natural nothing is summed
pub natural_fits : (list : List Item) → sums_fit Natural (pos 0) (items_of list) ≡ true
natural_fits [] = refl
natural_fits (item ∷ rest) = natural_fits rest

-- a box whose list is a character and a kern may have the character alone
first_sums : (s : Setting) (a : Item) (rest : List Item) → sums_fit s (pos 0) (items_of (a ∷ rest)) ≡ true → sums_fit s (pos 0) (items_of (a ∷ [])) ≡ true
first_sums s a rest h = let parts = both _ _ h in λ i. parts.0 i && true

pub first_box : (head : BoxHead) (whole list : List Item) → list ≡ take 1 whole → is_corrected whole ≡ true
    → suc (nesting_of (items_of whole)) ≤ 500 → IsSet head.setting → sums_fit head.setting (pos 0) (items_of whole) ≡ true → IsBox head list
first_box head [] list is corrected deep is_set sums = absurd (true≢false (sym corrected))
first_box head (a ∷ rest) list is corrected deep is_set sums = subst (IsBox head) (sym is) (record {
  nesting = omega (arith, deep);
  is_set = is_set;
  sums = first_sums head.setting a rest sums;
})

-- a character and a kern without what is last are the character
pub shorter_is : (list : List Item) (item : Item) → is_corrected (list ++ item ∷ []) ≡ true → list ≡ take 1 (list ++ item ∷ [])
shorter_is [] item h = absurd (true≢false (sym h))
shorter_is (a ∷ []) item h = refl
shorter_is (a ∷ b ∷ []) item h = absurd (true≢false (sym h))
shorter_is (a ∷ b ∷ c ∷ rest) item h = absurd (true≢false (sym h))
