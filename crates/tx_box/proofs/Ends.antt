-- The item with which a list ends gets a text of \discretionary.
use Rattle.std.proofs.Common.{◌≡◌, ◌∙◌, ◌-◌, ◌++◌, ◌∷◌, [], List, length, refl, ap, arith}
use Rattle.std.specs.Prelude.{slice_get, None, Some}
use Rattle.std.proofs.lemmas.List.{length-append}
use Rattle.tx_node.specs.Items.{Item}
use Rattle.tx_nest.specs.Changed.{with_nodes}
use Rattle.tx_nest.specs.Lasts.{last_of, shortened}
use Rattle.tx_nest.specs.declared.list.ModeList.{ModeList}
use Rattle.tx_nest.proofs.Lists.{shortened_more}
use Rattle.tx_prim.specs.declared.family.BreakText.{BreakText}
use Rattle.tx_box.specs.Breaks.{texted, texted_by}

at_end : (rest : List Item) (item : Item) → slice_get (rest ++ item ∷ []) (length rest) ≡ Some item
at_end [] item = refl
at_end (first ∷ rest) item = at_end rest item

one_less : (rest : List Item) (item : Item) → length (rest ++ item ∷ []) - 1 ≡ length rest
one_less rest item = omega (arith, length-append rest (item ∷ []))

last_more : (rest : List Item) (item : Item) → last_of (rest ++ item ∷ []) ≡ Some item
last_more rest item = ap (λ n. slice_get (rest ++ item ∷ []) n) (one_less rest item) ∙ at_end rest item

-- what comes of it is a matter of that item and of the list without it
pub texted_more : (text : BreakText) (items : List Item) (list : ModeList) (rest : List Item) (item : Item)
    → list.nodes ≡ rest ++ item ∷ [] → texted text items list ≡ texted_by text items (with_nodes list rest) (Some item)
texted_more text items list rest item ends =
    ap (λ nodes. texted_by text items (with_nodes list (shortened nodes)) (last_of nodes)) ends
    ∙ ap (λ nodes. texted_by text items (with_nodes list nodes) (last_of (rest ++ item ∷ []))) (shortened_more rest item)
    ∙ ap (λ last. texted_by text items (with_nodes list rest) last) (last_more rest item)

-- in an empty list it finds none
pub texted_none : (text : BreakText) (items : List Item) (list : ModeList) → list.nodes ≡ [] → texted text items list ≡ None
texted_none text items list empty = ap (λ nodes. texted_by text items (with_nodes list (shortened nodes)) (last_of nodes)) empty
