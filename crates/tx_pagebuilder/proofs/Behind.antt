-- What is put behind a list, and what comes next.
use Rattle.std.proofs.Common.{◌≡◌, List, Result, Ok, Err, ap}
use Rattle.tx_node.specs.Items.{Item}
use Rattle.tx_pagebuilder.specs.declared.boxes.ClassBox.{ClassBox}
use Rattle.tx_pagebuilder.specs.declared.error.PageError.{PageError}
use Rattle.tx_pagebuilder.specs.Fired.{behind_items, behind_boxes}

abbrev list_or : {A : Type 0} → List A → Result (List A) PageError → List A
list_or other (Err e) = other
list_or other (Ok list) = list

pub items_next : (so_far made : List Item) (next : List Item → Result (List Item) PageError) (r : Result (List Item) PageError)
    → behind_items so_far Ok r ≡ Ok made → behind_items so_far next r ≡ next made
items_next so_far made next (Err e) is = absurd (cc)
items_next so_far made next (Ok items) is = ap (λ (q : Result (List Item) PageError). next (list_or so_far q)) is

pub boxes_next : (so_far made : List ClassBox) (next : List ClassBox → Result (List ClassBox) PageError) (r : Result (List ClassBox) PageError)
    → behind_boxes so_far Ok r ≡ Ok made → behind_boxes so_far next r ≡ next made
boxes_next so_far made next (Err e) is = absurd (cc)
boxes_next so_far made next (Ok boxes) is = ap (λ (q : Result (List ClassBox) PageError). next (list_or so_far q)) is
