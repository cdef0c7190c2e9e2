-- A list is parted at its glue from the front on as from the back.
use Rattle.std.proofs.Common.{◌≡◌, Bool, true, false, List, [], ◌∷◌, ◌++◌, length, refl, sym, ap, ◌∙◌, arith}
use Rattle.std.proofs.lemmas.List.{append-nil, append_assoc}
use Rattle.tx_node.specs.declared.node.Node.{Node}
use Rattle.tx_node.specs.Items.{Item}
use Rattle.tx_node.specs.Nodes.{list_of}
use Rattle.tx_hyphenate.specs.declared.made.Made.{Made}
use Rattle.tx_hyphenate.specs.Kinds.{is_formula_behind}
use Rattle.tx_hyphenate.specs.Hyphenated.{Parted, Ways, finished, joined, kept, parted_at_glue, parts, stretch_hyphenated, with_item}

-- what is made is joined in any order
pub joined-assoc : (one two three : Made) → joined (joined one two) three ≡ joined one (joined two three)
joined-assoc one two three =
    λ i. record { items = append_assoc one.items two.items three.items i; report = append_assoc one.report two.report three.report i }

-- nothing more is made of no items
pub joined-none : (made : Made) → joined made (kept []) ≡ made
joined-none made = λ i. record { items = append-nil made.items i; report = append-nil made.report i }

-- more items behind what is made
pub kept-more : (made : Made) (more items : List Item) → items ≡ made.items ++ more → record made { items = items } ≡ joined made (kept more)
kept-more made more items is = λ i. record { items = is i; report = sym (append-nil made.report) i }

-- an item that is no glue joins those before it
pub on-item : (w : Ways) (done : Made) (items : List Item) (behind formula : Bool) (item : Item) (parted : Parted) → parts formula item ≡ false
    → joined (joined done (finished w behind ((items ++ item ∷ []) ++ parted.first))) parted.rest
    ≡ joined (joined done (finished w behind (items ++ (with_item w formula item parted).first))) (with_item w formula item parted).rest
on-item w done items behind formula item parted plain =
    rw plain (ap (λ (stretch : List Item). joined (joined done (finished w behind stretch)) parted.rest) (append_assoc items (item ∷ []) parted.first))

-- behind glue begin the next ones
pub on-glue : (w : Ways) (done : Made) (items : List Item) (behind formula : Bool) (item : Item) (parted : Parted) → parts formula item ≡ true
    → joined (joined (joined (joined done (finished w behind items)) (kept (item ∷ []))) (finished w true ([] ++ parted.first))) parted.rest
    ≡ joined (joined done (finished w behind (items ++ (with_item w formula item parted).first))) (with_item w formula item parted).rest
on-glue w done items behind formula item parted glue =
    rw glue
    (joined-assoc (joined (joined done (finished w behind items)) (kept (item ∷ []))) (stretch_hyphenated w parted.first) parted.rest
    ∙ joined-assoc (joined done (finished w behind items)) (kept (item ∷ [])) (joined (stretch_hyphenated w parted.first) parted.rest)
    ∙ ap (λ (stretch : List Item). joined (joined done (finished w behind stretch)) (joined (kept (item ∷ [])) (joined (stretch_hyphenated w parted.first) parted.rest))) (sym (append-nil items)))

-- the same for what is made of the list, behind one more item
pub item-step : (w : Ways) (done : Made) (items more : List Item) (behind formula next : Bool) (item : Item) (rest : List Item) (all : Made) → parts formula item ≡ false → more ≡ items ++ item ∷ [] → next ≡ is_formula_behind formula item
    → joined (joined done (finished w behind (items ++ (parted_at_glue w formula (item ∷ rest)).first))) (parted_at_glue w formula (item ∷ rest)).rest ≡ all
    → joined (joined done (finished w behind (more ++ (parted_at_glue w next rest).first))) (parted_at_glue w next rest).rest ≡ all
unfolding parted_at_glue
item-step w done items more behind formula next item rest all plain more_is next_is before =
    (λ i. joined (joined done (finished w behind (more_is i ++ (parted_at_glue w (next_is i) rest).first))) (parted_at_glue w (next_is i) rest).rest)
    ∙ on-item w done items behind formula item (parted_at_glue w (is_formula_behind formula item) rest) plain
    ∙ before

pub glue-step : (w : Ways) (done finish : Made) (items further none : List Item) (behind formula next : Bool) (item : Item) (rest : List Item) (all : Made) → parts formula item ≡ true → none ≡ [] → next ≡ is_formula_behind formula item
    → finish ≡ joined done (finished w behind items) → further ≡ finish.items ++ item ∷ []
    → joined (joined done (finished w behind (items ++ (parted_at_glue w formula (item ∷ rest)).first))) (parted_at_glue w formula (item ∷ rest)).rest ≡ all
    → joined (joined (record finish { items = further }) (finished w true (none ++ (parted_at_glue w next rest).first))) (parted_at_glue w next rest).rest ≡ all
unfolding parted_at_glue
glue-step w done finish items further none behind formula next item rest all glue none_is next_is finish_is further_is before =
    let made : record finish { items = further } ≡ joined (joined done (finished w behind items)) (kept (item ∷ [])) =
    kept-more finish (item ∷ []) further further_is ∙ ap (λ (m : Made). joined m (kept (item ∷ []))) finish_is in
    (λ i. joined (joined (made i) (finished w true (none_is i ++ (parted_at_glue w (next_is i) rest).first))) (parted_at_glue w (next_is i) rest).rest)
    ∙ on-glue w done items behind formula item (parted_at_glue w (is_formula_behind formula item) rest) glue
    ∙ before

-- at the list's end no glue is left
pub last-step : (w : Ways) (done : Made) (items : List Item) (behind formula : Bool) (rest : List Item) (all : Made) → rest ≡ []
    → joined (joined done (finished w behind (items ++ (parted_at_glue w formula rest).first))) (parted_at_glue w formula rest).rest ≡ all
    → joined done (finished w behind items) ≡ all
unfolding parted_at_glue
last-step w done items behind formula rest all none before =
    ap (λ (these : List Item). joined done (finished w behind these)) (sym (append-nil items))
    ∙ sym (joined-none (joined done (finished w behind (items ++ []))))
    ∙ ap (λ (left : List Item). joined (joined done (finished w behind (items ++ (parted_at_glue w formula left).first))) (parted_at_glue w formula left).rest) (sym none)
    ∙ before

pub no-items : (nodes : List Node) → length nodes ≡ 0 → list_of nodes ≡ []
no-items [] none = refl
no-items (node ∷ nodes) none = absurd (omega (arith, none))
