-- A list that nothing leaves is all in its box.
use Rattle.std.proofs.Common.{◌≡◌, ◌∙◌, ◌++◌, ◌∷◌, [], List, false, sym, ap}
use Rattle.std.proofs.lemmas.Bool.{true≢false}
use Rattle.std.proofs.lemmas.List.{append-nil, append_assoc}
use Rattle.tx_node.specs.declared.plain.Shared.TheVariants.{Rule, Leaders, Special, Ligature, Mark}
use Rattle.tx_node.specs.Items.{Item, plain, shared, boxed, discretionary, adjustment, insertion, box_leaders}
use Rattle.tx_par.specs.declared.line.Line.{Line}
use Rattle.tx_par.specs.LineLists.{line_of, with_items}
use Rattle.tx_box.specs.Leaving.{any_leaves_box}

abbrev all_in : List Item → Line
all_in own = record { own = own; behind = [] }

regrouped : (own : List Item) (item : Item) (rest : List Item) → all_in ((own ++ item ∷ []) ++ rest) ≡ all_in (own ++ item ∷ rest)
regrouped own item rest = ap all_in (append_assoc own (item ∷ []) rest)

stays_behind : (own list : List Item) → any_leaves_box list ≡ false → with_items (all_in own) list ≡ all_in (own ++ list)
stays_behind own [] h = ap all_in (sym (append-nil own))
stays_behind own (plain p ∷ rest) h = stays_behind (own ++ plain p ∷ []) rest h ∙ regrouped own (plain p) rest
stays_behind own (shared (Rule r) ∷ rest) h = stays_behind (own ++ shared (Rule r) ∷ []) rest h ∙ regrouped own (shared (Rule r)) rest
stays_behind own (shared (Leaders l) ∷ rest) h = stays_behind (own ++ shared (Leaders l) ∷ []) rest h ∙ regrouped own (shared (Leaders l)) rest
stays_behind own (shared (Special text) ∷ rest) h = stays_behind (own ++ shared (Special text) ∷ []) rest h ∙ regrouped own (shared (Special text)) rest
stays_behind own (shared (Ligature l) ∷ rest) h = stays_behind (own ++ shared (Ligature l) ∷ []) rest h ∙ regrouped own (shared (Ligature l)) rest
stays_behind own (shared (Mark text) ∷ rest) h = absurd (true≢false h)
stays_behind own (boxed shift head inner ∷ rest) h = stays_behind (own ++ boxed shift head inner ∷ []) rest h ∙ regrouped own (boxed shift head inner) rest
stays_behind own (discretionary head before behind ∷ rest) h = stays_behind (own ++ discretionary head before behind ∷ []) rest h ∙ regrouped own (discretionary head before behind) rest
stays_behind own (adjustment inner ∷ rest) h = absurd (true≢false h)
stays_behind own (insertion head inner ∷ rest) h = absurd (true≢false h)
stays_behind own (box_leaders head repeated inner ∷ rest) h = stays_behind (own ++ box_leaders head repeated inner ∷ []) rest h ∙ regrouped own (box_leaders head repeated inner) rest

pub all_stays : (list : List Item) → any_leaves_box list ≡ false → line_of list ≡ record { own = list; behind = [] }
all_stays list h = stays_behind [] list h
