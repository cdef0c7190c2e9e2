-- The items of a run and their characters.
use Rattle.std.proofs.Common.{◌≡◌, ◌∙◌, ℕ, zero, suc, ◌≤◌, Option, List, [], ◌∷◌, ◌++◌, length, take, drop, arith, length-append, ap, sym}
use Rattle.std.proofs.lemmas.List.{append_assoc, drop-map, take-map, take-take}
use Rattle.std.specs.List.{flat_map}
use Rattle.tx_node.specs.declared.node.Node.{Node}
use Rattle.tx_node.specs.Items.{Item}
use Rattle.tx_node.specs.Nodes.{item_of, list_of}
use Rattle.tx_tfm.specs.declared.state.FontState.{FontState}
use Rattle.tx_word.specs.Points.{hyphen_lacking}
use Rattle.tx_hyphenate.specs.declared.made.Made.{Made}
use Rattle.tx_hyphenate.specs.Hyphenated.{joined, put_between, told}
use Rattle.tx_hyphenate.specs.Lacking.{division_report, lacking_report}
use Rattle.tx_hyphenate.specs.Letters.{codes_of}

-- fewer items have no more characters
pub fewer : (items : List Item) (some more : ℕ) → some ≤ more → length (flat_map codes_of (take some items)) ≤ length (flat_map codes_of (take more items))
fewer [] zero more le = omega arith
fewer [] (suc some) more le = omega arith
fewer (item ∷ items) zero more le = omega arith
fewer (item ∷ items) (suc some) zero le = absurd (omega (arith, le))
fewer (item ∷ items) (suc some) (suc more) le =
    omega (arith, length-append (codes_of item) (flat_map codes_of (take some items)), length-append (codes_of item) (flat_map codes_of (take more items)), fewer items some more (omega (arith, le)))

-- the items of nodes between two places are those between them
pub between : (nodes : List Node) (start count : ℕ) → list_of (take count (drop start nodes)) ≡ take count (drop start (list_of nodes))
between nodes start count = sym (take-map item_of count (drop start nodes)) ∙ ap (take count) (sym (drop-map item_of start nodes))

-- a run between two places that is put into a list anew, with what stands before and behind it
pub put-anew : (items : List Item) (nodes first behind : List Node) (old two run : Made) (one made : List Item) (start end : ℕ)
    → list_of nodes ≡ items → start ≤ end → first ≡ take start (take end nodes) → behind ≡ drop end nodes
    → one ≡ old.items ++ list_of first → two ≡ joined (record old { items = one }) run → made ≡ two.items ++ list_of behind
    → record two { items = made } ≡ joined old (put_between start end items run)
put-anew items nodes first behind old two run one made start end is le first_is behind_is one_is two_is made_is =
    let before : list_of first ≡ take start items = ap list_of (first_is ∙ take-take start end nodes le) ∙ sym (take-map item_of start nodes) ∙ ap (take start) is in
    let rest : list_of behind ≡ drop end items = ap list_of behind_is ∙ sym (drop-map item_of end nodes) ∙ ap (drop end) is in
    let all : made ≡ old.items ++ ((take start items ++ run.items) ++ drop end items) =
    made_is
    ∙ ap (λ (t : List Item). t ++ list_of behind) (ap (λ (m : Made). m.items) two_is ∙ ap (λ (o : List Item). o ++ run.items) one_is)
    ∙ ap (λ (t : List Item). t ++ list_of behind) (append_assoc old.items (list_of first) run.items)
    ∙ append_assoc old.items (list_of first ++ run.items) (list_of behind)
    ∙ (λ i. old.items ++ ((before i ++ run.items) ++ rest i)) in
    λ i. record { items = all i; report = (two_is i).report }

-- a run with what is told of its hyphens
pub put-told : (fonts : List FontState) (font : ℕ) (old : Made) (list nodes divided : List Item) (report : List ℕ) (made : List Item) (lacking : Option ℕ)
    → list ≡ divided → nodes ≡ list → lacking ≡ hyphen_lacking fonts font → report ≡ old.report ++ flat_map (division_report (lacking_report fonts font lacking)) nodes → made ≡ old.items ++ list
    → record { items = made; report = report } ≡ joined old (told fonts font divided)
put-told fonts font old list nodes divided report made lacking list_is nodes_is lacking_is report_is made_is =
    let run : nodes ≡ divided = nodes_is ∙ list_is in
    λ i. record {
      items = (made_is ∙ ap (λ (l : List Item). old.items ++ l) list_is) i;
      report = (report_is ∙ (λ j. old.report ++ flat_map (division_report (lacking_report fonts font (lacking_is j))) (run j))) i;
    }
