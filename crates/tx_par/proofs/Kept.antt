-- Items that stay in a line.
use Rattle.std.proofs.Common.{◌≡◌, Bool, true, false, cond, List, [], ◌∷◌, fold, refl}
use Rattle.std.specs.Prelude.{filter}
use Rattle.tx_node.specs.Items.{Item}
use Rattle.tx_par.specs.declared.line.Line.{Line}
use Rattle.tx_par.specs.LineLists.{stays, with_item, with_items}
use Rattle.tx_par.specs.Adding.{with_kept}

kept-by : (first_pass : Bool) (item : Item) (rest : List Item) (line : Line) (b : Bool)
    → fold (with_kept first_pass) (with_item line item) rest ≡ with_items (with_item line item) (filter (stays first_pass) rest)
    → fold (with_kept first_pass) line rest ≡ with_items line (filter (stays first_pass) rest)
    → fold (with_kept first_pass) (cond b (with_item line item) line) rest ≡ with_items line (cond b (item ∷ filter (stays first_pass) rest) (filter (stays first_pass) rest))
kept-by first_pass item rest line true with_it without_it = with_it
kept-by first_pass item rest line false with_it without_it = without_it

pub kept : (first_pass : Bool) (items : List Item) (line : Line) → fold (with_kept first_pass) line items ≡ with_items line (filter (stays first_pass) items)
kept first_pass [] line = refl
kept first_pass (item ∷ rest) line =
    kept-by first_pass item rest line (stays first_pass item) (kept first_pass rest (with_item line item)) (kept first_pass rest line)
