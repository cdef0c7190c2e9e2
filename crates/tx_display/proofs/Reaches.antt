-- The last item that shows is found item by item.
use Rattle.std.proofs.Common.{◌≡◌, ◌+◌, ◌∙◌, ℕ, zero, suc, Bool, true, false, List, [], ◌∷◌, refl, arith}
use Rattle.std.specs.Prelude.{if◌then◌else◌}
use Rattle.tx_node.specs.Items.{Item}
use Rattle.tx_display.specs.Edges.{reach, shows, up_to}
use Rattle.tx_display.specs.Reaching.{further, reach_from}

-- with one item more what reaches further than the items so far reaches as far as before, or up to that item
one-more : (at found : ℕ) (shown : Bool) (n : ℕ) → further (at + 1) (if shown then at + 1 else found) n ≡ further at found (up_to shown n)
one-more at found true zero = omega arith
one-more at found false zero = refl
one-more at found true (suc n) = omega arith
one-more at found false (suc n) = omega arith

reaches-from : (at found : ℕ) (list : List Item) → reach_from at found list ≡ further at found (reach list)
reaches-from at found [] = refl
reaches-from at found (item ∷ rest) =
    reaches-from (at + 1) (if shows item then at + 1 else found) rest ∙ one-more at found (shows item) (reach rest)

all : (n : ℕ) → further 0 0 n ≡ n
all zero = refl
all (suc n) = omega arith

-- from the first item on
pub reaches : (list : List Item) → reach_from 0 0 list ≡ reach list
reaches list = reaches-from 0 0 list ∙ all (reach list)
