-- What stands between two breaks, as a part of the list of nodes.
use Rattle.std.proofs.Common.{◌≡◌, ℕ, ◌-◌, min, Bool, List, Option, length, drop, take, sym, ap, ◌∙◌}
use Rattle.std.specs.Prelude.{filter, slice_range}
use Rattle.std.proofs.lemmas.List.{drop-map, length-map, take-map}
use Rattle.tx_linebreak.specs.declared.piece.Piece.{Piece}
use Rattle.tx_linebreak.specs.Lines.{first_place}
use Rattle.tx_node.specs.declared.node.Node.{Node}
use Rattle.tx_node.specs.Nodes.{item_of, list_of}
use Rattle.tx_par.specs.LineLists.{between, stays}
use Rattle.tx_par.proofs.Firsts.{part-held}

-- the items of a part of a list of nodes
pub listed-part : (nodes : List Node) (begin end : ℕ) → list_of (slice_range nodes begin end) ≡ slice_range (list_of nodes) begin end
listed-part nodes begin end =
    sym (take-map item_of (end - begin) (drop begin nodes)) ∙ ap (take (end - begin)) (sym (drop-map item_of begin nodes))

-- what stands between two breaks, where its places are held within the list
pub between-held : (first_pass : Bool) (nodes : List Node) (pieces : List Piece) (from : Option ℕ) (place begin end : ℕ) → end ≡ min place (length nodes) → begin ≡ min (first_place pieces from) end
    → filter (stays first_pass) (list_of (slice_range nodes begin end)) ≡ between first_pass (list_of nodes) pieces from place
between-held first_pass nodes pieces from place begin end end_is begin_is =
    let held : end ≡ min place (length (list_of nodes)) = end_is ∙ ap (λ (n : ℕ). min place n) (sym (length-map nodes item_of)) in
    let all : begin ≡ min (first_place pieces from) (min place (length (list_of nodes))) = begin_is ∙ ap (λ (n : ℕ). min (first_place pieces from) n) held in
    ap (filter (stays first_pass))
    (listed-part nodes begin end ∙ (λ i. slice_range (list_of nodes) (all i) (held i)) ∙ part-held (list_of nodes) (first_place pieces from) place)
