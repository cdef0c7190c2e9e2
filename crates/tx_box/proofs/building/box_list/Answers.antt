use Rattle.std.proofs.Common.{◌≡◌, ◌∙◌, ap, rules, to_z, of_z, w64}
use Rattle.tx_box.specs.Building.{most_in}
use Rattle.tx_box.proofs.Boxing.{boxed_line, replaced}
use Rattle.tx_box.proofs.building.box_list.Goals as goal

pub returns : goal.returns
returns c =
    let most_is : to_z w64 (of_z w64 c.args.most) ≡ c.args.most = search rules in
    let deepest_is : to_z w64 (of_z w64 c.most_in-most.result) ≡ c.most_in-most.result = search rules in
    replaced c.follow.result _ _ _
    (boxed_line c.args.ended c.args.most c.args.lists.now c.args.table.now c.args.list c.innermost.result.now c.in_ok-own.field-0 _ _
    c.innermost.ensures c.in_ok-own.ensures (deepest_is ∙ c.most_in-most.ensures ∙ ap (most_in c.args.ended.target.context) most_is) c.in_ok-made.ensures)
    (c.follow.ensures c.box_own.new.table)
