use Rattle.std.proofs.Common.{◌≡◌, ◌∙◌, rules, to_z, of_z, w64}
use Rattle.tx_box.specs.Effects.{told}
use Rattle.tx_box.proofs.Boxing.{replaced}
use Rattle.tx_box.proofs.Inserting.{sized-so}
use Rattle.tx_box.proofs.inserts.append_insertion.Goals as goal

pub returns : goal.returns
returns c table =
    let badness_is : to_z w64 (of_z w64 c.args.packed.badness) ≡ c.args.packed.badness = search rules in
    let size_is : to_z w64 (of_z w64 c.whole_size-size.result) ≡ c.whole_size-size.result = search rules in
    replaced c.append_sized.result (λ done. told done c.append_sized.new.lists table) _ _
    (sized-so c.args.class c.args.params c.args.lists.now table c.args.packed _ _ _ badness_is c.in_ok-into_nodes.ensures
    (size_is ∙ c.whole_size-size.ensures))
    (c.append_sized.ensures table)
