use Rattle.std.proofs.Common.{◌∙◌, ◌++◌, map}
use Rattle.std.proofs.lemmas.Result.{on_ok_weaker}
use Rattle.tx_word.specs.Dividing.{parted_in}
use Rattle.tx_word.specs.Divisions.{divided, part_item}
use Rattle.tx_word.proofs.divide.append_with_hyphens.Goals as goal

pub returns : goal.returns
returns c =
    let w = c.args.word.now in
    let divisions = c.as_slice.ensures ∙ c.in_ok-divisions.ensures in
    on_ok_weaker c.append_parts.result
    (λ e. e ∙ (λ i. c.args.list.now ++ map (part_item w.fonts.now w.font) (divided (parted_in w) (divisions i) 0 (c.into_items.ensures i))))
    c.append_parts.ensures
