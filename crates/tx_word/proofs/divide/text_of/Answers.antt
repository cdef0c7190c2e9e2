use Rattle.std.proofs.Common.{◌++◌, ◌∙◌, map, ap}
use Rattle.tx_word.specs.Words.{word_item}
use Rattle.tx_word.proofs.Made.{without_breaks}
use Rattle.tx_word.proofs.divide.text_of.Goals as goal

pub returns : goal.returns
returns c =
    c.in_ok-append_items.ensures
    ∙ (λ i. c.new-list.ensures i ++ without_breaks c.args.fonts.now c.args.font c.in_ok-items.items i)
    ∙ ap (map (word_item c.args.fonts.now c.args.font)) c.in_ok-items.ensures.value
