use Rattle.std.proofs.Common.{◌≡◌, ◌∙◌, List, false, map, sym, subst}
use Rattle.std.proofs.lemmas.Result.{IfOk-weaker}
use Rattle.tx_node.specs.Items.{Item}
use Rattle.tx_tfm.specs.Fonts.{font_at}
use Rattle.tx_word.specs.Composed.{composed_in}
use Rattle.tx_word.specs.Words.{word_item}
use Rattle.tx_word.proofs.Divided.{AllIn, part-there}
use Rattle.tx_word.proofs.dividing.Letters.part_behind.Goals as goal

pub text_of-requires : goal.text_of-requires
text_of-requires c =
    let w = c.args.self.now in
    subst (AllIn w.fonts.now w.font) (sym c.part-chars.ensures) (part-there w.fonts.now w.font w.chars.now c.args.d.now.place c.args.d.now.to c.requires)

pub returns : goal.returns
returns c =
    let w = c.args.self.now in
    IfOk-weaker c.text_of.result (λ (l : List Item). l ≡ map (word_item w.fonts.now w.font) (composed_in (font_at w.fonts.now w.font) c.part-chars.result.now false c.counts-right.result)) _
    (λ l e. e ∙ (λ i. map (word_item w.fonts.now w.font) (composed_in (font_at w.fonts.now w.font) (c.part-chars.ensures i) false (c.counts-right.ensures i)))) c.text_of.ensures
