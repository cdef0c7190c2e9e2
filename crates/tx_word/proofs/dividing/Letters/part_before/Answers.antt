use Rattle.std.proofs.Common.{◌≡◌, ◌++◌, ◌∙◌, List, ℕ, false, map, sym, ap, subst}
use Rattle.std.specs.Prelude.{slice_range}
use Rattle.std.proofs.lemmas.Result.{IfOk-weaker}
use Rattle.tx_node.specs.Items.{Item}
use Rattle.tx_tfm.specs.Fonts.{font_at}
use Rattle.tx_word.specs.Composed.{composed_in}
use Rattle.tx_word.specs.Divisions.{hyphen_codes}
use Rattle.tx_word.specs.Words.{word_item}
use Rattle.tx_word.proofs.Divided.{AllIn, hyphened-there}
use Rattle.tx_word.proofs.dividing.Letters.part_before.Goals as goal

pub text_of-requires : goal.text_of-requires
text_of-requires c =
    let w = c.args.self.now in
    let hyphen = hyphen_codes w.fonts.now w.font w.hyphen in
    let codes : c.as_slice.result.now ≡ slice_range w.chars.now c.args.d.now.from c.args.d.now.place ++ hyphen =
    c.as_slice.ensures ∙ c.in_ok-push_hyphen.ensures ∙ ap (λ (l : List ℕ). l ++ hyphen) (c.in_ok-codes.ensures ∙ c.part.ensures) in
    subst (AllIn w.fonts.now w.font) (sym codes) (hyphened-there w.fonts.now w.font w.chars.now c.args.d.now.from c.args.d.now.place w.hyphen c.requires)

pub returns : goal.returns
returns c =
    let w = c.args.self.now in
    let hyphen = hyphen_codes w.fonts.now w.font w.hyphen in
    let codes : c.as_slice.result.now ≡ slice_range w.chars.now c.args.d.now.from c.args.d.now.place ++ hyphen =
    c.as_slice.ensures ∙ c.in_ok-push_hyphen.ensures ∙ ap (λ (l : List ℕ). l ++ hyphen) (c.in_ok-codes.ensures ∙ c.part.ensures) in
    IfOk-weaker c.text_of.result (λ (l : List Item). l ≡ map (word_item w.fonts.now w.font) (composed_in (font_at w.fonts.now w.font) c.as_slice.result.now c.counts-left.result false)) _
    (λ l e. e ∙ (λ i. map (word_item w.fonts.now w.font) (composed_in (font_at w.fonts.now w.font) (codes i) (c.counts-left.ensures i) false))) c.text_of.ensures
