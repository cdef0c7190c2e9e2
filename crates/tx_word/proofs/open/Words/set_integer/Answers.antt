use Rattle.std.proofs.Common.{ℤ, List, rules, w32, FitsSigned, to_z-of_z}
use Rattle.tx_tfm.specs.declared.state.FontState.{FontState}
use Rattle.tx_tfm.specs.Fonts.{with_font_integer}
use Rattle.tx_word.proofs.Opened.{open-integer, words-with}
use Rattle.tx_word.proofs.open.Words.set_integer.Goals as goal

pub invariant_of-self : goal.invariant_of-self
invariant_of-self c =
    open-integer c.set_font_integer.result c.self.inside.fonts.value c.set_font_integer.new.fonts.value c.self.inside.word c.args.kind c.args.number _ c.set_font_integer.ensures.ok c.set_font_integer.ensures.err c.self.invariant

pub returns : goal.returns
returns c =
    let fits : FitsSigned w32 c.args.value = search rules in
    words-with (λ (fonts : List FontState) (value : ℤ). with_font_integer c.args.kind fonts c.args.number value) c.set_font_integer.result c.args.self.now c.self.inside.fonts.value c.set_font_integer.new.fonts.value c.self.inside.word c.self.inside.accent _ c.args.value
    c.self.view_is (to_z-of_z fits) c.set_font_integer.ensures.ok
