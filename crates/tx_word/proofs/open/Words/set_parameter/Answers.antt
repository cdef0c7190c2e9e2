use Rattle.std.proofs.Common.{ℤ, List, rules, w32, FitsSigned, to_z-of_z}
use Rattle.tx_tfm.specs.declared.state.FontState.{FontState}
use Rattle.tx_tfm.specs.Fonts.{with_font_parameter}
use Rattle.tx_word.proofs.Opened.{open-files, words-with}
use Rattle.tx_word.proofs.open.Words.set_parameter.Goals as goal

pub invariant_of-self : goal.invariant_of-self
invariant_of-self c = open-files c.self.inside.fonts.value c.set_font_parameter.new.fonts.value c.self.inside.word c.set_font_parameter.ensures.files c.self.invariant

pub returns : goal.returns
returns c =
    let fits : FitsSigned w32 c.args.value = search rules in
    words-with (λ (fonts : List FontState) (value : ℤ). with_font_parameter fonts c.args.number c.args.n value) c.set_font_parameter.result c.args.self.now c.self.inside.fonts.value c.set_font_parameter.new.fonts.value c.self.inside.word c.self.inside.accent _ c.args.value
    c.self.view_is (to_z-of_z fits) c.set_font_parameter.ensures.value
