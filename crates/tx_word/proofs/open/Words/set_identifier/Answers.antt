use Rattle.std.proofs.Common.{List}
use Rattle.tx_tfm.specs.declared.state.FontState.{FontState}
use Rattle.tx_tfm.specs.Fonts.{with_font_identifier}
use Rattle.tx_word.proofs.Opened.{open-identifier, words-by}
use Rattle.tx_word.proofs.open.Words.set_identifier.Goals as goal

pub invariant_of-self : goal.invariant_of-self
invariant_of-self c =
    open-identifier c.set_font_identifier.result c.self.inside.fonts.value c.set_font_identifier.new.fonts.value c.self.inside.word c.args.number c.args.identifier c.set_font_identifier.ensures.ok c.set_font_identifier.ensures.err c.self.invariant

pub returns : goal.returns
returns c =
    words-by (λ (fonts : List FontState). with_font_identifier fonts c.args.number c.args.identifier) c.set_font_identifier.result c.args.self.now c.self.inside.fonts.value c.set_font_identifier.new.fonts.value c.self.inside.word c.self.inside.accent
    c.self.view_is c.set_font_identifier.ensures.ok
