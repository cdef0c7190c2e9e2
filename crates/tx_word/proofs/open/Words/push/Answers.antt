use Rattle.std.proofs.Common.{[], ◌∷◌}
use Rattle.tx_word.proofs.Opened.{open-pushed}
use Rattle.tx_word.proofs.open.Words.push.Goals as goal

pub invariant_of-self : goal.invariant_of-self
invariant_of-self c =
    open-pushed c.push_font.result c.self.inside.fonts.value c.push_font.new.fonts.value (_ ∷ []) c.self.inside.word c.push_font.ensures.ok c.push_font.ensures.err c.self.invariant
