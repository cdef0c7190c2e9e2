use Rattle.std.proofs.Common.{◌∙◌, rules, w32, FitsSigned, to_z-of_z}
use Rattle.tx_tfm.specs.Fonts.{with_font_integer}
use Rattle.tx_word.proofs.Opened.{one-way}
use Rattle.tx_word.proofs.open.set_font_integer.Goals as goal

pub returns-clause-ok : goal.returns-clause-ok
returns-clause-ok c =
    let fits : FitsSigned w32 c.args.value = search rules in
    c.make_mut.follows.holds c.set_integer.new.self (search rules)
    ∙ (c.set_integer.ensures ∙ (λ i. with_font_integer c.args.kind (one-way c.in_ok-own.ensures.value i) c.args.number (to_z-of_z fits i)))
