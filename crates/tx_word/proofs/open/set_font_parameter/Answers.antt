use Rattle.std.proofs.Common.{◌∙◌, rules, w32, FitsSigned, to_z-of_z}
use Rattle.std.proofs.lemmas.Result.{on_ok_weaker}
use Rattle.tx_tfm.specs.Fonts.{with_font_parameter}
use Rattle.tx_word.proofs.Opened.{one-way}
use Rattle.tx_word.proofs.open.set_font_parameter.Goals as goal

pub returns-clause-value : goal.returns-clause-value
returns-clause-value c =
    let fits : FitsSigned w32 c.args.value = search rules in
    on_ok_weaker c.set_parameter.result
    (λ e. c.make_mut.follows.holds c.set_parameter.new.self (search rules) ∙ (e ∙ (λ i. with_font_parameter (one-way c.in_ok-own.ensures.value i) c.args.number c.args.n (to_z-of_z fits i))))
    c.set_parameter.ensures.value
