use Rattle.std.proofs.Common.{◌∙◌, rules}
use Rattle.tx_tfm.specs.Fonts.{with_font_identifier}
use Rattle.tx_word.proofs.Opened.{one-way}
use Rattle.tx_word.proofs.open.set_font_identifier.Goals as goal

pub returns-clause-ok : goal.returns-clause-ok
returns-clause-ok c =
    c.make_mut.follows.holds c.set_identifier.new.self (search rules)
    ∙ (c.set_identifier.ensures ∙ (λ i. with_font_identifier (one-way c.in_ok-own.ensures.value i) c.args.number c.args.identifier))
