use Rattle.std.proofs.Common.{ℕ, List, ap, ◌∙◌}
use Rattle.tx_tfm.specs.Fonts.{with_font_identifier}
use Rattle.tx_word.specs.Collecting.{Collecting}
use Rattle.tx_lettering.proofs.Loads.{names-font}
use Rattle.tx_lettering.proofs.fonts.name_font.Goals as goal

pub returns : goal.returns
returns c =
    let made : List ℕ → Collecting = λ text. record c.args.s.now.words { fonts = with_font_identifier c.args.s.now.words.fonts c.args.number text } in
    names-font c.args.s.now c.carry_out_assignment.new.s c.set_identifier.new.self c.args.defined c.args.global c.args.number c.carry_out_assignment.result
    (c.in_ok-set_identifier.ensures ∙ ap made c.in_ok-identifier.ensures) (rw c.meant.ensures at c.carry_out_assignment.ensures)
