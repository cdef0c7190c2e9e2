use Rattle.std.proofs.Common.{◌≡◌, ℕ, ap, ◌∙◌, rules, to_z, of_z, w32}
use Rattle.tx_tfm.specs.Fonts.{with_font_integer}
use Rattle.tx_word.specs.Collecting.{Collecting}
use Rattle.tx_lettering.specs.Fonts.{number_of}
use Rattle.tx_state.specs.Meanings.{state_of}
use Rattle.tx_lettering.proofs.Loads.{sets-fonts}
use Rattle.tx_lettering.proofs.fonts.set_integer.Goals as goal

pub returns : goal.returns
returns c =
    let same : to_z w32 (of_z w32 c.args.value) ≡ c.args.value = search rules in
    let made : ℕ → Collecting = λ number. record c.args.s.now.words { fonts = with_font_integer c.args.kind c.args.s.now.words.fonts number c.args.value } in
    sets-fonts c.args.s.now c.end_assignment.new.s c.set_integer.new.self (with_font_integer c.args.kind c.args.s.now.words.fonts (number_of (state_of c.args.s.now) c.args.font) c.args.value) c.end_assignment.result
    ((rw same at c.in_ok-set_integer.ensures) ∙ ap made (c.number_of-number.ensures c.args.s.now)) c.end_assignment.ensures
