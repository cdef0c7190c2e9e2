use Rattle.std.proofs.Common.{◌∙◌, ◌≡◌, ◌-◌, ℕ, List, false, length, take, drop, ap, arith, length-drop}
use Rattle.std.proofs.lemmas.List.{take_all}
use Rattle.tx_tfm.specs.Fonts.{font_at}
use Rattle.tx_word.specs.Composed.{composed_in}
use Rattle.tx_word.specs.Divisions.{seam_between}
use Rattle.tx_word.proofs.dividing.Dividing.seam_by_parts.Goals as goal

pub returns-clause-value : goal.returns-clause-value
returns-clause-value c =
    let before = c.as_slice.ensures ∙ c.in_ok-before.ensures.value in
    let w = c.args.self.now in
    let rest : take (length w.chars.now - c.args.place) (drop c.args.place w.chars.now) ≡ drop c.args.place w.chars.now =
    take_all (length w.chars.now - c.args.place) (drop c.args.place w.chars.now) (omega (arith, length-drop c.args.place w.chars.now)) in
    let behind = c.as_slice-2.ensures ∙ c.in_ok-behind.ensures.value ∙ ap (λ (chars : List ℕ). composed_in (font_at w.fonts.now w.font) chars false w.right) rest in
    c.seam_between.ensures.value ∙ (λ i. seam_between c.args.place (before i) (behind i) (c.requires.word.items_are i))
