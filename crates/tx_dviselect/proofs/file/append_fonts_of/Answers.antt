use Rattle.std.proofs.Common.{◌≡◌, List, [], ◌∷◌, ◌++◌, length, refl, sym, ap, ◌∙◌, arith}
use Rattle.std.proofs.lemmas.Bool.{eqb-true}
use Rattle.std.proofs.lemmas.List.{append-nil}
use Rattle.tx_dvi.specs.declared.font.FontDefinition.{FontDefinition}
use Rattle.tx_dviselect.proofs.file.append_fonts_of.Goals as goal

none_are : (fonts : List FontDefinition) → length fonts ≡ 0 → fonts ≡ []
none_are [] e = refl
none_are (font ∷ fonts) e = absurd (omega (arith, e))

pub returns-then-is_empty-clause-fonts : goal.returns-then-is_empty-clause-fonts
returns-then-is_empty-clause-fonts c =
    let none : c.fonts-defined.result.now ≡ [] = none_are c.fonts-defined.result.now (eqb-true (length c.fonts-defined.result.now) 0 (sym c.is_empty.ensures ∙ c.if-is_empty.true)) in
    sym (append-nil c.args.fonts.now) ∙ ap (λ (l : List FontDefinition). c.args.fonts.now ++ l) (sym none ∙ c.fonts-defined.ensures.fonts)
