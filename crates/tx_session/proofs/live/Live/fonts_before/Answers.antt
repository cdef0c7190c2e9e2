use Rattle.std.proofs.Common.{◌-◌, ◌++◌, List, length, take, sym, ap, ◌∙◌, arith}
use Rattle.tx_dvi.specs.declared.font.FontDefinition.{FontDefinition}
use Rattle.tx_dvi.specs.Dvi.{fonts_of}
use Rattle.tx_dvi.specs.Page.{Page}
use Rattle.tx_session.proofs.Parts.{take-both, fonts-append}
use Rattle.tx_session.proofs.live.Live.fonts_before.Goals as goal

pub returns-clause-fonts : goal.returns-clause-fonts
returns-clause-fonts g c =
    let first = c.shown.result.0.now in
    let others = c.shown.result.1.now in
    let more : List Page = take (c.args.count - length first) others in
    c.in_ok-append_fonts-3.ensures.fonts
    ∙ ap (λ (fonts : List FontDefinition). fonts ++ fonts_of more) (c.in_ok-append_fonts-2.ensures.fonts ∙ ap (λ (fonts : List FontDefinition). fonts ++ fonts_of first) c.new-fonts.ensures)
    ∙ sym (fonts-append first more)
    ∙ ap fonts_of (sym (take-both c.args.count first others (omega (arith, c.if-count-first.false))))
    ∙ ap (λ (pages : List Page). fonts_of (take c.args.count pages)) c.shown.ensures
