use Rattle.std.proofs.Common.{◌≡◌, ℕ, length, ap, ◌∙◌}
use Rattle.tx_nest.specs.Grafs.{raised_graf}
use Rattle.tx_paragraph.proofs.Cutting.{counted-so, refused-so}
use Rattle.tx_paragraph.proofs.interrupting.count_lines.Goals as goal

pub returns-clause-cut : goal.returns-clause-cut
returns-clause-cut c =
    let graf : c.raised_graf-graf.result ≡ raised_graf c.args.passed (length c.args.set.chosen.chain) =
    c.raised_graf-graf.ensures ∙ ap (λ (lines : ℕ). raised_graf c.args.passed lines) c.len.ensures in
    counted-so c.use_lines.result c.args.fonts.now c.args.table.now.table c.args.lists.now _ c.args.set _ _ graf c.use_lines.ensures.cut

pub returns-clause-error : goal.returns-clause-error
returns-clause-error c =
    let graf : c.raised_graf-graf.result ≡ raised_graf c.args.passed (length c.args.set.chosen.chain) =
    c.raised_graf-graf.ensures ∙ ap (λ (lines : ℕ). raised_graf c.args.passed lines) c.len.ensures in
    refused-so c.use_lines.result c.args.fonts.now c.args.table.now.table c.args.lists.now c.args.set _ _ graf c.use_lines.ensures.error
