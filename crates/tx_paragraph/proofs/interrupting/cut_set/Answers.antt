use Rattle.std.proofs.Common.{◌≡◌, Ok, ap, ◌∙◌, pos, rules, to_z, of_z, w32}
use Rattle.std.specs.Prelude.{unwrap_or}
use Rattle.tx_nest.specs.declared.list.ModeList.{ModeList}
use Rattle.tx_nest.specs.States.{prev_depth}
use Rattle.tx_paragraph.specs.Ending.{depth_of}
use Rattle.tx_paragraph.specs.Interrupting.{cutting}
use Rattle.tx_paragraph.proofs.Cutting.{cut-so, error-so, left-so}
use Rattle.tx_paragraph.proofs.interrupting.cut_set.Goals as goal

pub returns-clause-cut : goal.returns-clause-cut
returns-clause-cut c =
    let same : to_z w32 (of_z w32 c.unwrap_or-prev_depth.result) ≡ c.unwrap_or-prev_depth.result = search rules in
    let depth : c.unwrap_or-prev_depth.result ≡ depth_of c.args.lists.now.nest.innermost.state =
    c.unwrap_or-prev_depth.ensures ∙ ap (λ d. unwrap_or d (pos 0)) (c.prev_depth.ensures ∙ ap (λ (l : ModeList). prev_depth l.state) c.innermost.ensures) in
    left-so c.count_lines.result _ _ _ (cutting c.args.fonts.now c.args.table.now.table c.args.lists.now c.args.passed (Ok c.in_ok-set.set)) _
    (cut-so (record { fonts = c.args.fonts.now; known = c.args.known.now }) c.args.lists.now c.args.table.now.table c.args.passed c.args.list c.in_ok-set.set _ _ (same ∙ depth) c.in_ok-set.ensures.lines)
    c.in_ok-set.ensures.known c.count_lines.ensures.cut

pub returns-clause-error : goal.returns-clause-error
returns-clause-error c =
    let same : to_z w32 (of_z w32 c.unwrap_or-prev_depth.result) ≡ c.unwrap_or-prev_depth.result = search rules in
    let depth : c.unwrap_or-prev_depth.result ≡ depth_of c.args.lists.now.nest.innermost.state =
    c.unwrap_or-prev_depth.ensures ∙ ap (λ d. unwrap_or d (pos 0)) (c.prev_depth.ensures ∙ ap (λ (l : ModeList). prev_depth l.state) c.innermost.ensures) in
    error-so c.count_lines.result _ (cutting c.args.fonts.now c.args.table.now.table c.args.lists.now c.args.passed (Ok c.in_ok-set.set)) _
    (cut-so (record { fonts = c.args.fonts.now; known = c.args.known.now }) c.args.lists.now c.args.table.now.table c.args.passed c.args.list c.in_ok-set.set _ _ (same ∙ depth) c.in_ok-set.ensures.lines)
    c.count_lines.ensures.error
