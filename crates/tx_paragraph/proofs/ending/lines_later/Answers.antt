use Rattle.std.proofs.Common.{◌≡◌, ◌∙◌, ap, rules, to_z, of_z, w32}
use Rattle.tx_paragraph.specs.Parameters.{later_params}
use Rattle.tx_paragraph.proofs.Settings.{later-so}
use Rattle.tx_paragraph.proofs.ending.lines_later.Goals as goal

pub returns-clause-lines : goal.returns-clause-lines
returns-clause-lines c =
    let same : to_z w32 (of_z w32 c.args.prev_depth) ≡ c.args.prev_depth = search rules in
    rw (later-so c.args.last c.args.table.now.table c.args.prev_depth c.args.passed c.args.list _ _ c.in_ok-shape.ensures.shape (c.later_params.ensures ∙ ap later_params (rw same at c.params_of.ensures))) c.paragraph.ensures.lines

pub returns-clause-error : goal.returns-clause-error
returns-clause-error c =
    let same : to_z w32 (of_z w32 c.args.prev_depth) ≡ c.args.prev_depth = search rules in
    rw (later-so c.args.last c.args.table.now.table c.args.prev_depth c.args.passed c.args.list _ _ c.in_ok-shape.ensures.shape (c.later_params.ensures ∙ ap later_params (rw same at c.params_of.ensures))) c.paragraph.ensures.error
