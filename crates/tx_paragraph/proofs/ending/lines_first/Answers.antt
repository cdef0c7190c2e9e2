use Rattle.std.proofs.Common.{◌≡◌, rules, to_z, of_z, w32}
use Rattle.tx_paragraph.proofs.Settings.{first-so}
use Rattle.tx_paragraph.proofs.ending.lines_first.Goals as goal

pub returns-clause-none : goal.returns-clause-none
returns-clause-none c =
    let same : to_z w32 (of_z w32 c.args.prev_depth) ≡ c.args.prev_depth = search rules in
    rw (first-so c.args.last c.args.table.now.table c.args.prev_depth c.args.passed c.args.list.now _ _ c.in_ok-shape.ensures.shape (rw same at c.params_of.ensures)) c.first_lines.ensures.none

pub returns-clause-some : goal.returns-clause-some
returns-clause-some c =
    let same : to_z w32 (of_z w32 c.args.prev_depth) ≡ c.args.prev_depth = search rules in
    rw (first-so c.args.last c.args.table.now.table c.args.prev_depth c.args.passed c.args.list.now _ _ c.in_ok-shape.ensures.shape (rw same at c.params_of.ensures)) c.first_lines.ensures.some

pub returns-clause-error : goal.returns-clause-error
returns-clause-error c =
    let same : to_z w32 (of_z w32 c.args.prev_depth) ≡ c.args.prev_depth = search rules in
    rw (first-so c.args.last c.args.table.now.table c.args.prev_depth c.args.passed c.args.list.now _ _ c.in_ok-shape.ensures.shape (rw same at c.params_of.ensures)) c.first_lines.ensures.error
