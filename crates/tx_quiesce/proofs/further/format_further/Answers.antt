use Rattle.std.proofs.Common.{◌≤◌, map, sym, ap, subst, ◌∙◌}
use Rattle.tx_machine.specs.Steps.{raised}
use Rattle.tx_checkpoint.specs.Meant.{AreRows, row_meant}
use Rattle.tx_checkpoint.specs.Rows.{at_limit}
use Rattle.tx_quiesce.proofs.Furthers.{lent-opens, last-opens, lent-cut, lent-goes, lent-turns}
use Rattle.tx_quiesce.proofs.further.format_further.Goals as goal

pub moved_opens-requires : goal.moved_opens-requires
moved_opens-requires g c = lent-opens c.as_slice-rows.ensures.value c.requires.can c.args.most c.if-most-rest.true c.index-rows-number.is

pub returns-then-most-rest-clause-further : goal.returns-then-most-rest-clause-further
returns-then-most-rest-clause-further g c h start are =
    subst (AreRows g.M.Machine.meaning c.at_limit.result) (sym (lent-cut g.M.Machine.meaning c.args.changes.now c.args.files.now are start c.args.number g.M.Machine.formatter c.args.budget c.args.most c.as_slice-rows.ensures.value c.requires.can c.if-most-rest.true c.index-rows-number.is))
    (record {
      pages_are = c.at_limit.ensures.pages;
      pieces_are = c.at_limit.ensures.pieces;
      rows_are = ap (map (row_meant g.M.Machine.meaning)) c.at_limit.ensures.rows;
      last_is = c.at_limit.ensures.last ∙ ap at_limit c.in_ok-opens.ensures;
    })

pub goes_on-requires-clause-opens : goal.goes_on-requires-clause-opens
goes_on-requires-clause-opens g c = last-opens c.as_slice-rows.ensures.value c.requires.can c.index-rows-rows.is

pub returns-in_err-later-clause-bound : goal.returns-in_err-later-clause-bound
returns-in_err-later-clause-bound g c h start are =
    subst (λ turns. c.goes_on.new.steps ≤ raised c.args.steps.now turns) (lent-turns g.M.Machine.meaning c.args.changes.now c.args.files.now are start c.args.number g.M.Machine.formatter c.args.budget c.args.most c.as_slice-rows.ensures.value c.requires.can c.if-most-rest.false c.in-PageLimit.is c.index-rows-rows.is) c.goes_on.ensures.bound

pub returns-in-PageLimit-clause-further : goal.returns-in-PageLimit-clause-further
returns-in-PageLimit-clause-further g c h start are =
    subst (AreRows g.M.Machine.meaning c.in_ok-later.later) (sym (lent-goes g.M.Machine.meaning c.args.changes.now c.args.files.now are start c.args.number g.M.Machine.formatter c.args.budget c.args.most c.as_slice-rows.ensures.value c.requires.can c.if-most-rest.false c.in-PageLimit.is c.index-rows-rows.is)) c.in_ok-later.ensures.rows

pub returns-in-PageLimit-clause-counted : goal.returns-in-PageLimit-clause-counted
returns-in-PageLimit-clause-counted g c h start are =
    c.in_ok-later.ensures.counted ∙ ap (raised c.args.steps.now) (lent-turns g.M.Machine.meaning c.args.changes.now c.args.files.now are start c.args.number g.M.Machine.formatter c.args.budget c.args.most c.as_slice-rows.ensures.value c.requires.can c.if-most-rest.false c.in-PageLimit.is c.index-rows-rows.is)

pub returns-in-PageLimit-clause-bound : goal.returns-in-PageLimit-clause-bound
returns-in-PageLimit-clause-bound g c h start are =
    subst (λ turns. c.goes_on.new.steps ≤ raised c.args.steps.now turns) (lent-turns g.M.Machine.meaning c.args.changes.now c.args.files.now are start c.args.number g.M.Machine.formatter c.args.budget c.args.most c.as_slice-rows.ensures.value c.requires.can c.if-most-rest.false c.in-PageLimit.is c.index-rows-rows.is) c.goes_on.ensures.bound
