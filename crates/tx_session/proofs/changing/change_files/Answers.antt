use Rattle.std.proofs.Common.{sym, ◌∙◌}
use Rattle.tx_files.specs.declared.before.Before.{Before}
use Rattle.tx_session.proofs.Refusing.{alone-refused, alone-wants, files-refused}
use Rattle.tx_session.proofs.changing.change_files.Goals as goal

pub returns-in-Some-clause-answer : goal.returns-in-Some-clause-answer
returns-in-Some-clause-answer c = alone-refused Before c.args.files.now c.args.changes.now c.in-Some.len (sym c.outside_alone-outside.ensures ∙ c.in-Some.is)

pub returns-in_err-before-clause-answer : goal.returns-in_err-before-clause-answer
returns-in_err-before-clause-answer c =
    files-refused c.args.files.now c.args.changes.now c.from_residual.result c.in_err-before.field-0.0 c.from_residual.ensures.1
    (alone-wants c.args.files.now c.args.changes.now (sym c.outside_alone-outside.ensures ∙ c.in_default.is)) c.in_err-before.ensures.answer
