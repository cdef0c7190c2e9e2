use Rattle.std.proofs.Common.{sym, ap, ◌∙◌}
use Rattle.tx_session.specs.Refusals.{past_end}
use Rattle.tx_session.proofs.Refusing.{outside-is}
use Rattle.tx_session.proofs.changing.outside_of.Goals as goal

pub returns-in-Edit : goal.returns-in-Edit
returns-in-Edit c = outside-is c.args.files.now c.in-Edit.e c.outside.result c.outside.ensures ∙ ap (past_end c.args.files.now) (sym c.in-Edit.is)
