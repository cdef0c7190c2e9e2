use Rattle.std.proofs.Common.{◌∙◌, sym}
use Rattle.tx_expand.proofs.printing.push_shown.Goals as goal

pub returns-in-Some : goal.returns-in-Some
returns-in-Some c = λ any. rw (sym c.mark_meant.ensures ∙ c.in-Some.is) (c.push_mark_of.ensures any)
