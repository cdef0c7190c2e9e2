use Rattle.std.proofs.Common.{◌∙◌, sym}
use Rattle.tx_expand.proofs.Joining.{joined-first}
use Rattle.tx_expand.proofs.innermost.join_use.Goals as goal

pub returns : goal.returns
returns c =
    joined-first c.args.begun.now c.join_first.new.begun c.args.token.now c.join_first.result
    (sym c.is_matching.ensures ∙ c.if-not-is_matching.false) c.join_first.ensures
