use Rattle.std.proofs.Common.{[], ◌∷◌, ◌∙◌, codes}
use Rattle.std.specs.Fmt.{decimal}
use Rattle.std.proofs.lemmas.Result.{IfOk-weaker}
use Rattle.tx_call.specs.Lines.{batch_outside_line}
use Rattle.tx_call.proofs.Chains.{chained}
use Rattle.tx_call.proofs.lines.batch_outside_line.Goals as goal

pub returns : goal.returns
unfolding batch_outside_line
returns c =
    IfOk-weaker c.joined.result _ _
    (λ line is. is ∙ chained (codes "edit ") (decimal c.args.number ∷ codes ": " ∷ codes "change " ∷ decimal c.args.index ∷ codes " outside, file has " ∷ decimal c.args.len ∷ []) (codes " bytes\n")) c.joined.ensures
