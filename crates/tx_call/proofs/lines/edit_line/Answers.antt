use Rattle.std.proofs.Common.{List, ℕ, [], ◌∷◌, ◌++◌, ap, ◌∙◌, codes}
use Rattle.std.specs.Fmt.{decimal}
use Rattle.std.proofs.lemmas.Result.{IfOk-weaker}
use Rattle.tx_call.specs.Lines.{end_text, edit_line}
use Rattle.tx_call.proofs.Chains.{made, chained}
use Rattle.tx_call.proofs.lines.edit_line.Goals as goal

pub returns : goal.returns
unfolding edit_line
returns c =
    let parts : List ℕ → List (List ℕ) = λ end.
    decimal c.args.number ∷ codes ": " ∷ decimal c.args.report.now.pages ∷ codes " pages, resumed " ∷ decimal c.args.report.now.resumed ∷ codes ", formatted " ∷ decimal c.args.report.now.formatted
    ∷ codes ", reused " ∷ decimal c.args.report.now.reused ∷ codes ", " ∷ end ∷ [] in
    IfOk-weaker c.joined.result _ _
    (λ line is. is ∙ ap (λ (end : List ℕ). codes "edit " ++ made (parts end) (codes "\n")) (c.as_slice.ensures ∙ c.in_ok-end.ensures)
    ∙ chained (codes "edit ") (parts (end_text c.args.end.now)) (codes "\n")) c.joined.ensures
