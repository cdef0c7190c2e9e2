use Rattle.std.proofs.Common.{ℕ, List, [], ◌∷◌, length, ap, sym, ◌∙◌, codes, option_copied, Bor}
use Rattle.std.specs.Fmt.{decimal}
use Rattle.std.specs.Prelude.{Option}
use Rattle.std.proofs.lemmas.Result.{IfOk-weaker}
use Rattle.tx_call.specs.Lines.{bytes_text}
use Rattle.tx_call.proofs.Chains.{chained}
use Rattle.tx_call.proofs.lines.bytes_text.Goals as goal

pub returns-in-None : goal.returns-in-None
unfolding bytes_text
returns-in-None c =
    IfOk-weaker c.joined.result _ _
    (λ text is. is ∙ ap (λ (bytes : Option (Bor (List ℕ))). bytes_text c.args.head.now (option_copied bytes)) (sym c.in-None.is)) c.joined.ensures

pub returns-in-Some : goal.returns-in-Some
unfolding bytes_text
returns-in-Some c =
    IfOk-weaker c.joined-in-Some.result _ _
    (λ text is. is ∙ chained c.args.head.now (decimal (length c.in-Some.bytes.now) ∷ codes " bytes\n" ∷ c.in-Some.bytes.now ∷ []) (codes "\n")
    ∙ ap (λ (bytes : Option (Bor (List ℕ))). bytes_text c.args.head.now (option_copied bytes)) (sym c.in-Some.is)) c.joined-in-Some.ensures
