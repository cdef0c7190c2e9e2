use Rattle.std.proofs.Common.{◌≡◌, List, ℕ, ◌++◌, ◌∷◌, [], ap, ◌∙◌, append_assoc, codes, decimal}
use Rattle.tx_hyphenate.specs.Lacking.{missing}
use Rattle.tx_hyphenate.proofs.lacking.report_missing.Goals as goal

regroup : (a b c d e f : List ℕ) → ((((a ++ b) ++ c) ++ d) ++ e) ++ f ≡ a ++ (b ++ (c ++ (d ++ (e ++ f))))
regroup a b c d e f = simp append_assoc

pub returns : goal.returns
unfolding missing
returns c =
    let first : List ℕ = codes "missing character " in
    let middle : List ℕ = codes " in " in
    let name : List ℕ = c.args.name.now in
    let last : List ℕ = 10 ∷ [] in
    c.in_ok-append-5.ensures.ok
    ∙ ap (λ said. said ++ last) c.in_ok-append-4.ensures.ok
    ∙ ap (λ said. (said ++ name) ++ last) c.in_ok-append-3.ensures.ok
    ∙ ap (λ said. ((said ++ middle) ++ name) ++ last) c.in_ok-append-2.ensures.ok
    ∙ (λ i. (((c.in_ok-append.ensures.ok i ++ (c.as_bytes.ensures.value ∙ c.format.ensures.text) i) ++ middle) ++ name) ++ last)
    ∙ regroup c.args.report.now first (decimal c.args.code) middle name last
