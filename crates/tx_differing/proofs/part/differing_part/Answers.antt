use Rattle.std.proofs.Common.{◌≡◌, ℕ, ◌-◌, List, length, take, drop, sym, ap, subst, ◌∙◌, arith}
use Rattle.std.proofs.lemmas.List.{length-drop, take_all}
use Rattle.tx_differing.specs.Differing.{common_end, differing_at, IsShortest}
use Rattle.tx_differing.specs.declared.part.Differing.{Differing}
use Rattle.tx_differing.proofs.Exchanged.{differing-shortest}
use Rattle.tx_differing.proofs.part.differing_part.Goals as goal

all-behind : (n : ℕ) (xs : List ℕ) → take (length xs - n) (drop n xs) ≡ drop n xs
all-behind n xs = take_all (length xs - n) (drop n xs) (omega (arith, length-drop n xs))

pub returns-clause-shortest : goal.returns-clause-shortest
returns-clause-shortest c =
    let old = c.args.old.now in
    let new = c.args.new.now in
    let place = c.common-place.ensures.count in
    let end = c.common_end-end.ensures.count ∙ (λ i. common_end (all-behind c.common-place.result old i) (all-behind c.common-place.result new i)) ∙ ap (λ n. common_end (drop n old) (drop n new)) place in
    subst (λ (part : Differing). IsShortest old new part) (λ i. differing_at old new (sym place i) (sym end i)) (differing-shortest old new)
