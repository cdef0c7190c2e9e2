use Rattle.std.proofs.Common.{rules, ◌≡◌, ℤ, [], ◌∷◌, ◌∙◌, w32, FitsSigned, to_z, of_z, to_z-of_z}
use Rattle.tx_dvitype.specs.Files.{counts_in}
use Rattle.tx_dvitype.proofs.reader.counts_in.Goals as goal

count-is : {r z : ℤ} → FitsSigned w32 r → r ≡ z → to_z w32 (of_z w32 r) ≡ z
count-is fits is = to_z-of_z fits ∙ is

pub returns : goal.returns
unfolding counts_in
returns c =
    let f0 : FitsSigned w32 c.count_at.result = search rules in
    let f1 : FitsSigned w32 c.count_at-2.result = search rules in
    let f2 : FitsSigned w32 c.count_at-3.result = search rules in
    let f3 : FitsSigned w32 c.count_at-4.result = search rules in
    let f4 : FitsSigned w32 c.count_at-5.result = search rules in
    let f5 : FitsSigned w32 c.count_at-6.result = search rules in
    let f6 : FitsSigned w32 c.count_at-7.result = search rules in
    let f7 : FitsSigned w32 c.count_at-8.result = search rules in
    let f8 : FitsSigned w32 c.count_at-9.result = search rules in
    let f9 : FitsSigned w32 c.count_at-10.result = search rules in
    λ i. count-is f0 c.count_at.ensures i ∷ count-is f1 c.count_at-2.ensures i ∷ count-is f2 c.count_at-3.ensures i ∷ count-is f3 c.count_at-4.ensures i ∷ count-is f4 c.count_at-5.ensures i ∷ count-is f5 c.count_at-6.ensures i ∷ count-is f6 c.count_at-7.ensures i ∷ count-is f7 c.count_at-8.ensures i ∷ count-is f8 c.count_at-9.ensures i ∷ count-is f9 c.count_at-10.ensures i ∷ []
