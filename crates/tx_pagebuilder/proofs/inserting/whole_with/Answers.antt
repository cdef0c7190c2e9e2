use Rattle.std.proofs.Common.{◌≡◌, ℤ, w32, to_z, of_z, rules, Result, Ok, sym, ap, ◌∙◌}
use Rattle.tx_pagebuilder.specs.declared.class.Class.{Class}
use Rattle.tx_pagebuilder.specs.declared.error.PageError.{PageError}
use Rattle.tx_pagebuilder.specs.declared.inserted.Inserted.{Inserted}
use Rattle.tx_pagebuilder.specs.declared.measures.Measures.{Measures}
use Rattle.tx_pagebuilder.specs.declared.params.ClassParams.{ClassParams}
use Rattle.tx_pagebuilder.specs.Inserts as spec
use Rattle.tx_pagebuilder.proofs.inserting.whole_with.Goals as goal

-- the class has what it has then, and the goal has fallen
joined : (m : Measures) (class : Class) (size held : ℤ) (params : ClassParams) (sum : Result ℤ PageError) (held_as size_as count : ℤ)
    (low : Result Measures PageError) (made : Result Inserted PageError)
    → sum ≡ Ok held → held_as ≡ held → size_as ≡ size → count ≡ params.count → low ≡ spec.lowered m (spec.scaled count size_as)
    → made ≡ spec.inserted (record class { size = held_as }) low → made ≡ spec.whole_with m class size params sum
joined m class size held params sum held_as size_as count low made was holds same counts fell is =
    is
    ∙ ap (λ (r : Result Measures PageError). spec.inserted (record class { size = held_as }) r)
    (fell ∙ ap (λ (z : ℤ). spec.lowered m (spec.scaled z size_as)) counts ∙ ap (λ (z : ℤ). spec.lowered m (spec.scaled params.count z)) same)
    ∙ ap (λ (z : ℤ). spec.whole_with m class size params (Ok z)) holds
    ∙ sym (ap (λ (r : Result ℤ PageError). spec.whole_with m class size params r) was)

pub returns-clause-value : goal.returns-clause-value
returns-clause-value c =
    joined c.args.measures.now c.args.class.now c.args.size c.in_ok-sum.sum c.args.params.now c.args.sum (to_z w32 (of_z w32 c.in_ok-sum.sum))
    (to_z w32 (of_z w32 c.args.size)) (to_z w32 (of_z w32 c.args.params.now.count)) c.lowered_by.result c.with_measures.result c.in_ok-sum.was
    (search rules) (search rules) (search rules) c.lowered_by.ensures.value c.with_measures.ensures.value
