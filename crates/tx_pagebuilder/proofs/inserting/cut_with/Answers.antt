use Rattle.std.proofs.Common.{◌≡◌, ℕ, ℤ, w32, to_z, of_z, rules, Some, Result, Ok, sym, ap, ◌∙◌}
use Rattle.tx_insert.specs.declared.trial.Break.{Break}
use Rattle.tx_pagebuilder.specs.declared.class.Class.{Class}
use Rattle.tx_pagebuilder.specs.declared.error.PageError.{PageError}
use Rattle.tx_pagebuilder.specs.declared.inserted.Inserted.{Inserted}
use Rattle.tx_pagebuilder.specs.declared.measures.Measures.{Measures}
use Rattle.tx_pagebuilder.specs.declared.params.ClassParams.{ClassParams}
use Rattle.tx_pagebuilder.specs.Inserts as spec
use Rattle.tx_pagebuilder.proofs.inserting.cut_with.Goals as goal

-- the class was split, and the goal has fallen by the part that joins
split : (m : Measures) (class : Class) (made : Break) (place : ℕ) (price held : ℤ) (params : ClassParams) (sum : Result ℤ PageError)
    (price_as held_as size count : ℤ) (low : Result Measures PageError) (cut : Result Inserted PageError)
    → sum ≡ Ok held → price_as ≡ price → held_as ≡ held → size ≡ made.size → count ≡ params.count → low ≡ spec.lowered m (spec.scaled count size)
    → cut ≡ spec.cut_penalized (spec.class_with class.number held_as (Some (record { insert = place; place = made.place }))) price_as low
    → cut ≡ spec.cut_with m class made place price params sum
split m class made place price held params sum price_as held_as size count low cut was prices holds same counts fell is =
    is
    ∙ ap (λ (r : Result Measures PageError). spec.cut_penalized (spec.class_with class.number held_as (Some (record { insert = place; place = made.place }))) price_as r)
    (fell ∙ ap (λ (z : ℤ). spec.lowered m (spec.scaled z size)) counts ∙ ap (λ (z : ℤ). spec.lowered m (spec.scaled params.count z)) same)
    ∙ ap (λ (z : ℤ). spec.cut_penalized (spec.class_with class.number z (Some (record { insert = place; place = made.place }))) price_as (spec.lowered m (spec.scaled params.count made.size))) holds
    ∙ ap (λ (z : ℤ). spec.cut_with m class made place z params (Ok held)) prices
    ∙ sym (ap (λ (r : Result ℤ PageError). spec.cut_with m class made place price params r) was)

pub returns-clause-value : goal.returns-clause-value
returns-clause-value c =
    split c.args.measures.now c.args.class.now c.args.made c.args.place c.args.price c.in_ok-sum.sum c.args.params.now c.args.sum
    (to_z w32 (of_z w32 c.args.price)) (to_z w32 (of_z w32 c.in_ok-sum.sum)) (to_z w32 (of_z w32 c.narrow.result)) (to_z w32 (of_z w32 c.args.params.now.count))
    c.lowered_by-low.result c.cut_penalized.result c.in_ok-sum.was (search rules) (search rules) (search rules) (search rules) c.lowered_by-low.ensures.value
    c.cut_penalized.ensures.value
