use Rattle.std.proofs.Common.{◌≡◌, ℕ, ℤ, ◌+ℤ◌, List, w32, w64, to_z, of_z, rules, Result, Ok, ap, ◌∙◌}
use Rattle.tx_node.specs.Items.{Item}
use Rattle.tx_node.specs.Nodes.{list_of}
use Rattle.tx_insert.specs.declared.trial.Break.{Break}
use Rattle.tx_pagebuilder.specs.declared.class.Class.{Class}
use Rattle.tx_pagebuilder.specs.declared.error.PageError.{PageError}
use Rattle.tx_pagebuilder.specs.declared.inserted.Inserted.{Inserted}
use Rattle.tx_pagebuilder.specs.declared.measures.Measures.{Measures}
use Rattle.tx_pagebuilder.specs.declared.params.ClassParams.{ClassParams}
use Rattle.tx_pagebuilder.specs.Inserts as spec
use Rattle.tx_pagebuilder.specs.Placing.{dimension}
use Rattle.tx_pagebuilder.proofs.inserting.cut_made.Goals as goal

-- the price of the break, and what the class has with the part that joins
priced : (m : Measures) (class : Class) (made : Break) (place : ℕ) (list : List Item) (params : ClassParams) (price total : ℤ)
    (sum : Result ℤ PageError) (cut : Result Inserted PageError)
    → price ≡ spec.price_in list made.place → total ≡ class.size +ℤ made.size → sum ≡ dimension total
    → cut ≡ spec.cut_with m class made place price params sum → cut ≡ spec.cut_at m class place list params (Ok made)
priced m class made place list params price total sum cut costs adds fits is =
    is
    ∙ ap (λ (z : ℤ). spec.cut_with m class made place z params sum) costs
    ∙ ap (λ (r : Result ℤ PageError). spec.cut_with m class made place (spec.price_in list made.place) params r)
    (fits ∙ ap (λ (z : ℤ). dimension z) adds)

pub returns-clause-value : goal.returns-clause-value
returns-clause-value c =
    priced c.args.measures.now c.args.class.now c.args.made c.args.place (list_of c.args.list.now) c.args.params.now
    (to_z w32 (of_z w32 c.price_at-price.result)) (to_z w64 (of_z w64 c.plus.result)) c.dimension-sum.result c.cut_with.result (search rules)
    (search rules) c.dimension-sum.ensures.value c.cut_with.ensures.value
