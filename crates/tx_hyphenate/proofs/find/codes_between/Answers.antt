use Rattle.std.proofs.Common.{◌≡◌, ◌-◌, ℕ, List, IfOk, subst}
use Rattle.std.specs.List.{flat_map}
use Rattle.tx_node.specs.Items.{Item}
use Rattle.tx_hyphenate.specs.Letters.{codes_of}
use Rattle.tx_hyphenate.proofs.Runs.{between}
use Rattle.tx_hyphenate.proofs.find.codes_between.Goals as goal

pub returns : goal.returns
returns c =
    subst (λ (items : List Item). IfOk c.codes_of.result (λ (codes : List ℕ). codes ≡ flat_map codes_of items))
    (between c.args.nodes.now c.args.start (c.args.end - c.args.start)) c.codes_of.ensures
