use Rattle.std.proofs.Common.{◌∙◌, ap, arith}
use Rattle.std.proofs.lemmas.List.{take_rest}
use Rattle.tx_node.specs.Nodes.{list_of}
use Rattle.tx_nest.specs.Lasts as spec
use Rattle.tx_nest.proofs.Replaced.{near}
use Rattle.tx_nest.proofs.last.is_replaced.Goals as goal

pub returns : goal.returns
returns c =
    c.is_replaced_in.ensures ∙ ap (λ nodes. spec.is_replaced (list_of nodes)) (take_rest c.as_slice-items.result.now c.saturating_sub-passed.result)
    ∙ near c.as_slice-items.result.now c.saturating_sub-passed.result (omega (arith, c.saturating_sub-passed.ensures))
    ∙ ap spec.is_replaced c.as_slice-items.ensures
