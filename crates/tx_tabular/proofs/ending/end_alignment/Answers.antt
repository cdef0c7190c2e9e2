use Rattle.std.proofs.Common.{◌≡◌, ◌∙◌, ℕ, List, Option, Some, None, Ok, sym, ap}
use Rattle.tx_box.specs.declared.parts.Lists.{Lists}
use Rattle.tx_nest.specs.declared.nest.Nest.{Nest}
use Rattle.tx_nest.specs.declared.state.ModeState.{ModeState}
use Rattle.tx_node.specs.Items.{Item}
use Rattle.tx_pack.specs.declared.types.PackParams.{PackParams}
use Rattle.tx_align.specs.declared.aligned.Aligned.{Aligned}
use Rattle.tx_align.specs.declared.row_item.RowItem.TheVariants as row
use Rattle.tx_tabular.specs.declared.alignment.Alignment.{Alignment}
use Rattle.tx_tabular.specs.Ending.{Closed, IsClosed, aligned, closed_nest, finished_in, finishing, finishing_by, standing, with_rest}
use Rattle.tx_tabular.specs.Lists.{between}
use Rattle.tx_tabular.specs.Rows.{pushing}
use Rattle.tx_tabular.proofs.ending.end_alignment.Goals as goal

abbrev pair_or : ModeState × List Item → Option (ModeState × List Item) → ModeState × List Item
pair_or other None = other
pair_or other (Some pair) = pair

closed-is : (closed : Option Closed) (state : ModeState) (list : List Item) (left : Nest) → IsClosed closed (Some (state, list)) left → closed ≡ Some (record { state = state; list = list; nest = left })
closed-is None state list left is = absurd (cc)
closed-is (Some closed) state list left is =
    let pair : (state, list) ≡ (closed.state, closed.list) = ap (pair_or (state, list)) is.0 in
    λ i. Some (record { state = (sym pair i).0; list = (sym pair i).1; nest = sym is.1 i })

-- step by step
all-ended : (params : PackParams) (lists new : Lists) (a b : Alignment) (state : ModeState) (nodes rest : List Item) (left : Nest) (made : Aligned) (report : List ℕ)
    → closed_nest lists.nest ≡ Some (record { state = state; list = nodes; nest = left }) → rest ≡ between a.behind_row nodes → pushing a (row.NoAlign rest) ≡ Ok b
    → aligned b params ≡ Ok made → report ≡ made.report → new ≡ standing (record lists { nest = left }) state made
    → finishing params lists a ≡ Ok (record { lists = new; report = report })
all-ended params lists new a b state nodes rest left made report closed rest_is pushed set report_is new_is =
    ap (finishing_by params lists a) closed
    ∙ ap (λ (items : List Item). with_rest params (record lists { nest = left }) state (pushing a (row.NoAlign items))) (sym rest_is)
    ∙ ap (with_rest params (record lists { nest = left }) state) pushed
    ∙ ap (finished_in (record lists { nest = left }) state) set
    ∙ (λ i. Ok (record { lists = sym new_is i; report = sym report_is i }))

pub returns-clause-ended : goal.returns-clause-ended
returns-clause-ended c =
    all-ended c.args.params.now c.args.lists.now c.stand_in.new.lists c.args.alignment c.push.new.alignment c.in-Some.state c.in-Some.nodes c.in_ok-rest.rest c.close_list.new.nest c.in_ok-made.made c.in_ok-stand_in.field-0
    (closed-is (closed_nest c.args.lists.now.nest) c.in-Some.state c.in-Some.nodes c.close_list.new.nest c.in-Some.ensures)
    c.in_ok-rest.ensures c.in_ok-push.ensures.pushed c.in_ok-made.ensures.set c.in_ok-stand_in.ensures.report c.in_ok-stand_in.ensures.lists
