-- What is set of a formula is split, and put with what the table has.
use Rattle.std.proofs.Common.{◌≡◌, Ok}
use Rattle.tx_formula.specs.DisplayLists.{appended, shown, shown_by}
use Rattle.tx_formula.proofs.Showing.{refused-by, shown-by}
use Rattle.tx_formula.proofs.display_lists.show.Goals as goal

pub returns-clause-made : goal.returns-clause-made
returns-clause-made c =
    shown-by c.put.result (shown_by (appended c.display_params-params.result c.args.number c.in_ok-line.line c.args.lists.now)) (shown c.args.fonts.now c.args.table.now.table c.args.number c.args.nodes c.args.lists.now) c.args.said.now c.put.new.said (Ok c.put.new.lists)
    (λ i. shown_by (appended (c.display_params-params.ensures.value i) c.args.number (c.in_ok-line.ensures i) c.args.lists.now))
    c.put.ensures.made

pub returns-clause-error : goal.returns-clause-error
returns-clause-error c =
    refused-by c.put.result (shown_by (appended c.display_params-params.result c.args.number c.in_ok-line.line c.args.lists.now)) (shown c.args.fonts.now c.args.table.now.table c.args.number c.args.nodes c.args.lists.now) c.args.said.now c.put.new.said
    (λ i. shown_by (appended (c.display_params-params.ensures.value i) c.args.number (c.in_ok-line.ensures i) c.args.lists.now))
    c.put.ensures.error
