-- What is set of a display stands in the lists, and its group ends.
use Rattle.std.proofs.Common.{◌≡◌, [], List, Ok, Err, ap, subst, ◌∙◌}
use Rattle.tx_command.specs.declared.types.Head.TheVariants.{Displayed}
use Rattle.tx_formula.specs.DisplayLists.{IsShown, Shown, finished}
use Rattle.tx_formula.specs.Errors.{error_of}
use Rattle.tx_formula.specs.Groups.{behind_formula}
use Rattle.tx_state.specs.declared.state.State.{State}
use Rattle.tx_state.specs.Meanings.{state_of}
use Rattle.tx_state.specs.State.{TexState}
use Rattle.tx_tfm.specs.declared.state.FontState.{FontState}
use Rattle.tx_formula.proofs.Showing.{fails-so, left-so}
use Rattle.tx_formula.proofs.displays.end_whole.Goals as goal

pub returns-in_ok-go_on-in-Ok : goal.returns-in_ok-go_on-in-Ok
returns-in_ok-go_on-in-Ok c =
    let before : State = c.args.s.now in
    let after : State = record c.go_on.new.s { scan = c.begin_behind.new.self } in
    let made : Shown = finished before.words.fonts before.table.table c.args.number before.lists in
    let shown : IsShown made before.said c.finish.new.said (Ok c.finish.new.lists) =
    subst (λ (fonts : List FontState). IsShown (finished fonts before.table.table c.args.number before.lists) before.said c.finish.new.said (Ok c.finish.new.lists)) c.fonts.ensures c.in-Ok.ensures.made in
    let is : state_of after ≡ record (behind_formula (state_of before) c.finish.new.lists) { head = Displayed } =
    (λ i. state_of (record c.go_on.new.s { scan = c.begin_behind.ensures i }))
    ∙ ap (λ (s : TexState). record s { head = Displayed; taken = [] }) c.in_ok-go_on-in-Ok.ensures.state in
    left-so before after made c.finish.new.said c.finish.new.lists shown c.in_ok-go_on-in-Ok.ensures.said (c.in_ok-go_on-in-Ok.ensures.phase ∙ c.requires.running) is

pub returns-in-Err : goal.returns-in-Err
returns-in-Err c =
    let before : State = c.args.s.now in
    let between : State = record before { lists = c.finish.new.lists; said = c.finish.new.said } in
    fails-so before between c.fail_by_formula.new.s (finished before.words.fonts before.table.table c.args.number before.lists) c.in-Err.error c.fail_by_formula.result
    (λ not_memory. subst (λ (fonts : List FontState). IsShown (finished fonts before.table.table c.args.number before.lists) before.said c.finish.new.said (Err (error_of c.in-Err.error))) c.fonts.ensures (c.in-Err.ensures.error not_memory))
    c.fail_by_formula.ensures.memory c.fail_by_formula.ensures.failed
