-- The group of an equation's number ends, and behind it the display.
use Rattle.std.proofs.Common.{◌≡◌, ◌++◌, ℕ, List, Some, ap, refl, sym, ◌∙◌}
use Rattle.tx_eqtb.specs.declared.groups.GroupKind.{GroupKind}
use Rattle.tx_formula.specs.DisplayLists.{Shown, finished, telling}
use Rattle.tx_formula.specs.Displays.{display_shown, number_behind, number_closed, number_left}
use Rattle.tx_state.specs.declared.state.State.{State}
use Rattle.tx_state.specs.Meanings.{state_of}
use Rattle.tx_state.specs.State.{TexState}
use Rattle.tx_state.proofs.Outcomes.{outcome-by}
use Rattle.tx_formula.proofs.Showing.{told-behind}
use Rattle.tx_formula.proofs.displays.leave_number.Goals as goal

pub returns-in-Some-Display : goal.returns-in-Some-Display
returns-in-Some-Display c =
    let before : State = c.args.s.now in
    let left : State = c.leave_group.new.s in
    let made : Shown = finished left.words.fonts left.table.table (Some c.args.made.number) left.lists in
    let told : left.said ≡ before.said ++ c.args.made.report =
    c.in_ok-leave_group.ensures.said ∙ c.in_ok-append.ensures.ok ∙ ap (λ (report : List ℕ). before.said ++ report) c.as_slice.ensures in
    let is : number_closed (state_of before) c.args.made before.lists ≡ display_shown (state_of left) (telling c.args.made.report made) =
    ap (λ (s : TexState). number_left s c.args.made) (sym c.in_ok-leave_group.ensures.state)
    ∙ ap (number_behind (state_of left) c.args.made) (sym c.kind.ensures ∙ c.in-Some-Display.is ∙ ap (λ (kind : GroupKind). Some kind) c.in-Some-Display.field-0-is) in
    outcome-by (display_shown (state_of left) (telling c.args.made.report made)) (number_closed (state_of before) c.args.made before.lists) before before c.end_whole.new.s c.end_whole.result
    (sym is) refl (told-behind (state_of left) c.args.made.report made before left c.end_whole.new.s c.end_whole.result told c.end_whole.ensures)
