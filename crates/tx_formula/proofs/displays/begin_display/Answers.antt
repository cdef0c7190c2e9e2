-- A display begins behind the lines of its paragraph.
use Rattle.std.proofs.Common.{List, ap, refl, sym, ◌∙◌}
use Rattle.tx_formula.specs.Displays.{beginning_display, interrupted, opening_display}
use Rattle.tx_paragraph.specs.Interrupting.{interrupting}
use Rattle.tx_state.specs.declared.state.State.{State}
use Rattle.tx_state.specs.Meanings.{state_of}
use Rattle.tx_state.proofs.Outcomes.{outcome-by}
use Rattle.tx_tfm.specs.declared.state.FontState.{FontState}
use Rattle.tx_formula.proofs.displays.begin_display.Goals as goal

pub returns-in-Ok : goal.returns-in-Ok
returns-in-Ok c =
    let between : State = record c.args.s.now { hyphenation = c.interrupt_paragraph.new.known; lists = c.interrupt_paragraph.new.lists } in
    outcome-by (opening_display (state_of between) c.in-Ok.told.report c.in-Ok.told.place) (beginning_display (state_of c.args.s.now)) c.args.s.now between c.open_display.new.s c.open_display.result
    (sym
    (ap (λ (fonts : List FontState). interrupted (state_of c.args.s.now) (interrupting (record { fonts = fonts; known = c.args.s.now.hyphenation }) c.args.s.now.table.table c.args.s.now.lists)) (sym c.fonts.ensures)
    ∙ ap (interrupted (state_of c.args.s.now)) c.in-Ok.ensures.cut))
    refl c.open_display.ensures
