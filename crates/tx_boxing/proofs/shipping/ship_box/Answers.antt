use Rattle.std.proofs.Common.{List, Result, Err, ap, subst, sym, ◌∙◌}
use Rattle.std.specs.Prelude.{pos}
use Rattle.tx_boxing.specs.Pages.{with_pages}
use Rattle.tx_boxing.specs.Shipped.{ships}
use Rattle.tx_makeup.specs.Shipping.{Sent, sending}
use Rattle.tx_seen.specs.declared.error.TexError.{TexError}
use Rattle.tx_state.specs.Meanings.{IsStepped, state_of}
use Rattle.tx_state.specs.State.{TexState}
use Rattle.tx_tfm.specs.declared.state.FontState.{FontState}
use Rattle.tx_boxing.proofs.shipping.ship_box.Goals as goal

-- the error of the page is the run's
pub returns-in_ok-error-in-Err : goal.returns-in_ok-error-in-Err
returns-in_ok-error-in-Err c =
    let s : TexState = with_pages (state_of c.args.s.now) (record c.args.s.now.lists.pages { dead_cycles = pos 0 }) in
    let refused : TexError → Result Sent TexError = λ e. Err e in
    subst (λ (fonts : List FontState). IsStepped (ships s (sending fonts s.magnification s.defined s.table.table c.args.shipped)) c.args.s.now c.fail.result c.fail.new.s) c.fonts.ensures
    (subst (λ (r : Result Sent TexError). IsStepped (ships s r) c.args.s.now c.fail.result c.fail.new.s)
    (sym (c.in-Err.ensures.error c.in_ok-error-in-Err.ensures.memory ∙ ap refused (sym c.in_ok-error-in-Err.ensures.told)))
    (record { event_is = c.fail.ensures.event_is; state_is = c.fail.ensures.state_is; said_is = c.fail.ensures.said_is }))
