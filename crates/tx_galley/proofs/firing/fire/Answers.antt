use Rattle.std.proofs.Common.{◌∙◌}
use Rattle.tx_galley.proofs.Told.{err_so, fires, ok_so}
use Rattle.tx_galley.proofs.firing.fire.Goals as goal

pub returns-clause-ok : goal.returns-clause-ok
returns-clause-ok c =
    ok_so c.put_page_out.result
    (λ out made.
    fires c.in_ok-fired.fired c.args.left.now c.args.table.now c.args.pages.now _ c.in_ok-fired.ensures.ok c.in_ok-fired.ensures.pages
    ∙ made)
    c.put_page_out.ensures.ok

pub returns-clause-error : goal.returns-clause-error
returns-clause-error c =
    err_so c.put_page_out.result _ _
    (fires c.in_ok-fired.fired c.args.left.now c.args.table.now c.args.pages.now _ c.in_ok-fired.ensures.ok c.in_ok-fired.ensures.pages)
    c.put_page_out.ensures.error
