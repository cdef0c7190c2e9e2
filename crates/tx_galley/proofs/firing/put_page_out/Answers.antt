use Rattle.tx_galley.proofs.Told.{err_so, leaves}
use Rattle.tx_galley.proofs.firing.put_page_out.Goals as goal

pub returns-clause-error : goal.returns-clause-error
returns-clause-error c =
    err_so c.put_out_fired.result _ _
    (leaves c.args.fired _ c.args.left.now c.args.table.now _ c.args.pages.now _ c.in_ok-leave.ensures.table c.in_ok-leave.ensures.pages c.in_ok-leave.ensures.fired)
    c.put_out_fired.ensures.error
