use Rattle.std.proofs.Common.{◌≡◌, rules, false}
use Rattle.std.specs.Prelude.{is_some}
use Rattle.tx_galley.proofs.Told.{err_so, idle}
use Rattle.tx_galley.proofs.exercising.build.Goals as goal

pub returns-else-is_active-clause-error : goal.returns-else-is_active-clause-error
returns-else-is_active-clause-error c =
    let none : is_some c.args.pages.now.output.waiting ≡ false = search rules in
    err_so c.build_page.result _ _ (idle c.args.list.now c.args.table.now c.args.pages.now none) c.build_page.ensures.error
