use Rattle.std.proofs.Common.{ap}
use Rattle.tx_checkpoint.specs.declared.row.Row.{Row}
use Rattle.tx_machine.specs.Turn.{place_of}
use Rattle.tx_checkpoint.specs.Meant.{IsIdle}
use Rattle.tx_checkpoint.proofs.Keeping.{ready-page, shared-idle}
use Rattle.tx_checkpoint.proofs.format.format_row.Goals as goal

pub returns-in_ok-row-in-Page-clause-idle : goal.returns-in_ok-row-in-Page-clause-idle
returns-in_ok-row-in-Page-clause-idle g c =
    let idle : IsIdle g.M.Machine.formatter g.M.Machine.meaning g.M.Machine.pending c.format_page.new.spot.state = record {
      ready = ready-page g.M.Machine.formatter c.args.files.now g.met.M.Machine.lawful (place_of g.M.Machine.meaning c.args.spot.now) c.requires.ready
          c.in_ok-close.ensures.closes.close_is c.in-Page.is c.in_ok-close.ensures.closes.place_is;
      taken = c.in_ok-close.ensures.taken;
    } in
    (shared-idle _ _ _ _ _ (ap (λ (row : Row g.M.Machine.Meaning). row.state) c.in_ok-row-in-Page.ensures.row) c.in_ok-row-in-Page.ensures.pending idle, idle)
