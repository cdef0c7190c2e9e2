use Rattle.tx_request.specs.Reading.{change_behind}
use Rattle.tx_request.proofs.Pieces.{change_edits, change_fails, change_removes}
use Rattle.tx_request.proofs.Streams.{err_as}
use Rattle.tx_request.proofs.read.change.Goals as goal

pub returns-in_err-edit-in-Edit-clause-streams : goal.returns-in_err-edit-in-Edit-clause-streams
returns-in_err-edit-in-Edit-clause-streams g c =
    err_as c.from_residual.result c.in_err-edit-in-Edit.field-0.0 (change_behind c.args.line) (g.I.Inlet.left c.args.inlet.now) (g.I.Inlet.left c.edit.new.inlet) c.from_residual.ensures.1
    (change_fails c.args.line c.in-Edit.line c.in-Edit.is c.in_err-edit-in-Edit.field-0.0 (g.I.Inlet.left c.args.inlet.now) (g.I.Inlet.left c.edit.new.inlet) c.in_err-edit-in-Edit.ensures.streams)

pub returns-in_ok-edit-in-Edit-clause-streams : goal.returns-in_ok-edit-in-Edit-clause-streams
returns-in_ok-edit-in-Edit-clause-streams g c =
    change_edits c.args.line c.in-Edit.line c.in-Edit.is c.in_ok-edit-in-Edit.field-0 (g.I.Inlet.left c.args.inlet.now) (g.I.Inlet.left c.edit.new.inlet) c.in_ok-edit-in-Edit.ensures.streams

pub returns-in-Remove-clause-streams : goal.returns-in-Remove-clause-streams
returns-in-Remove-clause-streams g c = change_removes c.args.line c.in-Remove.name c.in-Remove.is (g.I.Inlet.left c.args.inlet.now)
