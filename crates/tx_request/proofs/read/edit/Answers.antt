use Rattle.tx_request.specs.Reading.{edit_behind}
use Rattle.tx_request.proofs.Pieces.{edit_fails, edit_made}
use Rattle.tx_request.proofs.Streams.{err_as}
use Rattle.tx_request.proofs.read.edit.Goals as goal

pub returns-in_err-put-clause-streams : goal.returns-in_err-put-clause-streams
returns-in_err-put-clause-streams g c =
    err_as c.from_residual.result c.in_err-put.field-0.0 (edit_behind c.args.line) (g.I.Inlet.left c.args.inlet.now) (g.I.Inlet.left c.bytes_behind.new.inlet) c.from_residual.ensures.1
    (edit_fails c.args.line c.in_err-put.field-0.0 (g.I.Inlet.left c.args.inlet.now) (g.I.Inlet.left c.bytes_behind.new.inlet) c.in_err-put.ensures.streams)

pub returns-clause-streams : goal.returns-clause-streams
returns-clause-streams g c = edit_made c.args.line c.in_ok-put.put (g.I.Inlet.left c.args.inlet.now) (g.I.Inlet.left c.bytes_behind.new.inlet) c.in_ok-put.ensures.streams
