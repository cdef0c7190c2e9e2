use Rattle.std.proofs.Common.{ℕ, List, take}
use Rattle.tx_io.specs.Inlet.{line_of}
use Rattle.tx_request.specs.Reading.{change_at}
use Rattle.tx_request.specs.Streaming.{most_line}
use Rattle.tx_request.proofs.Pieces.{change_untaken, next_fails, next_is}
use Rattle.tx_request.proofs.Streams.{err_as}
use Rattle.tx_request.proofs.read.next_change.Goals as goal

pub returns-in-Ok-clause-streams : goal.returns-in-Ok-clause-streams
returns-in-Ok-clause-streams g c =
    next_is c.in_ok-line.line c.as_slice.result.now c.as_slice.ensures c.in-Ok.found c.in-Ok.field-0-1.now c.in-Ok.ensures
    (g.I.Inlet.left c.args.inlet.now) (g.I.Inlet.left c.next_line.new.inlet) (g.I.Inlet.left c.change.new.inlet) c.in_ok-line.ensures.took c.change.result c.change.ensures.streams

pub returns-clause-streams : goal.returns-clause-streams
returns-clause-streams g c =
    next_fails c.in_ok-line.line c.as_slice.result.now c.as_slice-in-Err.result.now c.as_slice.ensures c.as_slice-in-Err.ensures c.in-Err.fault c.in-Err.ensures c.refused_in.result c.refused_in.ensures
    (g.I.Inlet.left c.args.inlet.now) (g.I.Inlet.left c.next_line.new.inlet) c.in_ok-line.ensures.took

pub returns-in_err-line-clause-streams : goal.returns-in_err-line-clause-streams
returns-in_err-line-clause-streams g c =
    err_as c.from_residual.result c.in_err-line.field-0.0 change_at (g.I.Inlet.left c.args.inlet.now) (g.I.Inlet.left c.next_line.new.inlet) c.from_residual.ensures.1
    (change_untaken c.in_err-line.field-0.0 (λ (bytes : List ℕ). take most_line (line_of bytes)) (g.I.Inlet.left c.args.inlet.now) (g.I.Inlet.left c.next_line.new.inlet) c.in_err-line.ensures.took)
