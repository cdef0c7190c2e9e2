use Rattle.tx_request.specs.Reading.{request_behind}
use Rattle.tx_request.specs.declared.request.Request.TheVariants.{Command, Page, Log, LogOf}
use Rattle.tx_script.specs.declared.command.Command.TheVariants.{Save, Locate}
use Rattle.tx_request.proofs.Pieces.{locates, logs, logs_of, pages, request_batches, request_batches_not, request_changes, request_changes_not, request_ends, request_fills, request_fills_not, saves}
use Rattle.tx_request.proofs.Streams.{err_as}
use Rattle.tx_request.proofs.read.behind.Goals as goal

pub returns-in_err-change-in-Change-clause-streams : goal.returns-in_err-change-in-Change-clause-streams
returns-in_err-change-in-Change-clause-streams g c =
    err_as c.from_residual.result c.in_err-change-in-Change.field-0.0 (request_behind c.args.head) (g.I.Inlet.left c.args.inlet.now) (g.I.Inlet.left c.change.new.inlet) c.from_residual.ensures.1
    (request_changes_not c.args.head c.in-Change.line c.in-Change.is c.in_err-change-in-Change.field-0.0 (g.I.Inlet.left c.args.inlet.now) (g.I.Inlet.left c.change.new.inlet) c.in_err-change-in-Change.ensures.streams)

pub returns-in_err-changes-in-Batch-clause-streams : goal.returns-in_err-changes-in-Batch-clause-streams
returns-in_err-changes-in-Batch-clause-streams g c =
    err_as c.from_residual-in_err-changes-in-Batch.result c.in_err-changes-in-Batch.field-0.0 (request_behind c.args.head) (g.I.Inlet.left c.args.inlet.now) (g.I.Inlet.left c.changes.new.inlet) c.from_residual-in_err-changes-in-Batch.ensures.1
    (request_batches_not c.args.head c.in-Batch.count c.in-Batch.is c.in_err-changes-in-Batch.field-0.0 (g.I.Inlet.left c.args.inlet.now) (g.I.Inlet.left c.changes.new.inlet) c.in_err-changes-in-Batch.ensures.streams)

pub returns-in_err-contents-in-File-clause-streams : goal.returns-in_err-contents-in-File-clause-streams
returns-in_err-contents-in-File-clause-streams g c =
    err_as c.from_residual-in_err-contents-in-File.result c.in_err-contents-in-File.field-0.0 (request_behind c.args.head) (g.I.Inlet.left c.args.inlet.now) (g.I.Inlet.left c.bytes_behind.new.inlet) c.from_residual-in_err-contents-in-File.ensures.1
    (request_fills_not c.args.head c.in-File.size c.in-File.name c.in-File.is c.in_err-contents-in-File.field-0.0 (g.I.Inlet.left c.args.inlet.now) (g.I.Inlet.left c.bytes_behind.new.inlet) c.in_err-contents-in-File.ensures.streams)

pub returns-in_ok-change-in-Change-clause-streams : goal.returns-in_ok-change-in-Change-clause-streams
returns-in_ok-change-in-Change-clause-streams g c =
    request_changes c.args.head c.in-Change.line c.in-Change.is c.in_ok-change-in-Change.change (g.I.Inlet.left c.args.inlet.now) (g.I.Inlet.left c.change.new.inlet) c.in_ok-change-in-Change.ensures.streams

pub returns-in_ok-changes-in-Batch-clause-streams : goal.returns-in_ok-changes-in-Batch-clause-streams
returns-in_ok-changes-in-Batch-clause-streams g c =
    request_batches c.args.head c.in-Batch.count c.in-Batch.is c.in_ok-changes-in-Batch.changes (g.I.Inlet.left c.args.inlet.now) (g.I.Inlet.left c.changes.new.inlet) c.in_ok-changes-in-Batch.ensures.streams

pub returns-in_ok-contents-in-File-clause-streams : goal.returns-in_ok-contents-in-File-clause-streams
returns-in_ok-contents-in-File-clause-streams g c =
    request_fills c.args.head c.in-File.size c.in-File.name c.in-File.is c.in_ok-contents-in-File.contents (g.I.Inlet.left c.args.inlet.now) (g.I.Inlet.left c.bytes_behind.new.inlet) c.in_ok-contents-in-File.ensures.streams

pub returns-in-Save-clause-streams : goal.returns-in-Save-clause-streams
returns-in-Save-clause-streams g c = request_ends c.args.head (Command (Save c.in-Save.name)) (saves c.args.head c.in-Save.name c.in-Save.is) (g.I.Inlet.left c.args.inlet.now)

pub returns-in-Locate-clause-streams : goal.returns-in-Locate-clause-streams
returns-in-Locate-clause-streams g c = request_ends c.args.head (Command (Locate c.in-Locate.at)) (locates c.args.head c.in-Locate.at c.in-Locate.is) (g.I.Inlet.left c.args.inlet.now)

pub returns-in-Page-clause-streams : goal.returns-in-Page-clause-streams
returns-in-Page-clause-streams g c = request_ends c.args.head (Page c.in-Page.number) (pages c.args.head c.in-Page.number c.in-Page.is) (g.I.Inlet.left c.args.inlet.now)

pub returns-in-Log-clause-streams : goal.returns-in-Log-clause-streams
returns-in-Log-clause-streams g c = request_ends c.args.head Log (logs c.args.head c.in-Log.is) (g.I.Inlet.left c.args.inlet.now)

pub returns-in-LogOf-clause-streams : goal.returns-in-LogOf-clause-streams
returns-in-LogOf-clause-streams g c = request_ends c.args.head (LogOf c.in-LogOf.number) (logs_of c.args.head c.in-LogOf.number c.in-LogOf.is) (g.I.Inlet.left c.args.inlet.now)
