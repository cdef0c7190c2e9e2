use Rattle.std.proofs.Common.{ap}
use Rattle.tx_session.specs.Held.{fresh}
use Rattle.tx_call.specs.declared.tally.Tally.{Tally}
use Rattle.tx_call.specs.Outcome.{first_piece}
use Rattle.tx_call.specs.Pieces.{saved_pieces}
use Rattle.tx_call.specs.Replay.{Moment, opened, moment_after, pieces_from, refusal_at}
use Rattle.tx_call.proofs.Sessions.{first-cut, commands-cut, last-cut, all-done}
use Rattle.tx_call.proofs.run.run_session.Goals as goal

pub returns-in_err-say_run-clause-puts : goal.returns-in_err-say_run-clause-puts
returns-in_err-say_run-clause-puts g c =
    first-cut
    (first_piece (fresh g.M.Machine.formatter c.args.session.now).ran)
    (pieces_from g.M.Machine.formatter (opened c.args.session.now) c.args.commands.now)
    (saved_pieces c.args.out.now (fresh g.M.Machine.formatter (moment_after (opened c.args.session.now) c.args.commands.now).held).ran)
    (refusal_at g.M.Machine.formatter c.args.out.now (opened c.args.session.now) c.args.commands.now) (g.K.Sink.output c.args.sink.now)
    c.from_residual.result c.in_err-say_run.field-0.0 _ c.from_residual.ensures.1 c.in_err-say_run.ensures.puts

pub returns-in_err-tally-clause-puts : goal.returns-in_err-tally-clause-puts
returns-in_err-tally-clause-puts g c =
    commands-cut
    (first_piece (fresh g.M.Machine.formatter c.args.session.now).ran)
    (pieces_from g.M.Machine.formatter (opened c.args.session.now) c.args.commands.now)
    (saved_pieces c.args.out.now (fresh g.M.Machine.formatter (moment_after (opened c.args.session.now) c.args.commands.now).held).ran)
    (refusal_at g.M.Machine.formatter c.args.out.now (opened c.args.session.now) c.args.commands.now) (g.K.Sink.output c.args.sink.now)
    Tally c.from_residual-in_err-tally.result c.in_err-tally.field-0.0 _ _ c.from_residual-in_err-tally.ensures.1 c.in_ok-say_run.ensures.puts c.in_err-tally.ensures.puts

pub returns-in_err-save_document-clause-puts : goal.returns-in_err-save_document-clause-puts
returns-in_err-save_document-clause-puts g c =
    last-cut
    (first_piece (fresh g.M.Machine.formatter c.args.session.now).ran)
    (pieces_from g.M.Machine.formatter (opened c.args.session.now) c.args.commands.now)
    (saved_pieces c.args.out.now (fresh g.M.Machine.formatter (moment_after (opened c.args.session.now) c.args.commands.now).held).ran)
    (refusal_at g.M.Machine.formatter c.args.out.now (opened c.args.session.now) c.args.commands.now) (g.K.Sink.output c.args.sink.now)
    c.from_residual-in_err-save_document.result c.in_err-save_document.field-0.0 _ _ _ _ c.from_residual-in_err-save_document.ensures.1 c.in_ok-say_run.ensures.puts c.in_ok-tally.ensures.puts
    (ap (λ (t : Moment). saved_pieces c.args.out.now (fresh g.M.Machine.formatter t.held).ran) c.in_ok-tally.ensures.moment) c.in_err-save_document.ensures.puts

pub returns-clause-puts : goal.returns-clause-puts
returns-clause-puts g c =
    all-done
    (first_piece (fresh g.M.Machine.formatter c.args.session.now).ran)
    (pieces_from g.M.Machine.formatter (opened c.args.session.now) c.args.commands.now)
    (saved_pieces c.args.out.now (fresh g.M.Machine.formatter (moment_after (opened c.args.session.now) c.args.commands.now).held).ran)
    (refusal_at g.M.Machine.formatter c.args.out.now (opened c.args.session.now) c.args.commands.now) (g.K.Sink.output c.args.sink.now)
    0 _ _ _ _ c.in_ok-say_run.ensures.puts c.in_ok-tally.ensures.puts
    (ap (λ (t : Moment). saved_pieces c.args.out.now (fresh g.M.Machine.formatter t.held).ran) c.in_ok-tally.ensures.moment) c.in_ok-save_document.ensures.puts
