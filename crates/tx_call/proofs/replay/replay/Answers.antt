use Rattle.std.proofs.Common.{rules, ◌∙◌}
use Rattle.tx_call.specs.declared.tally.Tally.{Tally}
use Rattle.tx_call.specs.Replay.{Replays, opened, pieces_from, refusal_at}
use Rattle.tx_call.proofs.Replayed.{replayed-on, replayed-cut, on-err}
use Rattle.tx_call.proofs.replay.replay.Goals as goal

pub returns-in_err-run_command-clause-puts : goal.returns-in_err-run_command-clause-puts
returns-in_err-run_command-clause-puts g c =
    on-err c.from_residual.result c.in_err-run_command.field-0.0
    (λ r. Replays (pieces_from g.M.Machine.formatter (opened c.args.session.now) c.args.commands.now) (refusal_at g.M.Machine.formatter c.args.out.now (opened c.args.session.now) c.args.commands.now) r (g.K.Sink.output c.args.sink.now) (g.K.Sink.output c.run_command.new.sink))
    c.from_residual.ensures.1
    (replayed-cut g.M.Machine.formatter (Unit {0}) Tally c.args.out.now (g.K.Sink.output c.run_command.new.sink) c.command-item.result c.in_err-run_command.field-0.0 c.loop-command.invariant.so_far c.loop-command-test.true c.command-item.is
    c.in_err-run_command.ensures.puts (search rules))

pub loop-command-preserved : goal.loop-command-preserved
loop-command-preserved g c = record {
  so_far = replayed-on g.M.Machine.formatter c.command-item.result c.loop-command.invariant.so_far c.loop-command-test.true c.command-item.is c.in_ok-run_command.ensures.moment c.in_ok-run_command.ensures.puts c.in_ok-run_command.ensures.counted c.in_ok-run_command.ensures.edits c.in_ok-run_command.ensures.places;
  faults = c.in_ok-run_command.ensures.causes ∙ c.loop-command.invariant.faults;
}
