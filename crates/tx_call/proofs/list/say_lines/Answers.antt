use Rattle.std.proofs.Common.{◌∙◌}
use Rattle.tx_call.proofs.Puts.{puts-cut}
use Rattle.tx_call.proofs.SaidLines.{said-cut, said-on}
use Rattle.tx_call.proofs.list.say_lines.Goals as goal

pub returns-in_err-say_line-clause-puts : goal.returns-in_err-say_line-clause-puts
returns-in_err-say_line-clause-puts g c =
    puts-cut c.from_residual.result c.from_residual.ensures.0
    (said-cut c.args.lines.now _ c.line-item.result _ c.loop-line.invariant.so_far c.loop-line-test.true c.line-item.is c.in_err-say_line.ensures.puts)

pub loop-line-preserved : goal.loop-line-preserved
loop-line-preserved g c = record {
  so_far = said-on _ c.args.lines.now _ c.line-item.result c.loop-line.invariant.so_far c.loop-line-test.true c.line-item.is c.in_ok-say_line.ensures.puts;
  faults = c.in_ok-say_line.ensures.causes ∙ c.loop-line.invariant.faults;
}
