use Rattle.tx_machine.proofs.PageCounts.{few_of}
use Rattle.tx_machine.proofs.Running.{run-bound}
use Rattle.tx_machine.proofs.run.fresh_run.Goals as goal

pub returns-clause-bound : goal.returns-clause-bound
returns-clause-bound g c = run-bound g.M.Machine.formatter c.args.files.now c.args.limits.now.budget g.met.M.Machine.lawful c.args.limits.now.pages c.args.steps.now c.in_ok-start.ensures.state c.new.ensures c.run_pages.ensures.bound

pub returns-clause-few : goal.returns-clause-few
returns-clause-few g c = few_of g.M.Machine.formatter c.args.files.now c.args.limits.now.budget c.args.limits.now.pages _ _ c.run_pages.result c.run_pages.ensures.ran
