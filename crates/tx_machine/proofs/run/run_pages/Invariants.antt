use Rattle.std.proofs.Common.{◌≡◌, ◌-◌, []}
use Rattle.tx_machine.specs.Run.{run_from}
use Rattle.tx_machine.proofs.Running.{Running}
use Rattle.tx_machine.proofs.run.run_pages.Given as goal

abbrev pub invariant-loop-page : goal.invariant-loop-page
invariant-loop-page g l = record {
  so_far : Running g.M.Machine.formatter l.files l.limits.budget
      (run_from g.M.Machine.formatter l.files l.limits.budget l.limits.pages (g.M.Machine.meaning l.initial.spot.state) l.initial.spot.opens)
      (l.limits.pages - l._page) (g.M.Machine.meaning l.spot.state) l.spot.opens l.pages l.pieces l.initial.steps l.steps;
  taken : g.M.Machine.pending l.spot.state ≡ [];
}
