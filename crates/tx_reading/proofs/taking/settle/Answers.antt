use Rattle.std.proofs.Common.{◌∙◌}
use Rattle.tx_scan.specs.Rests.{HasTakenBy}
use Rattle.tx_scan.proofs.Answering.{last-given}
use Rattle.tx_scan.proofs.Settling.{pending-settled}
use Rattle.tx_command.specs.Commands.{command}
use Rattle.tx_command.specs.Rests.{command_rest, held, more_needed, told}
use Rattle.tx_reading.proofs.Settling.{value-behind}
use Rattle.tx_reading.proofs.Told.{told-no-need}
use Rattle.tx_reading.proofs.taking.settle.Goals as goal

pub loop-fed-preserved-in_ok-fed-in-Need : goal.loop-fed-preserved-in_ok-fed-in-Need
loop-fed-preserved-in_ok-fed-in-Need g c = record {
  pending = λ mode head items p.
      rw c.in_ok-fed-in-Need.ensures.taken
      (value-behind (g.Q.Quantities.value_at c.args.quantities.now) mode head items c.loop-fed.taken c.in-Need.kind c.loop-fed.scans c.give.new.scans c.give.new.made c.args.behind.now c.in_ok-fed-in-Need.fed
      (rw c.in-Need.is at (c.loop-fed.invariant.pending mode head items p)) (rw c.in-Need.is at c.loop-fed.invariant.on).1 c.loop-fed.invariant.behind_is
      (c.in_ok-fed-in-Need.ensures.given mode head) c.in_ok-fed-in-Need.ensures.needs);
  behind_is = rw c.in_ok-fed-in-Need.ensures.taken (last-given 1 c.loop-fed.taken _ ∙ c.loop-fed.invariant.behind_is);
  on = c.in_ok-fed-in-Need.ensures.on;
}

pub loop-fed-preserved : goal.loop-fed-preserved
loop-fed-preserved g c = record {
  pending = λ mode head items p.
      rw c.in_ok-fed-in-Need.ensures.taken
      (value-behind (g.Q.Quantities.value_at c.args.quantities.now) mode head items c.loop-fed.taken c.in-Need.kind c.loop-fed.scans c.give.new.scans c.give.new.made c.args.behind.now c.in_ok-fed-in-Need.fed
      (rw c.in-Need.is at (c.loop-fed.invariant.pending mode head items p)) (rw c.in-Need.is at c.loop-fed.invariant.on).1 c.loop-fed.invariant.behind_is
      (c.in_ok-fed-in-Need.ensures.given mode head) c.in_ok-fed-in-Need.ensures.needs);
  behind_is = rw c.in_ok-fed-in-Need.ensures.taken (last-given 1 c.loop-fed.taken _ ∙ c.loop-fed.invariant.behind_is);
  on = c.in_ok-fed-in-Need.ensures.on;
}

pub returns-in_default-clause-settled : goal.returns-in_default-clause-settled
returns-in_default-clause-settled g c = λ mode head items p.
    pending-settled (g.Q.Quantities.value_at c.args.quantities.now) (command mode head) (HasTakenBy (command_rest mode head) held (command mode head)) more_needed items c.loop-fed.taken c.loop-fed.scans (told c.loop-fed.scans c.loop-fed.made c.loop-fed.fed)
    (told-no-need c.loop-fed.scans c.loop-fed.made c.loop-fed.fed c.in_default.not-Need) (c.loop-fed.invariant.pending mode head items p)
