use Rattle.tx_scan.proofs.Mappings.{fewer-mapped}
use Rattle.tx_command.specs.declared.scans.Whole.TheVariants.{Command}
use Rattle.tx_command.specs.Rests.{more_needed}
use Rattle.tx_reading.proofs.Told.{goes-mapped}
use Rattle.tx_reading.proofs.stage.give_other.Goals as goal

pub returns-clause-given : goal.returns-clause-given
returns-clause-given c = λ mode head. rw (c.put_whole.ensures.made c.give_part.new.scans) (c.in_ok-fed.ensures.given mode head)

pub returns-clause-needs : goal.returns-clause-needs
returns-clause-needs c =
    rw c.put_whole.ensures.answer (fewer-mapped (λ _. Command) (more_needed c.args.scans.now) (more_needed c.give_part.new.scans) c.in_ok-fed.fed c.in_ok-fed.ensures.needs)

pub returns-clause-on : goal.returns-clause-on
returns-clause-on c = rw c.put_whole.ensures.answer (goes-mapped (λ _. Command) c.give_part.new.scans c.in_ok-fed.fed c.in_ok-fed.ensures.on)
