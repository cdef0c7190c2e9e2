-- The whole command that stands in a buffer.
use Rattle.tx_assign.specs.declared.types.Assignment.{Assignment}
use Rattle.tx_command.specs.declared.scans.Whole.{Whole}
use Rattle.tx_command.specs.declared.scans.Whole.TheVariants as which
use Rattle.tx_command.specs.declared.types.Command.{Command}
use Rattle.tx_command.specs.declared.types.Command.TheVariants.{Assign}

-- the assignment that a scan has made, or the other command
abbrev pub command_in : Whole → Assignment → Command → Command
command_in which.Assignment a c = Assign a
command_in which.Command a c = c
