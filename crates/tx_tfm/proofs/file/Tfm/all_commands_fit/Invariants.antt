use Rattle.std.proofs.Common.{◌≡◌, true}
use Rattle.tx_tfm.specs.Rules.{every, command_fits}
use Rattle.tx_tfm.proofs.file.Tfm.all_commands_fit.Given as goal

abbrev pub invariant-loop-k : goal.invariant-loop-k
invariant-loop-k l = every l.k (command_fits l.self) ≡ true
