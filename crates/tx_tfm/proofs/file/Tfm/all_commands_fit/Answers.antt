use Rattle.std.proofs.Common.{sym, arith}
use Rattle.tx_tfm.specs.Rules.{all_commands_fit}
use Rattle.tx_tfm.proofs.Every.{every-fails}
use Rattle.tx_tfm.proofs.file.Tfm.all_commands_fit.Goals as goal

pub returns-then-not-command_fits : goal.returns-then-not-command_fits
unfolding all_commands_fit
returns-then-not-command_fits c = sym (every-fails (c.args.self.now.lengths.commands) c.loop-k.k _ (omega arith) (sym c.if-not-command_fits.ensures))
