use Rattle.std.proofs.Common.{sym}
use Rattle.tx_tfm.proofs.Rows.{row-without}
use Rattle.tx_tfm.proofs.file.Tfm.ligature_row.Goals as goal

pub returns-in-None : goal.returns-in-None
returns-in-None c = rw c.new.ensures (row-without c.args.self.now c.args.left (sym c.in-None.ensures.value))
