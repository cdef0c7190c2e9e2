use Rattle.tx_word.proofs.Divided.{part-is}
use Rattle.tx_word.proofs.divide.part.Goals as goal

pub returns : goal.returns
returns c = part-is c.args.chars.now c.args.from c.args.to _ _ c.min-end.ensures c.min-begin.ensures
