use Rattle.tx_word.proofs.Divided.{same-is}
use Rattle.tx_word.proofs.seam.same_items.Goals as goal

pub returns : goal.returns
returns c = same-is c.equal_items.result c.args.some.now c.args.others.now c.equal_items.ensures
