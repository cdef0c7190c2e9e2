use Rattle.std.proofs.Common.{arith}
use Rattle.std.proofs.lemmas.Int.{ints}
use Rattle.tx_node.specs.Nodes.{item_of}
use Rattle.tx_node.specs.Setting.{reach_of}
use Rattle.tx_node.proofs.Reaches.{behind-is}
use Rattle.tx_node.proofs.head.BoxHead.behind.Goals as goal

pub returns-clause-value : goal.returns-clause-value
returns-clause-value c =
    behind-is c.args.self.now.direction c.args.self.now.setting (reach_of c.args.reached) (item_of c.args.node.now)
    (omega (arith, ints, c.from.ensures, c.advance.ensures.value, c.advance.ensures.size, c.requires.natural))
    (omega (arith, ints, c.share.ensures.value, c.share.ensures.size, c.requires.sum))
