use Rattle.std.proofs.Common.{sym, ◌∙◌}
use Rattle.tx_tfm.proofs.Pairs.{is_none, pair_ends-without}
use Rattle.tx_tfm.proofs.file.Tfm.pair_ends.Goals as goal

pub returns-then-is_none : goal.returns-then-is_none
returns-then-is_none c =
    let met = sym (c.meets.ensures c.args.self.now c.requires) ∙ is_none c.meets.result c.if-is_none.ensures in
    sym (pair_ends-without c.args.self.now c.args.left c.args.right (rw (← c.piece-left.ensures, ← c.piece-right.ensures) met))
