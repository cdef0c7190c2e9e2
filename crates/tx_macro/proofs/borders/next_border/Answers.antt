use Rattle.std.proofs.Common.{arith}
use Rattle.tx_macro.proofs.Tables.{border-more, table-fewer, border-within}
use Rattle.tx_macro.proofs.borders.next_border.Goals as goal

pub agreed-requires-clause-within : goal.agreed-requires-clause-within
agreed-requires-clause-within c = omega (arith, border-within c.args.delimiter.now c.args.k c.args.border c.requires.border)

pub agreed-requires-clause-table : goal.agreed-requires-clause-table
agreed-requires-clause-table c =
    table-fewer c.args.delimiter.now c.args.borders.now c.args.k c.args.border c.requires.table
    (omega (arith, border-within c.args.delimiter.now c.args.k c.args.border c.requires.border))

pub returns : goal.returns
returns c =
    border-more c.args.delimiter.now c.args.k c.args.border c.agreed.result c.index-delimiter-k.result c.requires.within (omega arith) c.index-delimiter-k.is c.requires.border c.agreed.ensures
