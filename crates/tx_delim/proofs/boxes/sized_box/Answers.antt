use Rattle.std.proofs.Common.{arith}
use Rattle.tx_delim.proofs.Naturals.{natural_fits}
use Rattle.tx_delim.proofs.boxes.sized_box.Goals as goal

pub new-requires : goal.new-requires
new-requires c = record { nesting = omega (arith, c.nesting.ensures.value, c.if-nesting-ge-MOST_NESTING.false); is_set = tt; sums = natural_fits c.args.list }
