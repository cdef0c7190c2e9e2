use Rattle.std.proofs.Common.{rules}
use Rattle.tx_io.proofs.Along.{along-is, here-is}
use Rattle.tx_io.proofs.places.places.Goals.{then-goes_along+in_ok-folders+in_ok-append_places, else-goes_along}
use Rattle.tx_io.proofs.places.places.Goals as goal

pub returns : goal.returns
returns c = elim c.if-goes_along.branch [
  | then-goes_along+in_ok-folders+in_ok-append_places w ↦
      along-is c.args.path.now c.args.name.now _ c.if-goes_along.places.items (search rules) w.in_ok-folders.ensures (search rules)
  | else-goes_along w ↦ here-is c.args.path.now c.args.name.now c.if-goes_along.places.items (search rules) (search rules)
]
