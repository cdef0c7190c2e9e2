use Rattle.std.proofs.Common.{◌≡◌, false, ◌+ℤ◌, arith}
use Rattle.tx_dvitype.specs.Partial.{is_within}
use Rattle.tx_dvitype.proofs.Near.{far, false-right}
use Rattle.tx_dvitype.proofs.movement.down_by.Goals as goal

pub returns-in-None : goal.returns-in-None
returns-in-None c =
    let below : is_within (c.args.now.v +ℤ c.args.size) ≡ false = grind (arith, far) in
    false-right (is_within c.args.now.h) (is_within (c.args.now.v +ℤ c.args.size)) below
