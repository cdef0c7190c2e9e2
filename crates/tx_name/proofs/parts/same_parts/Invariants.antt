use Rattle.std.proofs.Common.{◌≡◌, take, map}
use Rattle.std.specs.Rc.{rc_value}
use Rattle.tx_name.proofs.parts.same_parts.Given as goal

-- the parts so far hold the same
abbrev pub invariant-loop-k : goal.invariant-loop-k
invariant-loop-k g l = map rc_value (take l.k l.some) ≡ map rc_value (take l.k l.others)
