use Rattle.std.proofs.Common.{◌≡◌, take, map}
use Rattle.tx_prim.specs.Integers.{initial_integer}
use Rattle.tx_eqtb.proofs.initex.initial_integers.Given as goal

-- the parameters so far have their values
abbrev pub invariant-loop-parameter : goal.invariant-loop-parameter
invariant-loop-parameter l = l.values.items ≡ map (initial_integer l.begun) (take l.parameter-index l.parameters)
