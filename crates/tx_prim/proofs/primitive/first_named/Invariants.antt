use Rattle.std.proofs.Common.{◌≡◌, drop}
use Rattle.tx_prim.specs.Table.{named}
use Rattle.tx_prim.proofs.primitive.first_named.Given as goal

-- none of those so far has the name
abbrev pub invariant-loop-primitive : goal.invariant-loop-primitive
invariant-loop-primitive l = named (drop l.primitive-index l.primitives) l.name ≡ named l.primitives l.name
