use Rattle.std.proofs.Common.{◌≡◌, map}
use Rattle.tx_char.specs.Category.{numbers_below}
use Rattle.tx_eqtb.specs.Initex.{initial_code}
use Rattle.tx_eqtb.proofs.initex.initial_codes.Given as goal

-- the characters below this one have their codes
abbrev pub invariant-loop-code : goal.invariant-loop-code
invariant-loop-code l = l.codes.items ≡ map (initial_code l.kind) (numbers_below l.code)
