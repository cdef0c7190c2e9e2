use Rattle.std.proofs.Common.{◌≡◌, drop}
use Rattle.tx_script.specs.declared.error.Rule.TheVariants.{Number}
use Rattle.tx_script.specs.Reading.{scan, whole_number}
use Rattle.tx_request.specs.Reading.{further_size, size_at}
use Rattle.tx_request.proofs.first.size.Given as goal

abbrev pub invariant-loop-at : goal.invariant-loop-at
invariant-loop-at l = scan Number 32 whole_number further_size l.known (drop l.at l.bytes) ≡ size_at l.bytes
