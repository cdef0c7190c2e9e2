use Rattle.std.proofs.Common.{◌≡◌, drop}
use Rattle.tx_script.specs.declared.error.Rule.TheVariants.{Number}
use Rattle.tx_script.specs.Reading.{further_number, number_at, scan, whole_number}
use Rattle.tx_script.proofs.element.number.Given as goal

abbrev pub invariant-loop-at : goal.invariant-loop-at
invariant-loop-at l = scan Number 32 whole_number further_number l.known (drop l.at l.bytes) ≡ number_at l.bytes
