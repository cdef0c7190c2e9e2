use Rattle.std.proofs.Common.{◌≡◌, drop}
use Rattle.tx_script.specs.declared.error.Rule.TheVariants.{Count}
use Rattle.tx_script.specs.Reading.{further_count, count_at, scan, whole_number}
use Rattle.tx_script.proofs.element.count.Given as goal

abbrev pub invariant-loop-at : goal.invariant-loop-at
invariant-loop-at l = scan Count 10 whole_number further_count l.known (drop l.at l.bytes) ≡ count_at l.bytes
