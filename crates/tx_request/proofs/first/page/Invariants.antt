use Rattle.std.proofs.Common.{◌≡◌, drop}
use Rattle.tx_script.specs.declared.error.Rule.TheVariants.{Page}
use Rattle.tx_script.specs.Reading.{further_number, scan, whole_number}
use Rattle.tx_request.specs.Reading.{page_at}
use Rattle.tx_request.proofs.first.page.Given as goal

abbrev pub invariant-loop-at : goal.invariant-loop-at
invariant-loop-at l = scan Page 10 whole_number further_number l.known (drop l.at l.bytes) ≡ page_at l.bytes
