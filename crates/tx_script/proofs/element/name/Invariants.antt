use Rattle.std.proofs.Common.{◌≡◌, drop, take}
use Rattle.tx_script.specs.declared.error.Rule.TheVariants.{Name}
use Rattle.tx_script.specs.Reading.{name_at, scan, whole_name, with_letter}
use Rattle.tx_script.proofs.element.name.Given as goal

abbrev pub invariant-loop-at : goal.invariant-loop-at
invariant-loop-at l = scan Name 10 whole_name with_letter (take l.at l.bytes) (drop l.at l.bytes) ≡ name_at l.bytes
