use Rattle.std.proofs.Common.{◌≡◌, drop}
use Rattle.tx_scan.specs.FileNames.{has_dot}
use Rattle.tx_scan.proofs.file_name.has_dot.Given as goal

abbrev pub invariant-loop-code : goal.invariant-loop-code
invariant-loop-code l = has_dot l.name ≡ has_dot (drop l.code-index l.name)
