use Rattle.std.proofs.Common.{◌≡◌, ◌+◌, drop}
use Rattle.tx_io.specs.Inlet.{line_len}
use Rattle.tx_io.proofs.steady.line_len.Given as goal

abbrev pub invariant-loop-at : goal.invariant-loop-at
invariant-loop-at l = l.at + line_len (drop l.at l.bytes) ≡ line_len l.bytes
