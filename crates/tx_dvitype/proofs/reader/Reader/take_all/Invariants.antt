use Rattle.std.proofs.Common.{◌≡◌, drop}
use Rattle.tx_dvitype.specs.Files.{rest_read}
use Rattle.tx_dvitype.proofs.reader.Reader.take_all.Given as goal

abbrev pub invariant-loop-at : goal.invariant-loop-at
invariant-loop-at l = rest_read l.at l.self (drop l.at l.bytes) ≡ rest_read 0 l.initial.self l.bytes
