use Rattle.std.proofs.Common.{◌≡◌, drop, fold}
use Rattle.tx_ship.specs.Registers.{page_writer, write}
use Rattle.tx_ship.proofs.registers.registered.Given as goal

abbrev pub invariant-loop-byte : goal.invariant-loop-byte
invariant-loop-byte l = fold write l.writer (drop l.byte-index l.plain) ≡ fold write page_writer l.plain
