use Rattle.std.proofs.Common.{◌≡◌, ◌<◌, drop}
use Rattle.tx_char.specs.Letters.{mixed}
use Rattle.tx_char.proofs.letters.mixed.Given as goal

-- the rest of the bytes mixed into the number so far gives the number of them all
abbrev pub invariant-loop-byte : goal.invariant-loop-byte
invariant-loop-byte l = (l.number < 4294967296) × (mixed l.number (drop l.byte-index l.bytes) ≡ mixed 0 l.bytes)
