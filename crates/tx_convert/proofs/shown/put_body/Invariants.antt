use Rattle.std.proofs.Common.{◌≡◌, ◌++◌, ◌≤◌, length, drop}
use Rattle.tx_toklist.specs.Bodies.{ArePlaced}
use Rattle.tx_convert.specs.Meanings.{body_from}
use Rattle.tx_convert.proofs.shown.put_body.Given as goal

abbrev pub invariant-loop-slot : goal.invariant-loop-slot
invariant-loop-slot l =
    (l.text ++ body_from l.escape l.codes l.fonts l.sign l.tokens l.from (drop l.slot-index l.slots) ≡ l.initial.text ++ body_from l.escape l.codes l.fonts l.sign l.tokens 0 l.slots)
    × (ArePlaced l.from (length l.tokens) (drop l.slot-index l.slots) × (l.from ≤ length l.tokens))
