use Rattle.std.proofs.Common.{◌≡◌, ◌+◌, drop}
use Rattle.tx_pagebuilder.specs.Inserts.{place_of}
use Rattle.tx_pagebuilder.proofs.classes.place_of.Given as goal

abbrev pub invariant-loop-place : goal.invariant-loop-place
invariant-loop-place l = l.place + place_of l.number (drop l.place l.classes) ≡ place_of l.number l.classes
