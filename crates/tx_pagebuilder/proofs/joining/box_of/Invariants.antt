use Rattle.std.proofs.Common.{◌≡◌, drop}
use Rattle.tx_pagebuilder.specs.Fired.{box_of}
use Rattle.tx_pagebuilder.proofs.joining.box_of.Given as goal

abbrev pub invariant-loop-found : goal.invariant-loop-found
invariant-loop-found l = box_of l.number (drop l.found-index l.boxes) ≡ box_of l.number l.boxes
