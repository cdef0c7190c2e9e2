use Rattle.std.proofs.Common.{◌≡◌, drop}
use Rattle.tx_pagebuilder.specs.Fired.{box_of, is_hbox}
use Rattle.tx_pagebuilder.proofs.joining.is_hbox.Given as goal

abbrev pub invariant-loop-found : goal.invariant-loop-found
invariant-loop-found l = is_hbox (box_of l.number (drop l.found-index l.boxes)) ≡ is_hbox (box_of l.number l.boxes)
