use Rattle.std.proofs.Common.{◌≡◌, drop}
use Rattle.tx_align.specs.Widths.{sized_from}
use Rattle.tx_align.proofs.widths.put_all.Given as goal

abbrev pub invariant-loop-ending : goal.invariant-loop-ending
invariant-loop-ending l = sized_from l.preamble l.sizing (drop l.ending-index l.groups) ≡ sized_from l.preamble l.initial.sizing l.groups
