use Rattle.std.proofs.Common.{◌≡◌, drop}
use Rattle.tx_script.specs.Reading.{literal_at}
use Rattle.tx_script.proofs.element.literal.Given as goal

abbrev pub invariant-loop-wanted : goal.invariant-loop-wanted
invariant-loop-wanted l = literal_at l.rule (drop l.wanted-index l.text) l.rest ≡ literal_at l.rule l.text l.bytes
