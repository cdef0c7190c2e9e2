use Rattle.tx_scan.proofs.Extending.{a-part-ends}
use Rattle.tx_scan.proofs.ReadingOn.{reads-on}
use Rattle.tx_scan.proofs.laws.integers_are_read_from_the_left.Goals as goal

pub returns : goal.returns
returns c = record {
  stands = λ items more. reads-on more items;
  part = λ items want h. a-part-ends items want h;
}
