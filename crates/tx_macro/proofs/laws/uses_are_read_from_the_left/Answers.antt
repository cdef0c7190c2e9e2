use Rattle.tx_macro.proofs.ReadingOn.{reads-on}
use Rattle.tx_macro.proofs.Completing.{a-part-begins}
use Rattle.tx_macro.proofs.laws.uses_are_read_from_the_left.Goals as goal

pub returns : goal.returns
returns c = record {
  stands = λ m tokens more. reads-on m tokens more;
  part = λ m tokens h. a-part-begins m tokens h;
}
