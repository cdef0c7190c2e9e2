use Rattle.tx_macro.proofs.OneUse.{one-use}
use Rattle.tx_macro.proofs.Standings.{use-stands}
use Rattle.tx_macro.proofs.laws.arguments_are_what_stands_in_a_use.Goals as goal

pub returns : goal.returns
returns c = record {
  stands = λ m tokens texts h. use-stands m tokens texts h;
  only = λ m tokens texts rest others left one other. one-use m tokens texts rest others left one other;
}
