use Rattle.tx_quiesce.proofs.Suffix.{same-rests}
use Rattle.tx_quiesce.proofs.laws.suffix_law.Goals as goal

pub returns : goal.returns
returns g c before after budget most_old most_new state old new alike asks =
    same-rests g.M.Machine.formatter before after budget most_old most_new state old new alike asks
