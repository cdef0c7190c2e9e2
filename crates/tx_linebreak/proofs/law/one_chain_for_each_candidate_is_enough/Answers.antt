use Rattle.tx_linebreak.proofs.Kept.{one-is-enough}
use Rattle.tx_linebreak.proofs.law.one_chain_for_each_candidate_is_enough.Goals as goal

pub returns : goal.returns
returns c = one-is-enough
