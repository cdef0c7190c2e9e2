use Rattle.std.proofs.lemmas.List.{get_or-replicate}
use Rattle.std.proofs.Common.{false}
use Rattle.tx_tfm.proofs.ligatures.Filling.new.Goals as goal

pub returns : goal.returns
returns c = record { met = λ k less. get_or-replicate 256 k false false less; row = c.new.ensures }
