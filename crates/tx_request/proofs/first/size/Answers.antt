use Rattle.std.proofs.Common.{refl}
use Rattle.tx_request.specs.Reading.{size_at}
use Rattle.tx_request.proofs.first.size.Goals as goal

pub loop-at-init : goal.loop-at-init
unfolding size_at
loop-at-init c = refl
