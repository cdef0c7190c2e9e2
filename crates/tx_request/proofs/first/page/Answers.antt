use Rattle.std.proofs.Common.{refl}
use Rattle.tx_request.specs.Reading.{page_at}
use Rattle.tx_request.proofs.first.page.Goals as goal

pub loop-at-init : goal.loop-at-init
unfolding page_at
loop-at-init c = refl
