use Rattle.std.proofs.Common.{refl}
use Rattle.tx_script.specs.Reading.{count_at}
use Rattle.tx_script.proofs.element.count.Goals as goal

pub loop-at-init : goal.loop-at-init
unfolding count_at
loop-at-init c = refl
