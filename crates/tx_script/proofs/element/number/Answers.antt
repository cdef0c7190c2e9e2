use Rattle.std.proofs.Common.{refl}
use Rattle.tx_script.specs.Reading.{number_at}
use Rattle.tx_script.proofs.element.number.Goals as goal

pub loop-at-init : goal.loop-at-init
unfolding number_at
loop-at-init c = refl
