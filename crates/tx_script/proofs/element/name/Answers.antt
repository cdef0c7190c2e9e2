use Rattle.std.proofs.Common.{refl}
use Rattle.tx_script.specs.Reading.{name_at}
use Rattle.tx_script.proofs.element.name.Goals as goal

pub loop-at-init : goal.loop-at-init
unfolding name_at
loop-at-init c = refl
