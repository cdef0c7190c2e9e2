-- TeX keeps the laws of every machine.
use Rattle.tx_machine.specs.Machine.{IsLawful}
use Rattle.tx_turn.specs.Lawful.{lawful-with}
use Rattle.tx_main.specs.Turns.{tex, tex_effects}

pub tex-lawful : IsLawful tex
unfolding tex
tex-lawful = lawful-with tex_effects
