use Rattle.std.proofs.Common.{sym, ◌∙◌}
use Rattle.tx_reading.proofs.Stages.{variable-in}
use Rattle.tx_reading.proofs.stage.variable_in.Goals as goal

pub returns-in-Stands : goal.returns-in-Stands
returns-in-Stands c = variable-in c.args.mode c.args.meaning.now c.of_meaning.result (sym c.standing_in.ensures ∙ c.in-Stands.is) c.of_meaning.ensures
