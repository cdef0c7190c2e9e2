use Rattle.std.proofs.lemmas.Result.{on_ok_weaker}
use Rattle.tx_eqtb.proofs.Within.{from_level}
use Rattle.tx_eqtb.proofs.nesting.assign_from.Goals as goal

pub returns : goal.returns
returns c = on_ok_weaker c.assign_each.result (λ is. from_level c.args.level c.args.place.now c.args.value.now c.args.groups.now c.assign_each.new.groups is) c.assign_each.ensures
