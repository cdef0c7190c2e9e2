use Rattle.std.proofs.Common.{◌≡◌, rules, true, to_z, of_z, w64}
use Rattle.tx_galley.specs.Assigning.{may_have}
use Rattle.tx_galley.proofs.Values.{is_value}
use Rattle.tx_galley.proofs.assigning.set_if.Goals as goal

pub set-requires : goal.set-requires
set-requires c =
    let may : may_have c.args.quantity (to_z w64 (of_z w64 c.args.value)) ≡ true = search rules in
    is_value c.args.quantity _ may
