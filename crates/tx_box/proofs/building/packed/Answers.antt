use Rattle.std.proofs.Common.{rules}
use Rattle.tx_box.proofs.building.packed.Goals as goal
use Rattle.tx_box.proofs.building.packed.Goals.{else-holds-via-then-holds+then-holds-2+else-holds-3, else-holds-via-then-holds+else-holds-2, else-holds-via-else-holds}

-- one of the sizes is no dimension
pub returns-else-holds-clause-error : goal.returns-else-holds-clause-error
returns-else-holds-clause-error c _ =
    elim c.else-holds.branch [
      | else-holds-via-then-holds+then-holds-2+else-holds-3 w ↦ search rules
      | else-holds-via-then-holds+else-holds-2 w ↦ search rules
      | else-holds-via-else-holds w ↦ search rules
    ]
