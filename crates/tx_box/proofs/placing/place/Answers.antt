use Rattle.std.proofs.Common.{◌≡◌, rules, to_z, of_z, w32}
use Rattle.tx_box.proofs.placing.place.Goals as goal

pub returns-in-Append : goal.returns-in-Append
returns-in-Append c =
    let same : to_z w32 (of_z w32 c.in-Append.shift) ≡ c.in-Append.shift = search rules in
    rw c.in-Append.is (rw same at (c.append.ensures c.args.target.global))

pub returns-in-Ship : goal.returns-in-Ship
returns-in-Ship c = rw c.in-Ship.is (c.ship.ensures c.args.target.global c.args.lists.now c.args.table.now)

pub returns-in-Center : goal.returns-in-Center
returns-in-Center c = rw c.in-Center.is (c.center.ensures c.args.target.global c.args.table.now)

pub returns-in-Adjust : goal.returns-in-Adjust
returns-in-Adjust c = rw c.in-Adjust.is (c.adjust.ensures c.args.target.global c.args.table.now)

pub returns-in-Lead : goal.returns-in-Lead
returns-in-Lead c = rw c.in-Lead.is (c.lead.ensures c.args.target.global c.args.lists.now c.args.table.now)
