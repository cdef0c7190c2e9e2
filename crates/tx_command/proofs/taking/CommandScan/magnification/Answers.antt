use Rattle.std.proofs.Common.{◌≡◌, ◌∙◌, ◌-◌, length, rules, sym, Some}
use Rattle.std.specs.Prelude.{slice_get}
use Rattle.tx_scan.proofs.LastTaken.{last-is}
use Rattle.tx_command.proofs.taking.CommandScan.magnification.Goals as goal

pub returns-in-Some : goal.returns-in-Some
returns-in-Some c =
    let at_end : slice_get c.self.inside.taken (length c.self.inside.taken - 1) ≡ Some c.in-Some.item.now = first_of (search rules, cc) in
    rw (← c.self.view_is) (c.magnification.ensures ∙ sym (last-is c.self.inside.taken c.in-Some.item.now at_end))
