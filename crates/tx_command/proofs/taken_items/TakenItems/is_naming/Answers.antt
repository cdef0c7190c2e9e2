use Rattle.tx_command.proofs.NameParts.{naming-is}
use Rattle.tx_command.proofs.taken_items.TakenItems.is_naming.Goals as goal

pub returns : goal.returns
returns c = rw (← c.self.view_is) (naming-is c.self.inside.part c.self.inside.items c.is_name.result c.self.invariant c.is_name.ensures)
