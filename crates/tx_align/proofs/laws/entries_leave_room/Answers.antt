use Rattle.tx_align.proofs.Extents.{leaves_room}
use Rattle.tx_align.proofs.laws.entries_leave_room.Goals as goal

pub returns : goal.returns
returns c p = leaves_room p
