-- Boxes that are shipped or copied (TeX: The Program, section 638).
use Rattle.std.specs.Prelude.{pos, [], ◌∷◌, Some, Result, Ok, Err}
use Rattle.tx_box.specs.declared.parts.Target.{Target}
use Rattle.tx_box.specs.declared.parts.Work.{Work}
use Rattle.tx_box.specs.declared.parts.Work.TheVariants.{Build, Copy, CopyList, Ship, ShipPage}
use Rattle.tx_box.specs.Placing.{placed}
use Rattle.tx_boxing.specs.Pages.{with_pages}
use Rattle.tx_building.specs.Building.{built_in, exercising}
use Rattle.tx_building.specs.Carrying.{carried}
use Rattle.tx_makeup.specs.Shipping.{Sent, sending}
use Rattle.tx_node.specs.Items.{PackedBox}
use Rattle.tx_seen.specs.declared.error.TexError.{TexError}
use Rattle.tx_parts.specs.declared.parts.Due.TheVariants.{Boxes}
use Rattle.tx_state.specs.Ended.{with_items}
use Rattle.tx_state.specs.Outcomes.{Outcome, Ships, fails, leaves}
use Rattle.tx_state.specs.State.{TexState}

-- the page of a box, if it has one; the pages have its magnification and its fonts from then on
abbrev pub ships : TexState → Result Sent TexError → Outcome
ships s (Err error) = fails error
ships s (Ok sent) = Ships sent.page (record s { magnification = sent.magnification; defined = sent.defined })

-- a page that is shipped ends what dead cycles there were (section 638)
abbrev pub ships_box : TexState → PackedBox → Outcome
ships_box s box =
    ships (with_pages s (record s.lists.pages { dead_cycles = pos 0 })) (sending s.words.fonts s.magnification s.defined s.table.table box)

abbrev pub copies : TexState → PackedBox → Target → Outcome
copies s box target = carried s (placed target s.lists s.table (Some box))

-- copies go where they are to go, and a box that is to be shipped is
abbrev pub works_boxes : TexState → Work → Outcome
works_boxes s (Copy box target) = built_in target.context (copies s box target)
works_boxes s (CopyList list) = leaves (with_items s list)
works_boxes s (Ship box) = ships_box s box
works_boxes s (ShipPage box) = ships_box (record s { due = Boxes Build ∷ s.due }) box
works_boxes s Build = exercising s []
