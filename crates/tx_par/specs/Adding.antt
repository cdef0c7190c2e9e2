-- A part of a list is added to a line item by item. No public clause speaks of it.
use Rattle.std.specs.Prelude.{Bool, if◌then◌else◌}
use Rattle.tx_node.specs.Items.{Item}
use Rattle.tx_par.specs.declared.line.Line.{Line}
use Rattle.tx_par.specs.LineLists.{stays, with_item}

-- an item that stays in lines
abbrev pub with_kept : Bool → Line → Item → Line
with_kept first_pass line item = if stays first_pass item then with_item line item else line
