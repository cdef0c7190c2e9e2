-- Boxes of \vtop (TeX: The Program, section 1087).
use Rattle.std.specs.Prelude.{ℤ, pos, ◌+ℤ◌, ◌-ℤ◌, List, [], ◌∷◌, Option, Some, None, Result, Ok, Err}
use Rattle.tx_node.specs.declared.plain.Plain.{Plain}
use Rattle.tx_node.specs.declared.plain.Plain.TheVariants.{Kern, Glue, Penalty, Character}
use Rattle.tx_node.specs.declared.plain.Shared.{Shared}
use Rattle.tx_node.specs.declared.plain.Shared.TheVariants.{Rule, Leaders, Special, Ligature, Mark}
use Rattle.tx_node.specs.Items.{Item, plain, shared, boxed, discretionary, adjustment, insertion, box_leaders, PackedBox}
use Rattle.tx_node.specs.Sizes.{side}
use Rattle.tx_pack.specs.declared.types.Goal.{Goal}
use Rattle.tx_pack.specs.declared.types.PackParams.{PackParams}
use Rattle.tx_pack.specs.declared.types.Packed.{Packed}
use Rattle.tx_pack.specs.declared.types.PackError.{PackError}
use Rattle.tx_pack.specs.declared.types.PackError.TheVariants.{SizeOutOfRange}
use Rattle.tx_pack.specs.Packing.{if_fits, vpacked}

-- the height of a list's first item, which is that of a box, a rule or a character, and 0 of all else and of the empty list
abbrev pub plain_top : Plain → ℤ
plain_top (Kern kind size) = pos 0
plain_top (Glue g) = pos 0
plain_top (Penalty n) = pos 0
plain_top (Character c) = c.height

abbrev pub shared_top : Shared → ℤ
shared_top (Rule r) = side r.height
shared_top (Leaders l) = pos 0
shared_top (Special text) = pos 0
shared_top (Ligature l) = l.character.height
shared_top (Mark text) = pos 0

abbrev pub item_top : Item → ℤ
item_top (plain p) = plain_top p
item_top (shared s) = shared_top s
item_top (boxed shift head inner) = head.height
item_top (discretionary replaced pre post) = pos 0
item_top (adjustment inner) = pos 0
item_top (insertion inserted inner) = pos 0
item_top (box_leaders head repeated inner) = pos 0

abbrev pub top_of : List Item → ℤ
top_of [] = pos 0
top_of (item ∷ rest) = item_top item

-- a box with this height and depth, the second of which has to be a dimension
abbrev pub reset_to : PackedBox → ℤ → Option ℤ → Result PackedBox PackError
reset_to b height None = Err SizeOutOfRange
reset_to b height (Some depth) = Ok (record b { head = record b.head { height = height; depth = depth } })

-- the box with the height of its first item; what is below that is its depth, so both together stay as they are
abbrev pub topped : PackedBox → Result PackedBox PackError
topped b = reset_to b (top_of b.list) (if_fits (b.head.height +ℤ b.head.depth -ℤ top_of b.list))

-- the box of \vtop: it is packed, and reported, as a \vbox is, and then reset
abbrev pub as_top : Packed → Result PackedBox PackError → Result Packed PackError
as_top made (Err e) = Err e
as_top made (Ok b) = Ok (record made { node = b })

abbrev pub topped_if : Result Packed PackError → Result Packed PackError
topped_if (Err e) = Err e
topped_if (Ok made) = as_top made (topped made.node)

abbrev pub top_packed : List Item → Goal → ℤ → PackParams → Result Packed PackError
top_packed list goal most params = topped_if (vpacked list goal most params)
