-- The kern of \/ (TeX: The Program, section 1113).
use Rattle.std.specs.Prelude.{◌-◌, ℤ, List, length, slice_get, Option, Some, None, option_and_then}
use Rattle.tx_node.specs.declared.plain.Plain.{Plain}
use Rattle.tx_node.specs.declared.plain.Plain.TheVariants.{Kern, Glue, Penalty, Character}
use Rattle.tx_node.specs.declared.plain.Shared.{Shared}
use Rattle.tx_node.specs.declared.plain.Shared.TheVariants.{Rule, Leaders, Special, Ligature, Mark}
use Rattle.tx_node.specs.Items.{Item, plain, shared, boxed, discretionary, adjustment, insertion, box_leaders}
use Rattle.tx_tfm.specs.declared.state.FontState.{FontState}
use Rattle.tx_tfm.specs.Fonts.{character_italic}

-- the italic correction of a character or a ligature, in its font; None of other items
abbrev pub plain_italic : List FontState → Plain → Option ℤ
plain_italic fonts (Kern kind size) = None
plain_italic fonts (Glue g) = None
plain_italic fonts (Penalty n) = None
plain_italic fonts (Character c) = Some (character_italic fonts c.font c.code)

abbrev pub shared_italic : List FontState → Shared → Option ℤ
shared_italic fonts (Rule r) = None
shared_italic fonts (Leaders l) = None
shared_italic fonts (Special text) = None
shared_italic fonts (Ligature l) = Some (character_italic fonts l.character.font l.character.code)
shared_italic fonts (Mark text) = None

abbrev pub item_italic : List FontState → Item → Option ℤ
item_italic fonts (plain p) = plain_italic fonts p
item_italic fonts (shared s) = shared_italic fonts s
item_italic fonts (boxed shift head inner) = None
item_italic fonts (discretionary replaced pre post) = None
item_italic fonts (adjustment inner) = None
item_italic fonts (insertion inserted inner) = None
item_italic fonts (box_leaders head repeated inner) = None

-- that of the last item
abbrev pub last_italic : List FontState → List Item → Option ℤ
last_italic fonts list = option_and_then (item_italic fonts) (slice_get list (length list - 1))
