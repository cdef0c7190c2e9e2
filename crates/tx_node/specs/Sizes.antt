-- How far items reach (TeX: The Program, sections 622 to 635).
use Rattle.std.specs.Prelude.{ℤ, pos, ◌+ℤ◌, Option, Some, None}
use Rattle.std.specs.Option.{unwrap_or}
use Rattle.tx_num.specs.Glue.{GlueSpec}
use Rattle.tx_node.specs.declared.character.Character.{Character as CharacterItem}
use Rattle.tx_node.specs.declared.head.BoxHead.{BoxHead}
use Rattle.tx_node.specs.declared.head.Direction.{Direction}
use Rattle.tx_node.specs.declared.head.Direction.TheVariants.{Horizontal, Vertical}
use Rattle.tx_node.specs.declared.plain.Plain.{Plain}
use Rattle.tx_node.specs.declared.plain.Plain.TheVariants.{Kern, Glue, Penalty, Character}
use Rattle.tx_node.specs.declared.plain.Shared.{Shared}
use Rattle.tx_node.specs.declared.plain.Shared.TheVariants.{Rule, Leaders, Special, Ligature, Mark}
use Rattle.tx_node.specs.declared.rule.Rule.{Rule as RuleSides}
use Rattle.tx_node.specs.Items.{Item, plain, shared, boxed, discretionary, adjustment, insertion, box_leaders}

-- the side of a rule, nothing where it runs
abbrev pub side : Option ℤ → ℤ
side given = unwrap_or given (pos 0)

-- the glue of an item: glue by itself, or that of leaders
abbrev pub plain_glue : Plain → Option GlueSpec
plain_glue (Kern kind size) = None
plain_glue (Glue g) = Some g
plain_glue (Penalty n) = None
plain_glue (Character c) = None

abbrev pub shared_glue : Shared → Option GlueSpec
shared_glue (Rule r) = None
shared_glue (Leaders l) = Some l.glue
shared_glue (Special text) = None
shared_glue (Ligature l) = None
shared_glue (Mark text) = None

abbrev pub glue_of_item : Item → Option GlueSpec
glue_of_item (plain p) = plain_glue p
glue_of_item (shared s) = shared_glue s
glue_of_item (boxed shift head inner) = None
glue_of_item (discretionary head before behind) = None
glue_of_item (adjustment inner) = None
glue_of_item (insertion head inner) = None
glue_of_item (box_leaders head repeated inner) = Some head.glue

-- how far a character, a rule and a box reach in a list of this direction
abbrev pub character_advance : Direction → CharacterItem → ℤ
character_advance Horizontal c = c.width
character_advance Vertical c = c.height +ℤ c.depth

abbrev pub rule_advance : Direction → RuleSides → ℤ
rule_advance Horizontal r = side r.width
rule_advance Vertical r = side r.height +ℤ side r.depth

abbrev pub box_advance : Direction → BoxHead → ℤ
box_advance Horizontal head = head.width
box_advance Vertical head = head.height +ℤ head.depth

-- how far an item moves the reference point naturally: to the right in a horizontal list, down in a vertical one; the no-break
-- text of a discretionary stands behind it, as items of the list
abbrev pub plain_advance : Direction → Plain → ℤ
plain_advance direction (Kern kind size) = size
plain_advance direction (Glue g) = g.width
plain_advance direction (Penalty n) = pos 0
plain_advance direction (Character c) = character_advance direction c

abbrev pub shared_advance : Direction → Shared → ℤ
shared_advance direction (Rule r) = rule_advance direction r
shared_advance direction (Leaders l) = l.glue.width
shared_advance direction (Special text) = pos 0
shared_advance direction (Ligature l) = character_advance direction l.character
shared_advance direction (Mark text) = pos 0

abbrev pub advance : Direction → Item → ℤ
advance direction (plain p) = plain_advance direction p
advance direction (shared s) = shared_advance direction s
advance direction (boxed shift head inner) = box_advance direction head
advance direction (discretionary head before behind) = pos 0
advance direction (adjustment inner) = pos 0
advance direction (insertion head inner) = pos 0
advance direction (box_leaders head repeated inner) = head.glue.width
