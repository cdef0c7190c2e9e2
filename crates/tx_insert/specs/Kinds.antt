-- What items are where a vertical list is broken, and where breaks are legal (TeX: The Program, sections 968, 972 and 973).
use Rattle.std.specs.Prelude.{Bool, true, false, ◌&&◌, ◌||◌, ◌==◌, not, ℤ, pos, int_lt, unsigned_abs, List, [], ◌∷◌, map, Option, Some, None, if◌then◌else◌}
use Rattle.tx_node.specs.declared.character.Character.{Character as CharacterItem}
use Rattle.tx_node.specs.declared.plain.Plain.{Plain}
use Rattle.tx_node.specs.declared.plain.Plain.TheVariants.{Kern, Glue, Penalty, Character}
use Rattle.tx_node.specs.declared.plain.Shared.{Shared}
use Rattle.tx_node.specs.declared.plain.Shared.TheVariants.{Rule, Leaders, Special, Ligature, Mark}
use Rattle.tx_node.specs.declared.rule.Rule.{Rule as RuleSides}
use Rattle.tx_node.specs.Items.{Item, plain, shared, boxed, discretionary, adjustment, insertion, box_leaders}
use Rattle.tx_node.specs.Sizes.{side}
use Rattle.tx_insert.specs.declared.kind.Kind.{Kind}
use Rattle.tx_insert.specs.declared.kind.Kind.TheVariants.{Solid, Skip, Kern as KernKind, Penalty as PenaltyKind, Still}

-- a box or a rule is solid, with a height and a depth; leaders count as glue; what has no size and isn't discarded, as specials, marks and
-- insertions, stands still
abbrev pub rule_kind : RuleSides → Kind
rule_kind r = Solid (side r.height) (side r.depth)

abbrev pub character_kind : CharacterItem → Kind
character_kind c = Solid c.height c.depth

abbrev pub plain_kind : Plain → Kind
plain_kind (Kern kind size) = KernKind size
plain_kind (Glue g) = Skip g
plain_kind (Penalty n) = PenaltyKind n
plain_kind (Character c) = character_kind c

abbrev pub shared_kind : Shared → Kind
shared_kind (Rule r) = rule_kind r
shared_kind (Leaders l) = Skip l.glue
shared_kind (Special text) = Still
shared_kind (Ligature l) = character_kind l.character
shared_kind (Mark text) = Still

abbrev pub kind_of : Item → Kind
kind_of (plain p) = plain_kind p
kind_of (shared s) = shared_kind s
kind_of (boxed shift head inner) = Solid head.height head.depth
kind_of (discretionary head before behind) = Still
kind_of (adjustment inner) = Still
kind_of (insertion head inner) = Still
kind_of (box_leaders head repeated inner) = Skip head.glue

abbrev pub kinds_of : List Item → List Kind
kinds_of list = map kind_of list

-- what isn't discarded behind a break
abbrev pub stays : Kind → Bool
stays (Solid height depth) = true
stays (Skip g) = false
stays (KernKind size) = false
stays (PenaltyKind n) = false
stays Still = true

abbrev pub is_glue : Kind → Bool
is_glue (Solid height depth) = false
is_glue (Skip g) = true
is_glue (KernKind size) = false
is_glue (PenaltyKind n) = false
is_glue Still = false

abbrev pub begins_with_glue : List Kind → Bool
begins_with_glue [] = false
begins_with_glue (kind ∷ rest) = is_glue kind

-- the penalty of a break at an item, None where no break is legal: at glue right behind an item that stays, at a kern right before
-- glue, at a penalty below 10000
abbrev pub penalty_if : Bool → ℤ → Option ℤ
penalty_if legal penalty = if legal then Some penalty else None

abbrev pub penalty_at : Bool → Kind → Bool → Option ℤ
penalty_at after_solid (Solid height depth) before_glue = None
penalty_at after_solid (Skip g) before_glue = penalty_if after_solid (pos 0)
penalty_at after_solid (KernKind size) before_glue = penalty_if before_glue (pos 0)
penalty_at after_solid (PenaltyKind n) before_glue = penalty_if (int_lt n (pos 10000)) n
penalty_at after_solid Still before_glue = None

-- glue with infinite shrink that isn't 0
abbrev pub shrinks_endlessly : Kind → Bool
shrinks_endlessly (Solid height depth) = false
shrinks_endlessly (Skip g) = not (unsigned_abs g.shrink == 0) && not (g.shrink_order == 0)
shrinks_endlessly (KernKind size) = false
shrinks_endlessly (PenaltyKind n) = false
shrinks_endlessly Still = false

-- a list with such glue can't be broken
abbrev pub is_endless : List Item → Bool
is_endless [] = false
is_endless (item ∷ rest) = shrinks_endlessly (kind_of item) || is_endless rest
